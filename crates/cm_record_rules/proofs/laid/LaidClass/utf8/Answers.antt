use Rattle.std.proofs.Common.{◌≡◌, ◌+◌, ap, get_or, ◌∙◌}
use Rattle.cm_record_rules.specs.Laid.{run_bytes}
use Rattle.cm_record_rules.proofs.Whole.{its_utf8, no_utf8}
use Rattle.cm_record_rules.proofs.laid.LaidClass.utf8.Goals as goal

pub returns-then-tag-ne-UTF8_TAG : goal.returns-then-tag-ne-UTF8_TAG
returns-then-tag-ne-UTF8_TAG c =
    no_utf8 c.args.self.now c.args.index c.tag.result c.tag.ensures c.if-tag-ne-UTF8_TAG.true

pub returns : goal.returns
returns c =
    let at = c.from-2.ensures ∙ c.upper.ensures in
    let len = c.from-3.ensures ∙ c.second.ensures in
    let here : c.word_at-word.result ≡ get_or c.self.inside.words.now (8 + c.args.index) 0 =
    c.word_at-word.ensures ∙ ap (λ k. get_or c.self.inside.words.now (8 + k) 0) c.from.ensures in
    c.run_bytes.ensures
    ∙ ((λ i. run_bytes c.self.inside.bytes.now (at i) (len i))
    ∙ its_utf8 c.args.self.now c.self.inside.words.now c.self.inside.bytes.now
    c.self.inside.tags.now c.self.invariant c.self.view_is
    c.args.index c.tag.result c.word_at-word.result c.tag.ensures c.if-tag-ne-UTF8_TAG.false here)
