use Rattle.std.specs.Prelude.{◌/◌}
use Rattle.std.proofs.Common.{◌≡◌, ◌+◌, ◌*◌, ℕ, ap, drop, get_or, length, take, ◌∙◌, sym, arith, []}
use Rattle.cm_class.specs.Names.{utf8}
use Rattle.cm_record_layout.specs.Packing.{second_of, upper_of}
use Rattle.cm_record_rules.proofs.PlainNames.{front_of_more}
use Rattle.cm_record_rules.proofs.Whole.{its_utf8, no_utf8}
use Rattle.cm_record_rules.proofs.laid.LaidClass.filled_utf8.Goals as goal

pub returns-then-tag-ne-UTF8_TAG : goal.returns-then-tag-ne-UTF8_TAG
returns-then-tag-ne-UTF8_TAG c =
    let none = no_utf8 c.args.self.now c.args.index c.tag.result c.tag.ensures
    c.if-tag-ne-UTF8_TAG.true in
    ap (λ text. take (length text) []) (sym none) ∙ none

pub returns : goal.returns
returns c =
    let bytes = c.self.inside.bytes.now in
    let text = utf8 c.args.self.now c.args.index in
    let word = c.word_at-word.result in
    let at = c.from-2.ensures ∙ c.upper.ensures in
    let here : word ≡ get_or c.self.inside.words.now (8 + c.args.index) 0 =
    c.word_at-word.ensures ∙ ap (λ k. get_or c.self.inside.words.now (8 + k) 0) c.from.ensures in
    let there : take (second_of word) (drop (8 * upper_of word) bytes) ≡ text =
    its_utf8 c.args.self.now c.self.inside.words.now bytes c.self.inside.tags.now c.self.invariant
    c.self.view_is c.args.index c.tag.result word c.tag.ensures c.if-tag-ne-UTF8_TAG.false here in
    let size : ℕ = (c.from-3.result + 7) / 8 * 8 in
    ap (take (length text)) (c.run_bytes.ensures ∙ ap (λ a. take size (drop (8 * a) bytes)) at)
    ∙ front_of_more (second_of word) size (drop (8 * upper_of word) bytes) text
    (omega (arith, c.from-3.ensures, c.second.ensures)) there
