use Rattle.std.proofs.Common.{◌≡◌, ◌+◌, Some, ap, get_or, sym, ◌∙◌, arith}
use Rattle.cm_record_rules.proofs.Whole.{its_none, its_some}
use Rattle.cm_record_rules.proofs.laid.LaidClass.constant.Goals as goal

pub returns-in-None : goal.returns-in-None
returns-in-None c =
    its_none c.args.self.now c.self.inside.words.now c.self.inside.bytes.now
    c.self.inside.tags.now c.self.invariant c.self.view_is
    c.args.index c.from.result (c.from.ensures ∙ c.tag.ensures)
    (sym c.in-None.is ∙ c.from_tag.ensures)

pub returns-in-Some : goal.returns-in-Some
returns-in-Some c =
    let words = c.self.inside.words.now in
    let place : 8 + c.from-place.result ≡ 8 + c.args.index = omega (arith, c.from-place.ensures) in
    let behind : 8 + c.from-place.result + 1 ≡ 9 + c.args.index =
    omega (arith, c.from-place.ensures) in
    let word : c.word_at-word.result ≡ get_or words (8 + c.args.index) 0 =
    c.word_at-word.ensures ∙ ap (λ k. get_or words k 0) place in
    let next : c.word_at-next.result ≡ get_or words (9 + c.args.index) 0 =
    c.word_at-next.ensures ∙ ap (λ k. get_or words k 0) behind in
    ap Some c.constant_of.ensures
    ∙ its_some c.args.self.now c.self.inside.words.now c.self.inside.bytes.now
    c.self.inside.tags.now c.self.invariant c.self.view_is
    c.args.index c.from.result c.word_at-word.result c.word_at-next.result c.in-Some.kind
    (c.from.ensures ∙ c.tag.ensures) (sym c.in-Some.is ∙ c.from_tag.ensures) word next
