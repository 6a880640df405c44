use Rattle.std.proofs.Common.{ap, ◌∷◌, [], ◌+◌, ◌*◌, ◌≡◌, ◌∙◌, arith}
use Rattle.cm_class.specs.Spelling.{u1, u2}
use Rattle.cm_record_laying.proofs.ConstantsLaid.{handle_laid, both_spelled}
use Rattle.cm_record_laying.proofs.constants.lay_handle.Goals as goal

pub returns : goal.returns
returns c =
    let one = c.in_ok-kind.ensures {u = tt} in
    let two = c.in_ok-reference.ensures {u = tt} in
    handle_laid c.args.bytes.now c.in_ok-reference.rest.now c.in_ok-kind.kind
    c.in_ok-reference.reference _ c.args.sections.now c.push_word.new.self one.1 two.1
    (both_spelled c.args.bytes.now (u1 c.in_ok-kind.kind) c.in_ok-kind.rest.now
    (u2 c.in_ok-reference.reference) c.in_ok-reference.rest.now one.0 two.0)
    (c.in_ok-push_word.ensures {u = tt})
    (ap (λ n. n ∷ [])
    (omega (arith, c.tag.ensures.number, c.from-tag.ensures, c.from.ensures, c.from-2.ensures)))
