use Rattle.std.proofs.Common.{ap, ◌∷◌, [], ◌+◌, ◌*◌, ◌≡◌, ◌∙◌, arith}
use Rattle.cm_class.specs.Spelling.{u2}
use Rattle.cm_record_laying.proofs.ConstantsLaid.{pair_laid, both_spelled}
use Rattle.cm_record_laying.proofs.constants.lay_pair.Goals as goal

pub returns : goal.returns
returns c =
    let one = c.in_ok-first.ensures {u = tt} in
    let two = c.in_ok-second.ensures {u = tt} in
    pair_laid c.args.kind c.requires c.args.bytes.now c.in_ok-second.rest.now c.in_ok-first.first
    c.in_ok-second.second _ c.args.sections.now c.push_word.new.self one.1 two.1
    (both_spelled c.args.bytes.now (u2 c.in_ok-first.first) c.in_ok-first.rest.now
    (u2 c.in_ok-second.second) c.in_ok-second.rest.now one.0 two.0)
    (c.in_ok-push_word.ensures {u = tt})
    (ap (λ n. n ∷ [])
    (omega (arith, c.tag.ensures.number, c.from.ensures, c.from-2.ensures, c.from-3.ensures)))
