use Rattle.std.proofs.Common.{ap, ◌∷◌, [], ◌+◌, ◌*◌, ◌≡◌, ◌∙◌, arith}
use Rattle.cm_record_laying.proofs.ConstantsLaid.{bits_laid}
use Rattle.cm_record_laying.proofs.constants.lay_bits.Goals as goal

pub returns : goal.returns
returns c =
    let read = c.in_ok-bits.ensures {u = tt} in
    bits_laid c.args.kind c.requires c.args.bytes.now c.in_ok-bits.rest.now c.in_ok-bits.bits _
    c.args.sections.now c.push_word.new.self read.1 read.0 (c.in_ok-push_word.ensures {u = tt})
    (ap (λ n. n ∷ []) (omega (arith, c.tag.ensures.number, c.from.ensures, c.from-2.ensures)))
