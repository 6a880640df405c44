use Rattle.std.proofs.Common.{ap, ◌∷◌, [], ◌+◌, ◌*◌, ◌≡◌, ◌∙◌, arith}
use Rattle.cm_record_laying.proofs.Steps.{adds_then}
use Rattle.cm_record_laying.proofs.ConstantsLaid.{wide_laid}
use Rattle.cm_record_laying.proofs.constants.lay_wide.Goals as goal

pub returns : goal.returns
returns c =
    let read = c.in_ok-bits.ensures {u = tt} in
    wide_laid c.args.kind c.requires c.args.bytes.now c.in_ok-bits.rest.now c.in_ok-bits.bits _
    c.args.sections.now c.push_word-2.new.self read.1 read.0
    (adds_then c.args.sections.now c.push_word.new.self (c.from.result ∷ []) [] []
    (c.in_ok-push_word.ensures {u = tt}) c.push_word-2.new.self (c.in_ok-bits.bits ∷ []) [] []
    (c.in_ok-push_word-2.ensures {u = tt}))
    (ap (λ n. n ∷ c.in_ok-bits.bits ∷ []) (c.from.ensures ∙ c.tag.ensures.number))
