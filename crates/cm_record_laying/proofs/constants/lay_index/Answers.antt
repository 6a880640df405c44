use Rattle.std.proofs.Common.{ap, ◌∷◌, [], ◌+◌, ◌*◌, ◌≡◌, ◌∙◌, arith}
use Rattle.cm_record_laying.proofs.ConstantsLaid.{index_laid}
use Rattle.cm_record_laying.proofs.constants.lay_index.Goals as goal

pub returns : goal.returns
returns c =
    let read = c.in_ok-index.ensures {u = tt} in
    index_laid c.args.kind c.requires c.args.bytes.now c.in_ok-index.rest.now c.in_ok-index.index _
    c.args.sections.now c.push_word.new.self read.1 read.0 (c.in_ok-push_word.ensures {u = tt})
    (ap (λ n. n ∷ []) (omega (arith, c.tag.ensures.number, c.from.ensures, c.from-2.ensures)))
