use Rattle.std.proofs.Common.{◌≡◌, ◌∷◌, sym, ap, ◌∙◌}
use Rattle.cm_class.specs.Reading.{tag_number}
use Rattle.cm_record_laying.proofs.ConstantsLaid.{slots_laid, tag_is}
use Rattle.cm_record_laying.proofs.constants.lay_constant.Goals as goal

pub returns-clause-laid : goal.returns-clause-laid
returns-clause-laid c =
    let tag = c.in_ok-tag.ensures {u = tt} in
    let kind = c.in_ok-kind.kind in
    let number : c.in_ok-tag.tag ≡ tag_number kind =
    sym c.from.ensures ∙ tag_is c.from.result kind
    (sym c.from_tag.ensures ∙ c.in_ok-kind.was {u = tt}) in
    slots_laid kind c.args.bytes.now c.in_ok-tag.rest.now c.in_ok-rest.rest.now
    c.args.sections.now c.lay_info.new.sections (c.in_ok-rest.ensures {u = tt})
    (tag.0 ∙ ap (λ n. n ∷ c.in_ok-tag.rest.now) number) c.slots_taken.result c.slots_taken.ensures
