use Rattle.std.proofs.Common.{◌≡◌, ◌<◌, ◌∙◌, ℕ, Option, Some, length, ap, subst, sym, arith}
use Rattle.std.proofs.Common.{get_or, ◌+◌}
use Rattle.std.specs.Prelude.{option_map}
use Rattle.std.proofs.lemmas.Option.{slice_get-get_or}
use Rattle.cm_class.specs.Names.{class_name as class_name_at}
use Rattle.cm_record_layout.specs.Packing.{first_of}
use Rattle.cm_record_parts.specs.Places.{LieAt, MayLieAt}
use Rattle.cm_record_parts.proofs.PartPlaces.{interface_there}
use Rattle.cm_record_parts.proofs.class_parts.interface.Goals as goal

pub returns : goal.returns
returns c = λ d is.
    let i = c.args.index in
    let lt : i < length d.interfaces =
    omega (arith, c.if-index-interface_count.false, c.interface_count.ensures d is) in
    let x = get_or d.interfaces i 0 in
    let there = slice_get-get_or d.interfaces i 0 lt in
    let same : c.first.result ≡ x = c.first.ensures ∙ (ap first_of c.word_at.ensures
    ∙ interface_there d c.args.words.now is i x _ there
    (ap (λ n. n + i) c.offset_at.ensures)) in
    subst (λ (o : Option ℕ). MayLieAt c.args.words.now (Some c.name_place.result)
    (option_map (class_name_at d) o)) (sym there)
    (subst (λ (n : ℕ). LieAt c.args.words.now c.name_place.result (class_name_at d n)) same
    (c.name_place.ensures d is))
