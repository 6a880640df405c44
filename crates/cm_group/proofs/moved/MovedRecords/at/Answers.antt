use Rattle.std.proofs.Common.{◌≡◌, ℕ, ◌+◌, ◌^◌, ◌-◌, ◌<◌, List, [], ◌∷◌, map, length, Some, refl}
use Rattle.std.proofs.Common.{sym, ap, ◌∙◌, arith}
use Rattle.std.specs.Prelude.{min}
use Rattle.std.specs.Arc.{arc_value}
use Rattle.std.specs.List.{slice_get}
use Rattle.std.specs.Option.{option_map}
use Rattle.std.proofs.lemmas.Bool.{ltb-true}
use Rattle.std.proofs.lemmas.List.{length-map}
use Rattle.std.proofs.lemmas.Option.{slice_get-get_or, slice_get-map}
use Rattle.cm_group.specs.Groups.{offsets_from}
use Rattle.cm_group.proofs.moved.MovedRecords.at.Goals as goal
use Rattle.cm_group.proofs.moved.MovedRecords.at.Goals.{In_ok-class}

-- each record has an offset
as-many : (at : ℕ) (records : List (List ℕ)) → length (offsets_from at records) ≡ length records
as-many at [] = refl
as-many at (words ∷ records) =
    omega (arith, as-many (min (at + length words) (2 ^ 32 - 1)) records)

within : (c : In_ok-class) → c.args.number < length c.self.inside.records.items
within c =
    let lt = ltb-true c.args.number (length c.deref.result.now) (sym c.in_ok-class.ensures.lookup.0)
    in
    omega (arith, lt, ap length c.deref.ensures.value)

pub index-requires : goal.index-requires
index-requires c =
    omega (
      arith,
      within c,
      ap length c.self.invariant,
      as-many 0 (map arc_value c.self.inside.records.items),
      length-map c.self.inside.records.items arc_value,
      c.self.inside.offsets.ok.0,
    )

pub returns-clause-record : goal.returns-clause-record
returns-clause-record c =
    let moved = c.self.inside.records.items in
    let class = c.in_ok-class.class.now in
    let there : slice_get moved c.args.number ≡ Some class =
    sym (ap (λ l. slice_get l c.args.number) c.deref.ensures.value)
    ∙ slice_get-get_or c.deref.result.now c.args.number class
    (ltb-true c.args.number (length c.deref.result.now) (sym c.in_ok-class.ensures.lookup.0))
    ∙ sym (ap Some c.in_ok-class.ensures.lookup.1) in
    rw (← c.self.view_is)
    (slice_get-map arc_value moved c.args.number ∙ ap (option_map arc_value) there)

pub returns-clause-offset : goal.returns-clause-offset
returns-clause-offset c =
    let offsets = c.self.inside.offsets.items in
    let few = within (goal.at.returns-clause-offset c).In_ok-class in
    rw (← c.self.view_is)
    (sym (ap (λ (l : List ℕ). slice_get l c.args.number) c.self.invariant)
    ∙ slice_get-get_or offsets c.args.number c.index.result.now
    (omega (
      arith,
      few,
      ap length c.self.invariant,
      as-many 0 (map arc_value c.self.inside.records.items),
      length-map c.self.inside.records.items arc_value,
    ))
    ∙ sym (ap Some c.index.ensures))
