use Rattle.std.proofs.Common.{◌≡◌, Bool, Option, Some, true, false, sym, ap, subst, ◌∙◌, arith}
use Rattle.std.proofs.Common.{get_or}
use Rattle.std.proofs.lemmas.Option.{slice_get_within, get_or_from_slice_get}
use Rattle.cm_index.specs.declared.slot.BookSlot.{BookSlot}
use Rattle.cm_layout.specs.declared.row.Row.{Row}
use Rattle.cm_layout.specs.Rows.{kept_on}
use Rattle.cm_rows.specs.Links.{LinksBack, places_left, is_on, rows_to}
use Rattle.cm_rows.proofs.Backward.{Next, next-row, passes, comes-back, comes-from, before-less}
use Rattle.cm_rows.proofs.last_kept.newest_on.Goals as goal
use Rattle.cm_rows.proofs.last_kept.newest_on.Given.{Over}
use Rattle.cm_rows.proofs.last_kept.newest_on.Goals.{In-Some}

abbrev walk : (g : Over) (c : In-Some g)
    → LinksBack c.args.slots.now c.args.before.now c.args.last.chunk (Some c.in-Some.place)
    c.args.last.used
walk g c =
    subst (λ (o : Option _). LinksBack c.args.slots.now c.args.before.now c.args.last.chunk o
    c.args.last.used) c.in-Some.is c.loop-next.invariant.goes

abbrev row : (g : Over) (c : In-Some g)
    → Next (walk g c).loader c.args.slots.now c.in-Some.place
row g c =
    next-row c.args.slots.now c.args.before.now c.args.last.chunk c.in-Some.place c.args.last.used
    (walk g c)

pub bounds-slots-at : goal.bounds-slots-at
bounds-slots-at g c =
    omega (
      arith,
      slice_get_within c.args.slots.now c.in-Some.place _
          (row g (goal.at.bounds-slots-at g c).In-Some).there,
    )

pub offset_bounds-slots-at : goal.offset_bounds-slots-at
offset_bounds-slots-at g c =
    omega (
      arith,
      slice_get_within c.args.slots.now c.in-Some.place _
          (row g (goal.at.offset_bounds-slots-at g c).In-Some).there,
    )

-- what the test says about the row
tested : (g : Over) (c : In-Some g) (d : BookSlot (Row g.row.P.Denot)) (b t : Bool)
    → b ≡ is_on c.args.last.chunk (get_or c.args.slots.now c.in-Some.place d).item → b ≡ t
    → is_on c.args.last.chunk (row g c).row ≡ t
tested g c d b t told is =
    sym (ap (λ (s : BookSlot (Row g.row.P.Denot)). is_on c.args.last.chunk s.item)
    (get_or_from_slice_get c.args.slots.now c.in-Some.place _ d (row g c).there))
    ∙ (sym told ∙ is)

pub returns-then-is_on-clause-found : goal.returns-then-is_on-clause-found
returns-then-is_on-clause-found g c =
    let at = (goal.at.returns-then-is_on-clause-found g c).In-Some in
    let w = walk g at in
    comes-from c.args.last.chunk c.args.slots.now c.args.from (Some c.in-Some.place) c.in-Some.place
    (c.loop-next.invariant.kept
    ∙ ap (λ (o : Option _). kept_on c.args.last.chunk (rows_to o c.args.slots.now)) c.in-Some.is)
    (sym c.requires.used_is ∙ w.used_is)
    (comes-back c.args.slots.now c.args.before.now c.args.last.chunk c.in-Some.place
    c.args.last.used w
    (tested g at c.index-slots-at.result c.is_on.result true c.is_on.ensures c.if-is_on.true))

pub returns-then-is_on-clause-within : goal.returns-then-is_on-clause-within
returns-then-is_on-clause-within g c =
    omega (
      arith,
      slice_get_within c.args.slots.now c.in-Some.place _
          (row g (goal.at.returns-then-is_on-clause-within g c).In-Some).there,
    )

pub returns-then-is_on-clause-beside : goal.returns-then-is_on-clause-beside
returns-then-is_on-clause-beside g c =
    omega (
      arith,
      slice_get_within c.args.slots.now c.in-Some.place _
          (row g (goal.at.returns-then-is_on-clause-beside g c).In-Some).there,
      c.requires.linked.same,
    )

pub bounds-before-at : goal.bounds-before-at
bounds-before-at g c =
    omega (
      arith,
      slice_get_within c.args.slots.now c.in-Some.place _
          (row g (goal.at.bounds-before-at g c).In-Some).there,
      c.requires.linked.same,
    )

pub loop-next-smaller : goal.loop-next-smaller
loop-next-smaller g c =
    omega (
      arith,
      before-less c.args.slots.now c.args.before.now c.args.last.chunk c.in-Some.place
          c.args.last.used (walk g (goal.at.loop-next-smaller g c).In-Some),
      ap places_left c.in-Some.is,
    )

pub loop-next-preserved : goal.loop-next-preserved
loop-next-preserved g c =
    let at = (goal.at.loop-next-preserved g c).In-Some in
    let passed = passes c.args.slots.now c.args.before.now c.args.last.chunk c.in-Some.place
    c.args.last.used (walk g at)
    (tested g at c.index-slots-at.result c.is_on.result false c.is_on.ensures c.if-is_on.false) in
    record {
      goes = passed.0;
      kept = c.loop-next.invariant.kept
          ∙ (ap (λ (o : Option _). kept_on c.args.last.chunk (rows_to o c.args.slots.now))
          c.in-Some.is ∙ passed.1);
    }
