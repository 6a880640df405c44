use Rattle.std.proofs.Common.{◌≡◌, ◌-◌, ◌++◌, ◌∷◌, [], None, get_or, sym, ap, subst}
use Rattle.std.proofs.Common.{◌∙◌, arith}
use Rattle.std.proofs.lemmas.Option.{get_or_from_slice_get}
use Rattle.cm_index.specs.declared.slot.BookSlot.{BookSlot}
use Rattle.cm_layout.specs.Rows.{kept_on}
use Rattle.cm_layout.specs.declared.class_row.ClassRow.{ClassRow}
use Rattle.cm_layout.specs.declared.row.Row.{Row}
use Rattle.cm_layout.specs.declared.row.Row.TheVariants.{Loader, Class}
use Rattle.cm_rows.specs.Links.{ComesBack, LinksBack, rows_to}
use Rattle.cm_rows.proofs.Backward.{nothing-left, taken, found-row}
use Rattle.cm_rows.proofs.last_kept.LastKept.next.Goals as goal

pub returns-then-self-eq0 : goal.returns-then-self-eq0
returns-then-self-eq0 g c =
    let k = c.self.inside in
    rw (← c.self.view_is) (nothing-left k.slots.now k.before.now k.left.chunk k.next k.left.used
    c.self.invariant (omega (arith, c.if-self-eq0.true)))

pub returns-in_default : goal.returns-in_default
returns-in_default g c =
    let k = c.self.inside in
    let b : ComesBack k.left.chunk k.slots.now k.next c.in_ok-at.at = c.in_ok-at.ensures.found in
    let same : Class b.row b.kept ≡ Loader c.in_default.field-0 =
    sym (ap (λ (s : BookSlot (Row g.row.P.Denot)). s.item)
    (get_or_from_slice_get k.slots.now c.in_ok-at.at _ c.index-self-at.result b.is))
    ∙ c.in_default.is in
    absurd (cc)

pub overflow_sub-self : goal.overflow_sub-self
overflow_sub-self g c =
    let k = c.self.inside in
    let b : ComesBack k.left.chunk k.slots.now k.next c.in_ok-at.at = c.in_ok-at.ensures.found in
    let f = found-row k.slots.now k.left.chunk k.next c.in_ok-at.at b c.index-self-at.result
    c.in-Class.row c.in-Class.kept c.in-Class.is in
    omega (
      arith,
      b.words,
      c.self.invariant.used_is,
      ap (λ (r : ClassRow). r.place.words) f.0,
    )

pub invariant_of-self : goal.invariant_of-self
invariant_of-self g c =
    let k = c.self.inside in
    let b : ComesBack k.left.chunk k.slots.now k.next c.in_ok-at.at = c.in_ok-at.ensures.found in
    let f = found-row k.slots.now k.left.chunk k.next c.in_ok-at.at b c.index-self-at.result
    c.in-Class.row c.in-Class.kept c.in-Class.is in
    let t = taken k.slots.now k.before.now k.left.chunk k.next k.left.used c.in_ok-at.at
    c.self.invariant b in
    subst (λ (r : ClassRow). LinksBack k.slots.now k.before.now k.left.chunk
    (get_or k.before.now c.in_ok-at.at None) (k.left.used - r.place.words)) f.0 t.0

pub returns : goal.returns
returns g c =
    let k = c.self.inside in
    let b : ComesBack k.left.chunk k.slots.now k.next c.in_ok-at.at = c.in_ok-at.ensures.found in
    let f = found-row k.slots.now k.left.chunk k.next c.in_ok-at.at b c.index-self-at.result
    c.in-Class.row c.in-Class.kept c.in-Class.is in
    let t = taken k.slots.now k.before.now k.left.chunk k.next k.left.used c.in_ok-at.at
    c.self.invariant b in
    rw (← c.self.view_is)
    (t.1 ∙ ap (λ (p : g.row.P.Denot).
    kept_on k.left.chunk (rows_to (get_or k.before.now c.in_ok-at.at None) k.slots.now)
    ++ p ∷ []) f.1)
