use Rattle.std.proofs.Common.{◌≡◌, ◌<◌, ◌≤◌, ◌+◌, ◌++◌, ◌∷◌, [], List, Bool, true, false, cond}
use Rattle.std.proofs.Common.{length, take, drop, refl, sym, ap, ◌∙◌, arith, length-append}
use Rattle.std.proofs.Common.{append-nil}
use Rattle.std.proofs.lemmas.List.{map-append, take_all}
use Rattle.cm_layout.specs.Rows.{bare, row_with}
use Rattle.cm_layout.specs.declared.row.Row.{Row}
use Rattle.cm_index.specs.declared.slot.BookSlot.{BookSlot}
use Rattle.cm_index.specs.Living.{living}
use Rattle.cm_index.proofs.{living-push}
use Rattle.cm_rows.proofs.Giving.{split-living, taken-living}
use Rattle.cm_rows.proofs.rows.copy_rows.Goals as goal
use Rattle.cm_rows.proofs.rows.copy_rows.Goals.{then-slot, else-slot}
use Rattle.cm_pool.proofs.{each-join}

more-live : {X : Type 0} (n : List X) (t : Bool) (x : X) (rest : List X) → t ≡ true
    → length n + 1 ≤ length (n ++ cond t (x ∷ rest) rest)
more-live n true x rest e = omega (arith, length-append n (x ∷ rest))
more-live n false x rest e = absurd (cc)

one-more : {X : Type 0} (n : List X) (t : Bool) (x : X) → t ≡ true → n ++ cond t (x ∷ []) []
    ≡ n ++ x ∷ []
one-more n true x e = refl
one-more n false x e = absurd (cc)

none-more : {X : Type 0} (n : List X) (t : Bool) (x : X) → t ≡ false → n ++ cond t (x ∷ []) [] ≡ n
none-more n true x e = absurd (cc)
none-more n false x e = append-nil n

pub push_living-requires : goal.push_living-requires
push_living-requires g c =
    let others = c.args.others.now in
    let i = c.loop-slot.slot-index in
    let s = c.slot-item.result in
    let h = c.loop-slot.invariant in
    let within : i < length others = omega (arith, c.loop-slot-test.true) in
    let more =
    more-live (living (take i others)) s.live s.item (living (drop (i + 1) others))
    c.if-slot.true in
    omega (
      arith,
      more,
      ap length (split-living others i s within c.slot-item.is),
      h.count,
      h.capacity,
      c.requires,
      c.clear.ensures.capacity,
      c.loop-slot.slots.ok.0,
    )

pub loop-slot-preserved : goal.loop-slot-preserved
loop-slot-preserved g c =
    let others = c.args.others.now in
    let i = c.loop-slot.slot-index in
    let s = c.slot-item.result in
    let h = c.loop-slot.invariant in
    let within : i < length others = omega (arith, c.loop-slot-test.true) in
    let taken = taken-living others i s within c.slot-item.is in
    elim c.if-slot.branch [
      | then-slot w ↦
          let next : living (take (i + 1) others) ≡ living (take i others) ++ s.item ∷ [] =
          taken ∙ one-more (living (take i others)) s.live s.item w.if-slot.true in
          let row = w.bare.result in
          let new : BookSlot (Row (Unit {0})) = record { item = row; live = true } in
          rw (w.slots-is, w.push_living.ensures.slots, next) (record {
            rows = living-push c.loop-slot.slots.items new refl ∙ ap (λ l. l ++ row ∷ []) h.rows
                ∙ ap (λ (r : Row (Unit {0})). bare (living (take i others)) ++ r ∷ [])
                w.bare.ensures ∙ sym
                (map-append (row_with (λ q. tt)) (living (take i others)) (s.item ∷ []));
            live = each-join (λ (s : BookSlot (Row (Unit {0}))). s.live
                ≡ true) c.loop-slot.slots.items
                (new ∷ []) h.live (refl, tt);
            count = omega (
              arith,
              h.count,
              length-append c.loop-slot.slots.items (new ∷ []),
              length-append (living (take i others)) (s.item ∷ []),
            );
            capacity = omega (arith, h.capacity, w.push_living.ensures.capacity);
          })
      | else-slot w ↦
          let next : living (take (i + 1) others) ≡ living (take i others) =
          taken ∙ none-more (living (take i others)) s.live s.item w.if-slot.false in
          rw (w.slots-is, next) h
    ]

pub returns-clause-rows : goal.returns-clause-rows
returns-clause-rows g c =
    c.loop-slot.invariant.rows ∙ ap (λ l. bare (living l))
    (take_all c.loop-slot.slot-index c.args.others.now c.loop-slot-test.false)

pub returns-clause-count : goal.returns-clause-count
returns-clause-count g c =
    c.loop-slot.invariant.count ∙ ap (λ l. length (living l))
    (take_all c.loop-slot.slot-index c.args.others.now c.loop-slot-test.false)
