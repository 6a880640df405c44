use Rattle.std.proofs.Common.{◌≡◌, Bool, Option, ℕ, ◌-◌, Some, cond, true, refl, sym, ap, subst}
use Rattle.std.proofs.Common.{◌∙◌, arith, get_or, None}
use Rattle.std.proofs.lemmas.Option.{slice_get_within, get_or_from_slice_get}
use Rattle.cm_index.specs.declared.slot.BookSlot.{BookSlot}
use Rattle.cm_index.specs.Living.{moved_slot}
use Rattle.cm_layout.specs.declared.row.Row.{Row}
use Rattle.cm_layout.specs.Rows.{moved_row}
use Rattle.cm_rows.specs.Links.{LinksBack, places_left, words_on}
use Rattle.cm_rows.proofs.Backward.{next-row}
use Rattle.cm_rows.proofs.Linking.{place-less}
use Rattle.cm_rows.proofs.Moving.{MovesOn, ComesTo, walk-begins, comes-to, next-before}
use Rattle.cm_rows.proofs.Moving.{walk-goes_on, walk-ends}
use Rattle.cm_rows.proofs.Stopping.{words-less, goes-back, walk-stops}
use Rattle.cm_rows.proofs.links.move_rows.Goals as goal
use Rattle.cm_rows.proofs.links.move_rows.Given.{Over}
use Rattle.cm_rows.proofs.links.move_rows.Goals.{In-Some}

abbrev walk : (g : Over) (c : In-Some g)
    → MovesOn c.args.loader c.args.last.chunk c.args.to c.args.slots.now.items
    c.loop-next.slots.items (Some c.in-Some.place)
walk g c =
    subst (λ (o : Option ℕ). MovesOn c.args.loader c.args.last.chunk c.args.to
    c.args.slots.now.items c.loop-next.slots.items o) c.in-Some.is c.loop-next.invariant.moves

abbrev back : (g : Over) (c : In-Some g)
    → LinksBack c.args.slots.now.items c.args.before.now c.args.last.chunk (Some c.in-Some.place)
    c.loop-next.left
back g c =
    subst (λ (o : Option ℕ). LinksBack c.args.slots.now.items c.args.before.now c.args.last.chunk o
    c.loop-next.left) c.in-Some.is c.loop-next.invariant.goes

abbrev here : (g : Over) (c : In-Some g)
    → ComesTo c.args.loader c.args.slots.now.items c.loop-next.slots.items c.in-Some.place
here g c =
    comes-to c.args.loader c.args.last.chunk c.args.to c.args.slots.now.items
    c.loop-next.slots.items c.in-Some.place (walk g c)

pub loop-next-init : goal.loop-next-init
loop-next-init g c =
    record {
      moves = walk-begins c.args.loader c.args.last.chunk c.args.to c.args.slots.now.items
          c.args.newest c.requires.newest;
      goes = c.requires.goes;
      capacity = refl;
    }

pub index_mut-requires : goal.index_mut-requires
index_mut-requires g c =
    let at = here g (goal.at.index_mut-requires g c).In-Some in
    omega (
      arith,
      slice_get_within c.loop-next.slots.items c.in-Some.place at.slot at.there,
      c.loop-next.slots.ok.0,
    )

pub bounds-before-at : goal.bounds-before-at
bounds-before-at g c =
    let at = here g (goal.at.bounds-before-at g c).In-Some in
    omega (
      arith,
      slice_get_within c.args.slots.now.items c.in-Some.place at.slot at.was,
      c.requires.goes.linked.same,
    )

pub loop-next-smaller : goal.loop-next-smaller
loop-next-smaller g c =
    let old = c.args.slots.now.items in
    let m = walk g (goal.at.loop-next-smaller g c).In-Some in
    omega (
      arith,
      ap places_left (next-before c.args.loader c.args.last.chunk c.args.to old
          c.loop-next.slots.items c.args.before.now c.in-Some.place c.requires.goes.linked m),
      place-less c.args.loader old c.in-Some.place,
      ap places_left c.in-Some.is,
    )

pub returns-clause-slots : goal.returns-clause-slots
returns-clause-slots g c =
    let old = c.args.slots.now.items in
    let now = c.loop-next.slots.items in
    walk-ends c.args.loader c.args.last.chunk c.args.to old now c.requires.others
    (subst (λ (o : Option ℕ). MovesOn c.args.loader c.args.last.chunk c.args.to old now o)
    c.in_default.is c.loop-next.invariant.moves)

-- the row that the walk visits is the one that the other walk visits
same-row : (g : Over) (c : In-Some g) → (here g c).slot
    ≡ record {
      item = (next-row c.args.slots.now.items c.args.before.now c.args.last.chunk c.in-Some.place
          c.loop-next.left (back g c)).row;
      live = true;
    }
same-row g c =
    some-same (here g c).slot _
    (sym (here g c).was
    ∙ (next-row c.args.slots.now.items c.args.before.now c.args.last.chunk c.in-Some.place
    c.loop-next.left (back g c)).there)
  where
    some-same : (a b : BookSlot (Row g.row.P.Denot)) → Some a ≡ Some b → a ≡ b
    some-same a b e = cc

-- as many words are moved as the row has on the chunk
moved-words : (g : Over) (c : In-Some g) (r : BookSlot (Row g.row.P.Denot)) (n : ℕ)
    → r ≡ get_or c.loop-next.slots.items c.in-Some.place r → n ≡ words_on c.args.last.chunk r.item
    → n ≡ words_on c.args.last.chunk
    (next-row c.args.slots.now.items c.args.before.now c.args.last.chunk c.in-Some.place
    c.loop-next.left (back g c)).row
moved-words g c r n is words =
    let at = here g c in
    let same : r ≡ at.slot =
    is ∙ get_or_from_slice_get c.loop-next.slots.items c.in-Some.place at.slot r at.there in
    words ∙ ap (λ (s : BookSlot (Row g.row.P.Denot)). words_on c.args.last.chunk s.item)
    (same ∙ same-row g c)

pub returns-then-left-eq0-clause-slots : goal.returns-then-left-eq0-clause-slots
returns-then-left-eq0-clause-slots g c =
    let at = (goal.at.returns-then-left-eq0-clause-slots g c).In-Some in
    walk-stops c.args.loader c.args.last.chunk c.args.to c.args.slots.now.items
    c.loop-next.slots.items c.args.before.now c.in-Some.place c.loop-next.left (walk g at)
    (back g at) (omega (arith, c.if-left-eq0.true))

pub overflow_sub-left : goal.overflow_sub-left
overflow_sub-left g c =
    let at = (goal.at.overflow_sub-left g c).In-Some in
    omega (
      arith,
      moved-words g at c.index_mut.result.now c.move_row-left.result c.index_mut.ensures.value
          c.move_row-left.ensures.words,
      words-less c.args.slots.now.items c.args.before.now c.args.last.chunk c.in-Some.place
          c.loop-next.left (back g at),
    )

pub loop-next-preserved : goal.loop-next-preserved
loop-next-preserved g c =
    let step = (goal.at.loop-next-preserved g c).In-Some in
    let at = here g step in
    let m = walk g step in
    let r = c.index_mut.result.now in
    let from = c.args.last.chunk in
    let to = c.args.to in
    let old = c.args.slots.now.items in
    let same : r ≡ at.slot = c.index_mut.ensures.value
    ∙ get_or_from_slice_get c.loop-next.slots.items c.in-Some.place at.slot r at.there in
    let lives : r.live ≡ true = ap (λ s. s.live) same ∙ at.lives in
    let words = moved-words g step r c.move_row-left.result c.index_mut.ensures.value
    c.move_row-left.ensures.words in
    record {
      moves = walk-goes_on c.args.loader from to old c.loop-next.slots.items
          c.args.before.now c.in-Some.place _ c.requires.goes.linked c.requires.others m
          (ap (λ y. record { item = y; live = r.live }) c.move_row-left.ensures.row
          ∙ ap (λ (b : Bool). record {
            item = cond b (moved_row from to r.item) r.item;
            live = r.live;
          }) (sym lives)
          ∙ ap (moved_slot from to) same);
      goes = subst (λ (n : ℕ). LinksBack old c.args.before.now from
          (get_or c.args.before.now c.in-Some.place None) (c.loop-next.left - n)) (sym words)
          (goes-back old c.args.before.now from c.in-Some.place c.loop-next.left (back g step));
      capacity = c.loop-next.invariant.capacity;
    }
