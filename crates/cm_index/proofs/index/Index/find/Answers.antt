use Rattle.std.proofs.Common.{◌≡◌, Some, sym, ◌∙◌, ap, subst, arith}
use Rattle.std.proofs.lemmas.Option.{slice_get_within, get_or_from_slice_get}
use Rattle.cm_index.specs.Index.{rank, keys_at, IsIndex, SplitsKeys}
use Rattle.cm_index.specs.Sought.{name_sought, key_sought}
use Rattle.cm_index.specs.Blocks.{Entries, joined, place_of}
use Rattle.cm_index.proofs.Indexes.{Found, absent-at}
use Rattle.cm_index.proofs.Searching.{found-row}
use Rattle.cm_index.proofs.index.Index.find.Given.{Over}
use Rattle.cm_index.proofs.index.Index.find.Goals as goal
use Rattle.cm_index.proofs.index.Index.find.Goals.{After-entry_at-entry}

pub returns-in_default : goal.returns-in_default
returns-in_default g c =
    let slots = c.args.slots.now in
    let s = c.args.sought.now in
    let bs = c.self.inside.blocks.items in
    let place = place_of bs c.in_default.field-0 in
    let index =
    subst (IsIndex g.P.Kept.mark g.P.Kept.name slots)
    (ap (λ (v : Entries). v.items) (sym c.self.view_is)) c.requires.index in
    let absent = rw (c.deref.ensures.value) at c.in_default.ensures.absent in
    let parts =
    subst (SplitsKeys (keys_at g.P.Kept.name slots (joined bs)) place) c.requires.key.is absent in
    sym (absent-at g.P.Kept.mark g.P.Kept.name slots (joined bs) place (rank s.owner)
    (name_sought g.P.Kept.name s.name) index parts)

found : (g : Over) (c : After-entry_at-entry g)
    → Found g.P.Kept.mark g.P.Kept.name c.args.slots.now c.entry_at-entry.result
    (rank c.args.sought.now.owner) (name_sought g.P.Kept.name c.args.sought.now.name)
found g c =
    let s = c.args.sought.now in
    let bs = c.self.inside.blocks.items in
    let index =
    subst (IsIndex g.P.Kept.mark g.P.Kept.name c.args.slots.now)
    (ap (λ (v : Entries). v.items) (sym c.self.view_is)) c.requires.index in
    let is = rw (c.deref.ensures.value) at c.in-Ok.ensures.found in
    let there =
    rw (c.deref-2.ensures.value) at (c.entry_at-entry.ensures c.entry_at-entry.result) in
    found-row g.P.Kept.mark g.P.Kept.name c.args.slots.now (joined bs) (place_of bs c.in-Ok.spot)
    c.entry_at-entry.result (rank s.owner) (name_sought g.P.Kept.name s.name)
    (key_sought g.P.Kept.name s) index is c.requires.key.is there

pub offset_bounds-slots-entry : goal.offset_bounds-slots-entry
offset_bounds-slots-entry g c =
    let f = found g (goal.at.offset_bounds-slots-entry g c).After-entry_at-entry in
    omega (arith, slice_get_within c.args.slots.now c.entry_at-entry.result.at f.slot f.there)

pub bounds-slots-entry : goal.bounds-slots-entry
bounds-slots-entry g c =
    let f = found g (goal.at.bounds-slots-entry g c).After-entry_at-entry in
    slice_get_within c.args.slots.now c.entry_at-entry.result.at f.slot f.there

pub returns-then-slot : goal.returns-then-slot
returns-then-slot g c =
    let f = found g (goal.at.returns-then-slot g c).After-entry_at-entry in
    let there : c.index-slots-entry.result ≡ f.slot =
    c.index-slots-entry.is ∙ get_or_from_slice_get c.args.slots.now c.entry_at-entry.result.at
    f.slot _ f.there in
    ap (λ t. Some t.item) there ∙ sym (f.lives (ap (λ t. t.live) (sym there) ∙ c.if-slot.true))

pub returns-else-slot : goal.returns-else-slot
returns-else-slot g c =
    let f = found g (goal.at.returns-else-slot g c).After-entry_at-entry in
    let there : c.index-slots-entry.result ≡ f.slot =
    c.index-slots-entry.is ∙ get_or_from_slice_get c.args.slots.now c.entry_at-entry.result.at
    f.slot _ f.there in
    sym (f.gone (ap (λ t. t.live) (sym there) ∙ c.if-slot.false))
