use Rattle.std.proofs.Common.{◌≡◌, ◌<◌, length, get_or, sym, ◌∙◌, ap, subst, arith}
use Rattle.cm_index.specs.declared.index.IndexEntry.{IndexEntry}
use Rattle.cm_index.specs.Blocks.{joined, place_of}
use Rattle.cm_index.proofs.Joined.{set-joined}
use Rattle.cm_index.proofs.Indexes.{renewed-dead, renewed-living}
use Rattle.cm_index.proofs.index.renew.Given.{Over}
use Rattle.cm_index.proofs.index.renew.Goals as goal
use Rattle.cm_index.proofs.index.renew.Goals.{After-entry_at-before}

there : (g : Over) (c : After-entry_at-before g) → (d : IndexEntry)
    → c.entry_at-before.result
    ≡ get_or (joined c.args.blocks.now.items) (place_of c.args.blocks.now.items c.args.spot.now) d
there g c d = rw (c.deref.ensures.value) at (c.entry_at-before.ensures d)

within : (g : Over) (c : After-entry_at-before g)
    → c.entry_at-before.result.at < length c.args.slots.now
within g c =
    let e = c.entry_at-before.result in
    subst (λ (x : IndexEntry). x.at < length c.args.slots.now) (sym (there g c e))
    (c.requires.leads e)

pub offset_bounds-slots-before : goal.offset_bounds-slots-before
offset_bounds-slots-before g c =
    omega (arith, within g (goal.at.offset_bounds-slots-before g c).After-entry_at-before)

pub bounds-slots-before : goal.bounds-slots-before
bounds-slots-before g c = within g (goal.at.bounds-slots-before g c).After-entry_at-before

pub bounds-slots-before-2 : goal.bounds-slots-before-2
bounds-slots-before-2 g c = within g (goal.at.bounds-slots-before-2 g c).After-entry_at-before

pub returns-then-not-slots-before-clause-items : goal.returns-then-not-slots-before-clause-items
returns-then-not-slots-before-clause-items g c =
    let at = (goal.at.returns-then-not-slots-before-clause-items g c).After-entry_at-before in
    let bs = c.args.blocks.now.items in
    let s = c.args.spot.now in
    ap joined c.set_entry.ensures.items
    ∙ set-joined bs s.block s.place c.args.entry c.requires.taken.block c.requires.taken.place
    ∙ renewed-dead c.args.slots.now (joined bs) (place_of bs s) c.args.entry
    c.entry_at-before.result c.index-slots-before.result (there g at c.args.entry) (within g at)
    c.index-slots-before.is (ap (λ s. s.live) c.index-slots-before.is
    ∙ c.if-not-slots-before.true)

pub returns-else-not-slots-before-clause-items : goal.returns-else-not-slots-before-clause-items
returns-else-not-slots-before-clause-items g c =
    let at = (goal.at.returns-else-not-slots-before-clause-items g c).After-entry_at-before in
    let bs = c.args.blocks.now.items in
    renewed-living c.args.slots.now (joined bs) (place_of bs c.args.spot.now) c.args.entry
    c.entry_at-before.result c.index-slots-before.result (there g at c.args.entry) (within g at)
    c.index-slots-before.is (ap (λ s. s.live) c.index-slots-before.is
    ∙ c.if-not-slots-before.false)
