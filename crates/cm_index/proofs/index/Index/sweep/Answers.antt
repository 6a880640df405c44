use Rattle.std.proofs.Common.{◌<◌, ℕ, sym, ap, subst}
use Rattle.std.specs.List.{AllByRecursion}
use Rattle.cm_index.specs.declared.index.IndexEntry.{IndexEntry}
use Rattle.cm_index.specs.Index.{IsIndex}
use Rattle.cm_index.specs.Blocks.{Entries, joined}
use Rattle.cm_index.proofs.Sweeping.{index-swept, within-slots, length-places, joined-swept}
use Rattle.cm_index.proofs.index.Index.sweep.Goals as goal

pub sweep_blocks-requires : goal.sweep_blocks-requires
sweep_blocks-requires g c =
    let slots = c.args.slots.now in
    let es = joined c.self.inside.blocks.items in
    let index =
    subst (IsIndex g.P.Kept.mark g.P.Kept.name slots)
    (ap (λ (v : Entries). v.items) (sym c.self.view_is)) c.requires.index in
    let within = within-slots g.P.Kept.mark g.P.Kept.name slots es index.each in
    rw (c.deref.ensures.value, c.count_places.ensures.places)
    (subst (λ (n : ℕ). AllByRecursion (λ (e : IndexEntry). e.at < n) es)
    (sym (length-places 0 slots)) within)

pub returns-clause-index : goal.returns-clause-index
returns-clause-index g c =
    let slots = c.args.slots.now in
    let es = joined c.self.inside.blocks.items in
    let index =
    subst (IsIndex g.P.Kept.mark g.P.Kept.name slots)
    (ap (λ (v : Entries). v.items) (sym c.self.view_is)) c.requires.index in
    rw (
      c.pack.ensures.items,
      c.sweep_blocks.ensures.blocks,
      joined-swept slots _ c.self.inside.blocks.items,
      c.deref.ensures.value,
      c.count_places.ensures.places,
    )
    (index-swept g.P.Kept.mark g.P.Kept.name slots es index)
