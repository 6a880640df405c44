use Rattle.std.proofs.Common.{◌≡◌, ◌<◌, List, [], length, get_or, sym, ap, ◌∙◌, subst, arith}
use Rattle.std.specs.List.{AllByRecursion}
use Rattle.std.proofs.lemmas.List.{get_or_read}
use Rattle.cm_index.specs.declared.index.IndexEntry.{IndexEntry}
use Rattle.cm_index.specs.Sweep.{swept_entries}
use Rattle.cm_index.proofs.Sweeping.{change-more, change-seam}
use Rattle.cm_index.proofs.Searching.{all-in}
use Rattle.cm_index.proofs.sweep.sweep_blocks.Goals as goal

pub sweep-requires : goal.sweep-requires
sweep-requires g c =
    let h = c.loop-at.invariant in
    let bs = c.args.blocks.now.items in
    let at = c.loop-at.at in
    let now = c.index_mut.result.now in
    let lt : at < length bs =
    omega (arith, c.len-at-end.ensures, c.args.blocks.now.ok.0, c.loop-at-test.true) in
    let here : now ≡ get_or bs at now = c.index_mut.ensures.value
    ∙ ap (λ (l : List (List IndexEntry)). get_or l at now) h.blocks
    ∙ change-seam (swept_entries c.args.slots.now c.args.places.now) bs at now lt in
    subst (AllByRecursion (λ (e : IndexEntry). e.at < length c.args.places.now))
    (sym (get_or_read bs at now lt here []))
    (all-in (λ (e : IndexEntry). e.at < length c.args.places.now) bs at c.requires lt)

pub loop-at-preserved : goal.loop-at-preserved
loop-at-preserved g c =
    let h = c.loop-at.invariant in
    let bs = c.args.blocks.now.items in
    let at = c.loop-at.at in
    let now = c.index_mut.result.now in
    let f = swept_entries c.args.slots.now c.args.places.now in
    let lt : at < length bs =
    omega (arith, c.len-at-end.ensures, c.args.blocks.now.ok.0, c.loop-at-test.true) in
    let here : now ≡ get_or bs at now = c.index_mut.ensures.value
    ∙ ap (λ (l : List (List IndexEntry)). get_or l at now) h.blocks
    ∙ change-seam f bs at now lt in
    record {
      blocks = change-more f bs c.loop-at.blocks.items at now _ lt h.blocks
          (subst (λ (b : List IndexEntry). c.sweep.new.self ≡ f b) here c.sweep.ensures);
      capacity = h.capacity;
    }
