use Rattle.std.proofs.Common.{◌≡◌, ◌+◌, ◌-◌, suc, ℕ, List, length, sym, ap, ◌∙◌, arith}
use Rattle.std.specs.Prelude.{nat_lt}
use Rattle.std.specs.List.{list_all}
use Rattle.cm_rows.specs.declared.live_loader.LiveLoader.{LiveLoader}
use Rattle.cm_index.specs.declared.slot.BookSlot.{BookSlot}
use Rattle.cm_rows.proofs.KeptPlaces.{above-living}
use Rattle.cm_rows.proofs.live_rows.LiveRows.is_above.Goals as goal

pub returns-else-count-eq0 : goal.returns-else-count-eq0
returns-else-count-eq0 g c =
    let n = c.args.number in
    let ls = c.self.inside.loaders.slots.items in
    let k = c.len-count.result - 1 in
    let count : length ls ≡ suc k = omega (
      arith,
      c.len-count.ensures,
      c.self.inside.loaders.slots.ok.0,
      c.if-count-eq0.false,
    ) in
    let more : length ls ≡ k + 1 = omega (arith, count) in
    let all = above-living n ls k c.index.result.now c.self.invariant.3.rises count
    ((c.self.invariant.3.last k more).is c.index.result.now) in
    rw (← c.self.view_is) (ap
    (λ (l : BookSlot LiveLoader). nat_lt l.item.number n) c.index.ensures ∙ sym all ∙ ap
    (λ (ns : List ℕ). list_all (λ u. nat_lt u n) ns) c.self.invariant.0.loaders.numbers)
