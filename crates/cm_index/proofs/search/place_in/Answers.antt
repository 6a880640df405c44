use Rattle.std.proofs.Common.{◌<◌, ◌-◌, ◌+◌, ◌/◌, sym, ◌∙◌, subst, arith, ℕ, drop}
use Rattle.std.proofs.lemmas.List.{length-map}
use Rattle.std.specs.List.{AllByRecursion}
use Rattle.cm_index.specs.declared.index.IndexEntry.{IndexEntry}
use Rattle.cm_index.specs.Index.{keys_at, key_at}
use Rattle.cm_index.specs.Sought.{key_sought}
use Rattle.cm_index.specs.Index.{Above}
use Rattle.cm_index.proofs.Indexes.{lower, upper}
use Rattle.cm_index.proofs.search.place_in.Goals as goal

pub loop-low-preserved-in-Less : goal.loop-low-preserved-in-Less
loop-low-preserved-in-Less g c =
    let h = c.loop-low.invariant in
    let middle = c.loop-low.low + (c.loop-low.high - c.loop-low.low) / 2 in
    let lt : middle < c.loop-low.high = omega (arith, c.loop-low-test.true) in
    let d : IndexEntry = record { fingerprint = 0; at = 0 } in
    record {
      order = omega (arith, lt);
      within = h.within;
      below = lower g.P.Kept.name c.args.slots.now c.args.index.now middle
          (key_sought g.P.Kept.name c.args.sought.now) d c.requires.rises
          (omega (arith, lt, h.within)) (sym c.cmp_keys.ensures ∙ c.in-Less.is);
      above = h.above;
    }

pub loop-low-preserved : goal.loop-low-preserved
loop-low-preserved g c =
    let h = c.loop-low.invariant in
    let middle = c.loop-low.low + (c.loop-low.high - c.loop-low.low) / 2 in
    let lt : middle < c.loop-low.high = omega (arith, c.loop-low-test.true) in
    let d : IndexEntry = record { fingerprint = 0; at = 0 } in
    record {
      order = omega arith;
      within = omega (arith, lt, h.within);
      below = h.below;
      above = upper g.P.Kept.name c.args.slots.now c.args.index.now middle
          (key_sought g.P.Kept.name c.args.sought.now) d c.requires.rises
          (omega (arith, lt, h.within)) (sym c.cmp_keys.ensures ∙ c.in-Greater.is);
    }

pub returns-clause-absent : goal.returns-clause-absent
returns-clause-absent g c =
    let h = c.loop-low.invariant in
    let ks = keys_at g.P.Kept.name c.args.slots.now c.args.index.now in
    let k = key_sought g.P.Kept.name c.args.sought.now in
    record {
      within = omega (
        arith,
        h.order,
        h.within,
        length-map c.args.index.now (key_at g.P.Kept.name c.args.slots.now),
      );
      below = h.below;
      above = subst (λ (n : ℕ). AllByRecursion (Above k) (drop n ks))
          (omega (arith, h.order, c.loop-low-test.false)) h.above;
    }
