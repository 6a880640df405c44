use Rattle.std.proofs.Common.{◌≡◌, ◌+◌, ◌-◌, ◌/◌, ◌<◌, ◌≤◌, ℕ, List, [], length, get_or, ap, sym}
use Rattle.std.proofs.Common.{◌∙◌, subst, arith}
use Rattle.std.specs.Ordering.{nat_cmp}
use Rattle.std.specs.Cmp.Lexicographic.{slice_cmp}
use Rattle.std.proofs.lemmas.List.{get_or_read}
use Rattle.cm_index.specs.declared.index.IndexEntry.{IndexEntry}
use Rattle.cm_index.specs.Index.{key_at}
use Rattle.cm_index.specs.Sought.{key_sought}
use Rattle.cm_index.specs.Blocks.{joined}
use Rattle.cm_index.proofs.Sorted.{all-at}
use Rattle.cm_index.proofs.Joined.{later-at}
use Rattle.cm_index.proofs.Sweeping.{within-slots}
use Rattle.cm_index.proofs.Searching.{before-first, from-first, all-in}
use Rattle.cm_index.proofs.search.block_of.Goals as goal

-- there is a block where the search looks next, and it isn't the first
half : (bs : List (List IndexEntry)) (m : ℕ) (now : List IndexEntry) → m < length bs
    → now ≡ get_or bs m now → now ≡ get_or bs m []
half bs m now lt is = get_or_read bs m now lt is []

pub at-first-requires : goal.at-first-requires
at-first-requires g c =
    let h = c.loop-above.invariant in
    let m = c.loop-above.at + (c.loop-above.above - c.loop-above.at) / 2 in
    let lt : m < c.loop-above.above = omega (arith, c.loop-above-test.true) in
    let within : m < length c.args.blocks.now = omega (arith, lt, h.within) in
    let some : 0 < m = omega (arith, c.loop-above-test.true) in
    let filled =
    later-at (λ (b : List IndexEntry). 512 ≤ length b) c.args.blocks.now m [] c.requires.half
    some within in
    omega (
      arith,
      filled,
      ap length
          (half c.args.blocks.now m c.index-blocks-middle.result within c.index-blocks-middle.is),
    )

pub cmp_keys-requires : goal.cmp_keys-requires
cmp_keys-requires g c =
    let h = c.loop-above.invariant in
    let bs = c.args.blocks.now in
    let m = c.loop-above.at + (c.loop-above.above - c.loop-above.at) / 2 in
    let lt : m < c.loop-above.above = omega (arith, c.loop-above-test.true) in
    let within : m < length bs = omega (arith, lt, h.within) in
    let some : 0 < m = omega (arith, c.loop-above-test.true) in
    let filled =
    later-at (λ (b : List IndexEntry). 512 ≤ length b) bs m [] c.requires.half some within in
    let all = all-in (λ (e : IndexEntry). e.at < length c.args.slots.now) bs m
    (within-slots g.P.Kept.mark g.P.Kept.name c.args.slots.now (joined bs) c.requires.index.each)
    within in
    let first = c.at-first.result in
    let is : first ≡ get_or (get_or bs m []) 0 first = c.at-first.ensures first
    ∙ ap (λ (b : List IndexEntry). get_or b 0 first)
    (half bs m c.index-blocks-middle.result within c.index-blocks-middle.is) in
    subst (λ (e : IndexEntry). e.at < length c.args.slots.now) (sym is)
    (all-at (λ (e : IndexEntry). e.at < length c.args.slots.now) (get_or bs m []) 0 first all
    (omega (arith, filled)))

pub loop-above-preserved : goal.loop-above-preserved
loop-above-preserved g c =
    let h = c.loop-above.invariant in
    let bs = c.args.blocks.now in
    let m = c.loop-above.at + (c.loop-above.above - c.loop-above.at) / 2 in
    let lt : m < c.loop-above.above = omega (arith, c.loop-above-test.true) in
    let within : m < length bs = omega (arith, lt, h.within) in
    let some : 0 < m = omega (arith, c.loop-above-test.true) in
    let filled =
    later-at (λ (b : List IndexEntry). 512 ≤ length b) bs m [] c.requires.half some within in
    let first = c.at-first.result in
    let is : first ≡ get_or (get_or bs m []) 0 first = c.at-first.ensures first
    ∙ ap (λ (b : List IndexEntry). get_or b 0 first)
    (half bs m c.index-blocks-middle.result within c.index-blocks-middle.is) in
    let k = key_sought g.P.Kept.name c.args.sought.now in
    record {
      order = lt;
      within = h.within;
      below = before-first g.P.Kept.name c.args.slots.now bs m k first c.requires.index.rises within
          (omega (arith, filled)) (λ e. c.in_default.not-Greater
          (c.cmp_keys.ensures ∙ ap
          (λ (x : IndexEntry). slice_cmp nat_cmp (key_at g.P.Kept.name c.args.slots.now x) k) is
          ∙ e));
      above = h.above;
    }

pub loop-above-preserved-in-Greater : goal.loop-above-preserved-in-Greater
loop-above-preserved-in-Greater g c =
    let h = c.loop-above.invariant in
    let bs = c.args.blocks.now in
    let m = c.loop-above.at + (c.loop-above.above - c.loop-above.at) / 2 in
    let lt : m < c.loop-above.above = omega (arith, c.loop-above-test.true) in
    let within : m < length bs = omega (arith, lt, h.within) in
    let some : c.loop-above.at < m = omega (arith, c.loop-above-test.true) in
    let filled =
    later-at (λ (b : List IndexEntry). 512 ≤ length b) bs m [] c.requires.half
    (omega (arith, some)) within in
    let first = c.at-first.result in
    let is : first ≡ get_or (get_or bs m []) 0 first = c.at-first.ensures first
    ∙ ap (λ (b : List IndexEntry). get_or b 0 first)
    (half bs m c.index-blocks-middle.result within c.index-blocks-middle.is) in
    let k = key_sought g.P.Kept.name c.args.sought.now in
    record {
      order = some;
      within = omega (arith, within);
      below = h.below;
      above = from-first g.P.Kept.name c.args.slots.now bs m k first c.requires.index.rises within
          (omega (arith, filled)) (sym
          (ap (λ (x : IndexEntry). slice_cmp nat_cmp (key_at g.P.Kept.name c.args.slots.now x) k)
          is) ∙ sym c.cmp_keys.ensures ∙ c.in-Greater.is);
    }
