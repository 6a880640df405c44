-- A pool's rows and the value that they are seen as.
-- For `Pool::add_root`, `Pool::alloc`, `Pool::geometry` and others.
use Rattle.std.proofs.Common.{◌≡◌, ℕ, ◌+◌, ◌-◌, ◌*◌, ◌/◌, ◌^◌, ◌<◌, ◌≤◌, true, false, ◌||◌, ◌&&◌}
use Rattle.std.proofs.Common.{not, List, length, refl, sym, ap, ◌∙◌, inl, inr, arith}
use Rattle.std.specs.FinSet as set
use Rattle.std.specs.Ordering.{nat_cmp}
use Rattle.std.proofs.lemmas.Nat.{pow_pos, mul-le}
use Rattle.std.proofs.lemmas.Bool.{and_parts, or_cases, both_ways, false_from_ne_true}
use Rattle.std.proofs.Math.Nat.{mul-le-mul_right, lt_of_mul-lt-mul_right, pow-le-pow_right}
use Rattle.cm_pool.specs.declared.block.Block.{Block}
use Rattle.cm_pool.specs.declared.chunk.Chunk.{Chunk}
use Rattle.cm_pool.specs.Geometry.{Sizes, IsGeometry}
use Rattle.cm_pool.specs.Chunks.{chunk_size, IsBlock}
use Rattle.cm_pool.specs.FreeSpace.{word_number, IsFreeChunk, HasFree, LiesBefore, IsFreeSpace}
use Rattle.cm_pool.specs.FreeSpace.{with_root}
use Rattle.cm_pool.specs.Blocks.{is_in, start, stop, Inside, IsSame}
use Rattle.cm_pool.specs.Rows.{is_marked, is_covered, with_mark, HasPlace, AreBitRows, AreEmpty}
use Rattle.cm_pool.specs.Rows.{IsFirstBlock, IsPool, space_of}
use Rattle.cm_pool.proofs.Dyadic.{is_in-bounds, is_in-start, is_in-last, inside-is_in, inside-start}
use Rattle.cm_pool.proofs.Marks.{marked-place, covered-marked, covered-with, covering}
use Rattle.cm_pool.proofs.Trees.{IsHole, Holder, tree-from, whole-held, hole-fill, hole-place}
use Rattle.cm_pool.proofs.Places.{chunk-place}
use Rattle.cm_pool.proofs.FreeWords.{number-order, same_numbers}
use Rattle.cm_pool.proofs.Spaces.{contains-space_of, free-covered, covered-free, space-with_root}

-- all covered words are in present roots
pub lawful : (sizes : Sizes) (roots : ℕ) (rows : List (List ℕ)) → IsPool sizes roots rows
    → IsFreeSpace (space_of sizes roots rows)
lawful sizes roots rows h =
    record {
      geometry = h.sizes_ok;
      roots = h.few_roots;
      present = λ root word free.
          let n = word_number sizes.top root word in
          let low : n / 128 < roots * 2 ^ sizes.top =
          h.present (n / 128) (sym (contains-space_of sizes roots rows n) ∙ free.is_free) in
          let below : root * 2 ^ sizes.top < roots * 2 ^ sizes.top = omega arith in
          lt_of_mul-lt-mul_right (2 ^ sizes.top) below;
    }

-- all covered words are below the region's end
pub within-limit : (sizes : Sizes) (roots : ℕ) (rows : List (List ℕ)) → IsPool sizes roots rows
    → (g : ℕ) → g < roots * 2 ^ sizes.top → g < sizes.roots * 2 ^ sizes.top
within-limit sizes roots rows h g low =
    let few : roots * 2 ^ sizes.top ≤ sizes.roots * 2 ^ sizes.top =
    mul-le-mul_right (2 ^ sizes.top) h.few_roots in
    omega arith

pub same-stop : (top roots : ℕ) (c : Chunk) (b : Block) → IsSame top c b → IsBlock top roots c
    → stop b ≤ roots * 2 ^ top
same-stop top roots c b same h =
    let size : chunk_size b.order ≡ chunk_size c.order = ap chunk_size same.order in
    let more : (c.root + 1) * 2 ^ top ≤ roots * 2 ^ top =
    mul-le-mul_right (2 ^ top) (omega (arith, h.in_a_root)) in
    omega (arith, same.place, h.inside, size)

pub pool-taken : (sizes : Sizes) (roots : ℕ) (old new : List (List ℕ)) (b : Block)
    → IsPool sizes roots old → AreBitRows sizes.top (sizes.roots * 2 ^ sizes.top) new → ((g : ℕ)
    → is_covered new g ≡ (is_covered old g && not (is_in b g))) → IsPool sizes roots new
pool-taken sizes roots old new b h kept covered =
    record {
      sizes_ok = h.sizes_ok;
      few_roots = h.few_roots;
      kept = kept;
      present = λ g e. h.present g (and_parts (is_covered old g) _ (sym (covered g) ∙ e)).0;
    }

pub pool-given : (sizes : Sizes) (roots : ℕ) (old new : List (List ℕ)) (b : Block)
    → IsPool sizes roots old → stop b ≤ roots * 2 ^ sizes.top
    → AreBitRows sizes.top (sizes.roots * 2 ^ sizes.top) new → ((g : ℕ)
    → is_covered new g ≡ (is_in b g || is_covered old g)) → IsPool sizes roots new
pool-given sizes roots old new b h within kept covered =
    record {
      sizes_ok = h.sizes_ok;
      few_roots = h.few_roots;
      kept = kept;
      present = λ g e. elim (or_cases (is_in b g) _ (sym (covered g) ∙ e)) [
        | inl here ↦ omega (arith, (is_in-bounds b g here).1)
        | inr there ↦ h.present g there
      ];
    }

-- a free chunk is in a block whose bit is set
pub free-held : (sizes : Sizes) (roots : ℕ) (rows : List (List ℕ)) (c : Chunk) (b : Block)
    → IsPool sizes roots rows → IsSame sizes.top c b → IsFreeChunk (space_of sizes roots rows) c
    → Holder rows b
free-held sizes roots rows c b h same free =
    whole-held sizes.top rows b (tree-from sizes.top (sizes.roots * 2 ^ sizes.top) rows h.kept)
    (omega (arith, same.order, free.block.within_top))
    (free-covered sizes roots rows c b same free)

-- the chunk of a block inside such a block is free
pub held-free : (sizes : Sizes) (roots : ℕ) (rows : List (List ℕ)) (c : Chunk) (b x : Block)
    → IsSame sizes.top c b → IsBlock sizes.top roots c → is_marked rows x ≡ true → Inside b x
    → IsFreeChunk (space_of sizes roots rows) c
held-free sizes roots rows c b x same block set inside =
    covered-free sizes roots rows c b same block
    (λ g h. covered-marked rows x g set (inside-is_in b x g inside h))

-- the block of any chunk
abbrev pub block_of : ℕ → Chunk → Block
block_of top c =
    record { index = c.root * 2 ^ (top - c.order) + c.at / chunk_size c.order; order = c.order }

pub same-block_of : (top roots : ℕ) (c : Chunk) → IsBlock top roots c
    → IsSame top c (block_of top c)
same-block_of top roots c h =
    record { order = refl; place = chunk-place top c h.within_top h.aligned }

-- if no block of the order or a larger one has its bit set, no chunk of the order is free
pub none-free : (sizes : Sizes) (roots : ℕ) (rows : List (List ℕ)) (order : ℕ)
    → IsPool sizes roots rows → ((b : Block) → order ≤ b.order → b.order < length rows
    → is_marked rows b ≡ false) → ¬ HasFree (space_of sizes roots rows) order
none-free sizes roots rows order h none (c, of_order, free) =
    let same = same-block_of sizes.top roots c free.block in
    let held = free-held sizes roots rows c (block_of sizes.top c) h same free in
    both_ways _ (none held.0 (omega (arith, held.2.smaller))
    (marked-place rows held.0 held.1).order) held.1

-- the first block of the order or a larger one begins no later than any free chunk of it
pub first-start : (sizes : Sizes) (roots : ℕ) (rows : List (List ℕ)) (order : ℕ) (b : Block)
    (c : Chunk) → IsPool sizes roots rows → IsFirstBlock rows order (length rows) b
    → IsFreeChunk (space_of sizes roots rows) c → c.order ≡ order
    → start b ≤ start (block_of sizes.top c)
first-start sizes roots rows order b c h first free of_order =
    let same = same-block_of sizes.top roots c free.block in
    let held = free-held sizes roots rows c (block_of sizes.top c) h same free in
    let inside = inside-start (block_of sizes.top c) held.0 held.2 in
    let least =
    first.first held.0 (omega (arith, held.2.smaller))
    (marked-place rows held.0 held.1).order held.1 in
    omega arith

-- what begins no later does not come after
pub not-before : (top roots : ℕ) (c d : Chunk) (b : Block) → IsSame top c b → IsBlock top roots d
    → start b ≤ start (block_of top d) → ¬ LiesBefore d c
not-before top roots c d b same block le before =
    let place = (same-block_of top roots d block).place in
    let low : word_number top c.root c.at ≤ word_number top d.root d.at =
    omega (arith, same.place, place) in
    elim before [
      | inl earlier ↦
          omega (
            arith,
            number-order (chunk_size top) d.root c.root d.at c.at earlier
                (omega (arith, block.inside, pow_pos d.order)),
          )
      | inr (same_root, front) ↦
          let alike : d.root * chunk_size top ≡ c.root * chunk_size top = ap
          (λ r. r * chunk_size top) same_root in
          omega (arith, alike, front)
    ]

-- a chunk of a present root has few roots before it
pub few-roots : (sizes : Sizes) (roots : ℕ) (rows : List (List ℕ)) (c : Chunk)
    → IsPool sizes roots rows → IsBlock sizes.top roots c → IsBlock sizes.top 256 c
few-roots sizes roots rows c h block =
    record {
      within_top = block.within_top;
      in_a_root = omega (arith, block.in_a_root, h.few_roots, h.sizes_ok.roots_to);
      aligned =
          block.aligned;
      inside = block.inside;
    }

-- a new pool
none-covered : (rows : List (List ℕ)) (g : ℕ) → ((b : Block) → is_marked rows b ≡ false)
    → is_covered rows g ≡ false
none-covered rows g none = false_from_ne_true _
    (λ e. let found = covering rows g e in both_ways _ (none found.0) found.1)

region-small : (sizes : Sizes) → IsGeometry sizes → sizes.roots * 2 ^ sizes.top ≤ 2 ^ 20
region-small sizes h =
    let size : 2 ^ sizes.top ≤ 2 ^ 12 = pow-le-pow_right {n = 2} (omega arith) h.top_to in
    let most : sizes.roots * 2 ^ sizes.top ≤ 256 * 4096 =
    mul-le sizes.roots (2 ^ sizes.top) 256 4096 h.roots_to size in
    omega arith

pub empty-pool : (sizes : Sizes) (rows : List (List ℕ)) → AreEmpty sizes rows → IsPool sizes 0 rows
empty-pool sizes rows empty =
    record {
      sizes_ok = empty.sizes_ok;
      few_roots = omega arith;
      kept = record {
        orders = empty.orders;
        meaning = λ b le. (
          λ e. absurd (both_ways _ (empty.none b) e),
          λ largest. absurd (both_ways _ (none-covered rows (start b) empty.none)
              (largest.0 (start b) (is_in-start b))),
        );
        room = empty.room;
        below = λ g e. absurd (both_ways _ (none-covered rows g empty.none) e);
        small = region-small sizes empty.sizes_ok;
      };
      present = λ g e. absurd (both_ways _ (none-covered rows g empty.none) e);
    }

pub empty-space : (sizes : Sizes) (rows : List (List ℕ)) → AreEmpty sizes rows
    → space_of sizes 0 rows ≡ record { geometry = sizes; roots = 0; free = set.empty }
empty-space sizes rows empty =
    same_numbers (space_of sizes 0 rows) (record { geometry = sizes; roots = 0; free = set.empty })
    refl refl (λ n.
    contains-space_of sizes 0 rows n ∙ none-covered rows (n / 128) empty.none
    ∙ sym (set.contains-empty nat_cmp n))

-- one more root
abbrev pub root_block : Sizes → ℕ → Block
root_block sizes roots = record { index = roots; order = sizes.top }

pub root-hole : (sizes : Sizes) (roots : ℕ) (rows : List (List ℕ)) → IsPool sizes roots rows
    → roots < sizes.roots
    → IsHole sizes.top (sizes.roots * 2 ^ sizes.top) rows (root_block sizes roots)
root-hole sizes roots rows h lt =
    let more : (roots + 1) * 2 ^ sizes.top ≤ sizes.roots * 2 ^ sizes.top =
    mul-le-mul_right (2 ^ sizes.top) (omega arith) in
    record {
      kept = h.kept;
      small = omega arith;
      clear = λ g e. false_from_ne_true _
          (λ c. absurd (omega (
            arith,
            h.present g c,
            (is_in-bounds (root_block sizes roots) g e).0,
          )));
      low = λ g e. omega (arith, (is_in-bounds (root_block sizes roots) g e).1);
    }

pub root-added : (sizes : Sizes) (roots : ℕ) (rows : List (List ℕ)) → IsPool sizes roots rows
    → roots < sizes.roots → IsPool sizes (roots + 1) (with_mark rows (root_block sizes roots))
root-added sizes roots rows h lt =
    let b = root_block sizes roots in
    let hole = root-hole sizes roots rows h lt in
    let place = hole-place sizes.top (sizes.roots * 2 ^ sizes.top) rows b hole in
    record {
      sizes_ok = h.sizes_ok;
      few_roots = omega arith;
      kept = hole-fill sizes.top (sizes.roots * 2 ^ sizes.top) rows b hole
          (λ less. absurd (omega arith));
      present = λ g c. elim (or_cases (is_in b g) _ (sym (covered-with rows b g place) ∙ c)) [
        | inl here ↦ omega (arith, (is_in-bounds b g here).1)
        | inr there ↦ omega (arith, h.present g there)
      ];
    }

pub root-space : (sizes : Sizes) (roots : ℕ) (rows : List (List ℕ))
    → HasPlace rows (root_block sizes roots)
    → space_of sizes (roots + 1) (with_mark rows (root_block sizes roots))
    ≡ with_root (space_of sizes roots rows)
root-space sizes roots rows place =
    space-with_root sizes roots rows (with_mark rows (root_block sizes roots))
    (root_block sizes roots) (record { order = refl; place = omega arith })
    (λ g. covered-with rows (root_block sizes roots) g place)

-- a block whose bit is set is in the present roots
pub marked-stop : (sizes : Sizes) (roots : ℕ) (rows : List (List ℕ)) (x : Block)
    → IsPool sizes roots rows → is_marked rows x ≡ true → stop x ≤ roots * 2 ^ sizes.top
marked-stop sizes roots rows x h e =
    let last = h.present (stop x - 1) (covered-marked rows x (stop x - 1) e (is_in-last x)) in
    omega (arith, pow_pos x.order)

pub marked-small : (sizes : Sizes) (roots : ℕ) (rows : List (List ℕ)) (x : Block)
    → IsPool sizes roots rows → is_marked rows x ≡ true → start x < 2 ^ 20
marked-small sizes roots rows x h e =
    omega (
      arith,
      h.kept.below (start x) (covered-marked rows x (start x) e (is_in-start x)),
      h.kept.small,
    )
