-- The value that rows of bits are seen as: the words of the blocks whose bits are set.
-- For `Pool::alloc`, `Pool::give`, `Pool::take`.
use Rattle.std.proofs.Common.{◌≡◌, ℕ, zero, suc, ◌+◌, ◌*◌, ◌/◌, ◌<◌, ◌≤◌, Bool, true, false, cond}
use Rattle.std.proofs.Common.{◌||◌, ◌&&◌, not, eqb, ltb, List, [], ◌∷◌, length, refl, sym, ap, ◌∙◌}
use Rattle.std.proofs.Common.{subst, inl, inr, arith, Decides}
use Rattle.std.specs.List.{list_any, flat_map}
use Rattle.std.specs.Prelude.{nat_eq}
use Rattle.std.specs.Cmp.{nat_cmp_total}
use Rattle.std.specs.FinSet.{contains, contains-from_list_nat, contains-union, contains-difference}
use Rattle.std.proofs.lemmas.List.Folds.{list_any-append}
use Rattle.std.proofs.lemmas.Bool.{false_from_ne_true, cases_lt, cases_order, lt-ltb, le-ltb}
use Rattle.std.proofs.lemmas.Bool.{eq-eqb, ne_eqb, eqb-true}
use Rattle.std.proofs.lemmas.Bool.Decides.{same_from_decides, nat_tests}
use Rattle.cm_pool.specs.Bits.{bit}
use Rattle.cm_pool.proofs.BitFacts.{bit-past}
use Rattle.cm_pool.specs.declared.block.Block.{Block}
use Rattle.cm_pool.specs.declared.chunk.Chunk.{Chunk}
use Rattle.cm_pool.specs.Geometry.{Sizes}
use Rattle.cm_pool.specs.Chunks.{chunk_size, IsBlock}
use Rattle.cm_pool.specs.FreeSpace.{word_number, IsFreeChunk, IsUsedChunk, words, without}
use Rattle.cm_pool.specs.FreeSpace.{with_chunk, with_root}
use Rattle.cm_pool.specs.Blocks.{is_in, IsSame}
use Rattle.cm_pool.specs.Rows.{is_covered, marked, granules, granule_words, space_of}
use Rattle.cm_pool.proofs.Dyadic.{half_eq, is_in-bounds, is_in-from_bounds}
use Rattle.cm_pool.proofs.FreeWords.{range-decides, words-decides, same_numbers, chunk-word}

-- a word of a block is in one of its granules
granule : (b : Block) (n : ℕ) → Decides (is_in b (n / 128)) ((b.index * chunk_size b.order ≤ n)
    × (n < b.index * chunk_size b.order + chunk_size b.order))
granule b n = (
  λ e. let h = is_in-bounds b (n / 128) e in (omega (arith, h.0), omega (arith, h.1)),
  λ h. is_in-from_bounds b (n / 128) (omega (arith, h.0)) (omega (arith, h.1)),
)

-- which numbers the bits of a row denote
in-marked : (r : List ℕ) (n g : ℕ) → list_any (λ y. nat_eq y g) (marked r n) ≡ (ltb g n && bit r g)
in-marked r zero g = sym (ap (λ t. t && bit r g) (le-ltb g 0 (omega arith)))
in-marked r (suc n) g =
    elim (bit r n) as (λ t. bit r n ≡ t → list_any
    (λ y. nat_eq y g) (cond t (n ∷ marked r n) (marked r n)) ≡ (ltb g (suc n) && bit r g)) [
      | true ↦ λ e. elim (cases_order g n) [
        | inl same ↦
            ap (λ t. t || list_any (λ y. nat_eq y g) (marked r n)) (eq-eqb n g (sym same))
            ∙ sym ((λ i. lt-ltb g (suc n) (omega arith) i && bit r g) ∙ ap (bit r) same ∙ e)
        | inr (inl less) ↦
            ap (λ t. t || list_any
            (λ y. nat_eq y g) (marked r n)) (ne_eqb n g (omega arith)) ∙ in-marked r n g
            ∙ (λ i. (lt-ltb g n less ∙ sym (lt-ltb g (suc n) (omega arith))) i && bit r g)
        | inr (inr more) ↦
            ap (λ t. t || list_any
            (λ y. nat_eq y g) (marked r n)) (ne_eqb n g (omega arith)) ∙ in-marked r n g
            ∙ (λ i. (le-ltb g n (omega arith) ∙ sym (le-ltb g (suc n) (omega arith))) i && bit r g)
      ]
      | false ↦ λ e. in-marked r n g ∙ elim (cases_order g n) [
        | inl same ↦
            (λ i. le-ltb g n (omega arith) i && bit r g)
            ∙ sym ((λ i. lt-ltb g (suc n) (omega arith) i && bit r g) ∙ ap (bit r) same ∙ e)
        | inr (inl less) ↦ λ i. (lt-ltb g n less ∙ sym (lt-ltb g (suc n) (omega arith))) i
            && bit r g
        | inr (inr more) ↦ λ i. (le-ltb g n (omega arith) ∙ sym (le-ltb g (suc n) (omega arith))) i
            && bit r g
      ]
    ] refl

in-row : (r : List ℕ) (g : ℕ) → list_any (λ y. nat_eq y g) (marked r (64 * length r)) ≡ bit r g
in-row r g =
    in-marked r (64 * length r) g
    ∙ elim (cases_lt g (64 * length r)) [
      | inl lt ↦ ap (λ t. t && bit r g) (lt-ltb g (64 * length r) lt)
      | inr ge ↦ ap (λ t. t && bit r g) (le-ltb g (64 * length r) ge) ∙ sym (bit-past r g ge)
    ]

turned : (a b : ℕ) → eqb a b ≡ eqb b a
turned a b = grind (arith, nat_tests)

or_assoc : (a b c : Bool) → (a || (b || c)) ≡ ((a || b) || c)
or_assoc true b c = refl
or_assoc false b c = refl

in-pairs : (hs : List ℕ) (g : ℕ) → list_any (λ y. nat_eq y g) (flat_map
    (λ half. (2 * half) ∷ (2 * half + 1) ∷ []) hs) ≡ list_any (λ y. nat_eq y (g / 2)) hs
in-pairs [] g = refl
in-pairs (h ∷ hs) g =
    ap (λ t. nat_eq (2 * h) g || (nat_eq (2 * h + 1) g || t)) (in-pairs hs g)
    ∙ or_assoc (nat_eq (2 * h) g) (nat_eq (2 * h + 1) g) (list_any (λ y. nat_eq y (g / 2)) hs)
    ∙ ap (λ t. t || list_any
    (λ y. nat_eq y (g / 2)) hs) ((λ i. turned (2 * h) g i || turned (2 * h + 1) g i)
    ∙ sym (half_eq g h) ∙ turned (g / 2) h)

in-granules : (rows : List (List ℕ)) (g : ℕ) → list_any
    (λ y. nat_eq y g) (granules rows) ≡ is_covered rows g
in-granules [] g = refl
in-granules (r ∷ rows) g =
    list_any-append (λ y. nat_eq y g) (marked r (64 * length r)) (flat_map
    (λ half. (2 * half) ∷ (2 * half + 1) ∷ []) (granules rows))
    ∙ (λ i. in-row r g i || (in-pairs (granules rows) g ∙ in-granules rows (g / 2)) i)

-- a word of a granule
word-granule : (g n : ℕ) → Decides (nat_eq g (n / 128)) ((128 * g ≤ n) × (n < 128 * g + 128))
word-granule g n = (
  λ e. let same : g ≡ n / 128 = eqb-true _ _ e in (omega arith, omega arith),
  λ h. eq-eqb _ _ (omega (arith, h.0, h.1)),
)

numbers : (gs : List ℕ) (n : ℕ) → list_any
    (λ y. nat_eq y n) (flat_map granule_words gs) ≡ list_any (λ y. nat_eq y (n / 128)) gs
numbers [] n = refl
numbers (g ∷ gs) n =
    list_any-append (λ y. nat_eq y n) (granule_words g) (flat_map granule_words gs)
    ∙ (λ i. same_from_decides _ _ (range-decides (128 * g) 128 n) (word-granule g n) i
    || numbers gs n i)

-- a word is free exactly if its granule is covered
pub contains-space_of : (sizes : Sizes) (roots : ℕ) (rows : List (List ℕ)) (n : ℕ)
    → contains (space_of sizes roots rows).free n ≡ is_covered rows (n / 128)
contains-space_of sizes roots rows n =
    contains-from_list_nat (flat_map granule_words (granules rows)) n ∙ numbers (granules rows) n
    ∙ in-granules rows (n / 128)

pub words-is_in : (top : ℕ) (c : Chunk) (b : Block) (n : ℕ) → IsSame top c b
    → contains (words top c) n ≡ is_in b (n / 128)
words-is_in top c b n same =
    same_from_decides _ _ (words-decides top c n)
    (subst (λ from. Decides (is_in b (n / 128)) ((from ≤ n)
    × (n < from + chunk_size c.order))) same.place
    (subst (λ size. Decides (is_in b (n / 128)) ((b.index * chunk_size b.order ≤ n)
    × (n < b.index * chunk_size b.order + size))) (ap chunk_size same.order) (granule b n)))

-- the rows without a block are seen as the pool without its chunk
pub space-without : (sizes : Sizes) (roots : ℕ) (old new : List (List ℕ)) (c : Chunk) (b : Block)
    → IsSame sizes.top c b → ((g : ℕ) → is_covered new g ≡ (is_covered old g && not (is_in b g)))
    → space_of sizes roots new ≡ without (space_of sizes roots old) c
space-without sizes roots old new c b same h =
    same_numbers (space_of sizes roots new) (without (space_of sizes roots old) c) refl refl (λ n.
    contains-space_of sizes roots new n ∙ h (n / 128)
    ∙ (λ i. sym (contains-space_of sizes roots old n) i
    && not (sym (words-is_in sizes.top c b n same) i))
    ∙ sym (contains-difference nat_cmp_total (space_of sizes roots old).free (words sizes.top c) n))

or_swapped : (a b : Bool) → (a || b) ≡ (b || a)
or_swapped true true = refl
or_swapped true false = refl
or_swapped false true = refl
or_swapped false false = refl

pub space-with_chunk : (sizes : Sizes) (roots : ℕ) (old new : List (List ℕ)) (c : Chunk) (b : Block)
    → IsSame sizes.top c b → ((g : ℕ) → is_covered new g ≡ (is_in b g || is_covered old g))
    → space_of sizes roots new ≡ with_chunk (space_of sizes roots old) c
space-with_chunk sizes roots old new c b same h =
    same_numbers (space_of sizes roots new) (with_chunk (space_of sizes roots old) c) refl refl
    (λ n.
    contains-space_of sizes roots new n ∙ h (n / 128) ∙ or_swapped (is_in b (n / 128)) _
    ∙ (λ i. sym (contains-space_of sizes roots old n) i || sym (words-is_in sizes.top c b n same) i)
    ∙ sym (contains-union nat_cmp_total (space_of sizes roots old).free (words sizes.top c) n))

pub space-with_root : (sizes : Sizes) (roots : ℕ) (old new : List (List ℕ)) (b : Block)
    → IsSame sizes.top (record { root = roots; order = sizes.top; at = 0 }) b → ((g : ℕ)
    → is_covered new g ≡ (is_in b g || is_covered old g))
    → space_of sizes (roots + 1) new ≡ with_root (space_of sizes roots old)
space-with_root sizes roots old new b same h =
    let c : Chunk = record { root = roots; order = sizes.top; at = 0 } in
    same_numbers (space_of sizes (roots + 1) new) (with_root (space_of sizes roots old))
    refl refl (λ n.
    contains-space_of sizes (roots + 1) new n ∙ h (n / 128) ∙ or_swapped (is_in b (n / 128)) _
    ∙ (λ i. sym (contains-space_of sizes roots old n) i || sym (words-is_in sizes.top c b n same) i)
    ∙ sym (contains-union nat_cmp_total (space_of sizes roots old).free (words sizes.top c) n))

-- the word of a granule of a chunk's block
granule-word : (top : ℕ) (c : Chunk) (b : Block) (g : ℕ) → IsSame top c b → is_in b g ≡ true
    → (word : ℕ) × (word_number top c.root word ≡ 128 * g) × (c.at ≤ word)
    × (word < c.at + chunk_size c.order)
granule-word top c b g same h =
    let whole : 128 * g / 128 ≡ g = omega arith in
    chunk-word top c (128 * g) (words-is_in top c b (128 * g) same ∙ ap (is_in b) whole ∙ h)

-- the block of a free chunk is covered
pub free-covered : (sizes : Sizes) (roots : ℕ) (rows : List (List ℕ)) (c : Chunk) (b : Block)
    → IsSame sizes.top c b → IsFreeChunk (space_of sizes roots rows) c → (g : ℕ)
    → is_in b g ≡ true → is_covered rows g ≡ true
free-covered sizes roots rows c b same free g h =
    let word = granule-word sizes.top c b g same h in
    let whole : 128 * g / 128 ≡ g = omega arith in
    ap (is_covered rows) (sym whole) ∙ sym (contains-space_of sizes roots rows (128 * g))
    ∙ ap (contains (space_of sizes roots rows).free) (sym word.1)
    ∙ (free.words word.0 word.2 word.3).is_free

pub used-uncovered : (sizes : Sizes) (roots : ℕ) (rows : List (List ℕ)) (c : Chunk) (b : Block)
    → IsSame sizes.top c b → IsUsedChunk (space_of sizes roots rows) c → (g : ℕ)
    → is_in b g ≡ true → is_covered rows g ≡ false
used-uncovered sizes roots rows c b same used g h =
    let word = granule-word sizes.top c b g same h in
    let whole : 128 * g / 128 ≡ g = omega arith in
    false_from_ne_true _ (λ e. used.words word.0 word.2 word.3 (record {
      within = omega (arith, word.3, used.block.inside);
      is_free = ap (contains (space_of sizes roots rows).free) word.1
          ∙ contains-space_of sizes roots rows (128 * g) ∙ ap (is_covered rows) whole ∙ e;
    }))

-- a chunk whose block is covered is free
pub covered-free : (sizes : Sizes) (roots : ℕ) (rows : List (List ℕ)) (c : Chunk) (b : Block)
    → IsSame sizes.top c b → IsBlock sizes.top roots c → ((g : ℕ) → is_in b g ≡ true
    → is_covered rows g ≡ true) → IsFreeChunk (space_of sizes roots rows) c
covered-free sizes roots rows c b same block h =
    record {
      block = block;
      words = λ word low high.
          let n = word_number sizes.top c.root word in
          let within = (words-decides sizes.top c n).1 (omega (arith, low), omega (arith, high)) in
          record {
            within = omega (arith, high, block.inside);
            is_free = contains-space_of sizes roots rows n
                ∙ h (n / 128) (sym (words-is_in sizes.top c b n same) ∙ within);
          };
    }
