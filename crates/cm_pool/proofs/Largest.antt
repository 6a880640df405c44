-- The largest free chunks of any pool, listed in order.
-- On `AreLargestFree`, `FreeSpace`, `OneListOfLargest`.
use Rattle.std.proofs.Common.{◌≡◌, ℕ, zero, suc, ◌+◌, ◌-◌, ◌*◌, ◌/◌, ◌%◌, ◌^◌, ◌<◌, ◌≤◌, Bool, true}
use Rattle.std.proofs.Common.{false, cond, not, ◌&&◌, ◌||◌, ltb, eqb, List, [], ◌∷◌, ◌++◌, Option}
use Rattle.std.proofs.Common.{Some, None, IfSome, refl, sym, ap, ◌∙◌, subst, inl, inr, arith}
use Rattle.std.specs.List.{AllByRecursion}
use Rattle.std.specs.Cmp.{nat_cmp_total}
use Rattle.std.specs.FinSet.{contains, is_subset, is_subset-contains, contains-is_subset}
use Rattle.std.proofs.lemmas.List.{append-nil}
use Rattle.std.proofs.lemmas.Nat.{pow_pos, div-mul-add, mod-mul-add}
use Rattle.std.proofs.lemmas.Bool.{both_ways, cases_lt, cases_eq, cases_order, and_parts, and_from}
use Rattle.std.proofs.lemmas.Bool.{or_cases, or_left, or_right, not-true, not_from_false}
use Rattle.std.proofs.lemmas.Bool.{false_from_ne_true, lt-ltb, le-ltb, eqb-true, eq-eqb}
use Rattle.std.proofs.Math.Nat.{mul-le-mul_right, lt_of_mul-lt-mul_right, div-add-mod, mul-mod_left}
use Rattle.std.proofs.Math.Nat.{div-lt_iff_lt-mul, two-pow-succ, mul-div_left}
use Rattle.cm_pool.specs.declared.chunk.Chunk.{Chunk}
use Rattle.cm_pool.specs.declared.block.Block.{Block}
use Rattle.cm_pool.specs.Chunks.{chunk_size, Covers, IsBlock}
use Rattle.cm_pool.specs.FreeSpace.{FreeSpace, word_number, words, IsFreeWord, IsFreeChunk}
use Rattle.cm_pool.specs.FreeSpace.{LiesBefore}
use Rattle.cm_pool.specs.Lists.{Pairwise, Among}
use Rattle.cm_pool.specs.Blocks.{is_in, start}
use Rattle.cm_pool.specs.Laws.{chunk_above, IsLargestFree, AreLargestFree, OneListOfLargest}
use Rattle.cm_pool.proofs.Lists.{each-weaker, each-join, pairs-insert}
use Rattle.cm_pool.proofs.FreeWords.{words-decides, chunk-word, number-order}
use Rattle.cm_pool.proofs.Places.{chunk_at, chunk_at-same, chunk_at-block, split}
use Rattle.cm_pool.proofs.Dyadic.{inside-from_shared}
use Rattle.cm_pool.proofs.Pools.{block_of, same-block_of, same-stop}
use Rattle.cm_pool.proofs.ChunkLaws.{covers-in, inside-part, halves_make_whole, same_list}

-- whether all words of a chunk are free
is_free : FreeSpace → Chunk → Bool
is_free p c = is_subset (words p.geometry.top c) p.free

free-from_test : (p : FreeSpace) (c : Chunk) → IsBlock p.geometry.top p.roots c
    → is_free p c ≡ true → IsFreeChunk p c
unfolding is_free
free-from_test p c block h =
    record {
      block = block;
      words = λ word low high.
          let n = word_number p.geometry.top c.root word in
          record {
            within = omega (arith, high, block.inside);
            is_free = is_subset-contains nat_cmp_total (words p.geometry.top c) p.free h n
                ((words-decides p.geometry.top c n).1 (omega (arith, low), omega (arith, high)));
          };
    }

test-from_free : (p : FreeSpace) (c : Chunk) → IsFreeChunk p c → is_free p c ≡ true
unfolding is_free
test-from_free p c h =
    contains-is_subset nat_cmp_total (words p.geometry.top c) p.free (λ n e.
    let at = chunk-word p.geometry.top c n e in
    ap (contains p.free) (sym at.1) ∙ (h.words at.0 at.2 at.3).is_free)

-- the chunk above is in the root too
above-block : (top roots : ℕ) (c : Chunk) → IsBlock top roots c → c.order < top
    → IsBlock top roots (chunk_above c)
above-block top roots c h lt =
    let double : 2 ^ (c.order + 1) ≡ 2 ^ c.order + 2 ^ c.order = ap
    (λ k. 2 ^ k) (omega arith) ∙ two-pow-succ c.order in
    let size = 2 * chunk_size c.order in
    let same : chunk_size (c.order + 1) ≡ size = omega (arith, double) in
    let parts : 2 ^ top ≡ 2 ^ (top - (c.order + 1)) * 2 ^ (c.order + 1) =
    split top (c.order + 1) (omega arith) in
    let whole : chunk_size top ≡ 2 ^ (top - (c.order + 1)) * size = omega (
      arith,
      parts,
      ap
          (λ s. 2 ^ (top - (c.order + 1)) * s) double,
    ) in
    let pos : 0 < size = omega (arith, pow_pos c.order) in
    let below : c.at / size < 2 ^ (top - (c.order + 1)) =
    (div-lt_iff_lt-mul pos).1 (omega (arith, whole, h.inside)) in
    let room : (c.at / size + 1) * size ≤ 2 ^ (top - (c.order + 1)) * size =
    mul-le-mul_right size (omega arith) in
    record {
      within_top = omega arith;
      in_a_root = h.in_a_root;
      aligned = ap (λ s. c.at / size * size % s) same ∙ mul-mod_left (c.at / size) size;
      inside = omega (arith, same, whole, room);
    }

-- whether a chunk is one of the largest
is_largest : FreeSpace → Chunk → Bool
is_largest p c =
    is_free p c && (not (ltb c.order p.geometry.top) || not (is_free p (chunk_above c)))

largest-from_test : (p : FreeSpace) (c : Chunk) → IsBlock p.geometry.top p.roots c
    → is_largest p c ≡ true → IsLargestFree p c
unfolding is_largest
largest-from_test p c block h =
    let parts = and_parts (is_free p c) _ h in
    record {
      free = free-from_test p c block parts.0;
      largest = λ lt above.
          elim (or_cases (not (ltb c.order p.geometry.top)) _ parts.1) [
            | inl isnt ↦ absurd (both_ways _ (not-true _ isnt) (lt-ltb c.order p.geometry.top lt))
            | inr isnt ↦ absurd (both_ways _ (not-true _ isnt)
                (test-from_free p (chunk_above c) above))
          ];
    }

test-from_largest : (p : FreeSpace) (c : Chunk) → IsLargestFree p c → is_largest p c ≡ true
unfolding is_largest
test-from_largest p c h =
    and_from (is_free p c) _ (test-from_free p c h.free)
    (elim (cases_lt c.order p.geometry.top) [
      | inl lt ↦
          or_right (not (ltb c.order p.geometry.top)) _ (not_from_false _ (false_from_ne_true _
          (λ e.
          h.largest lt (free-from_test p (chunk_above c)
          (above-block p.geometry.top p.roots c h.free.block lt) e))))
      | inr ge ↦ or_left (not (ltb c.order p.geometry.top)) _
          (not_from_false _ (le-ltb c.order p.geometry.top ge))
    ])

-- the chunk of an order that begins at a granule, if one does
candidate : FreeSpace → ℕ → ℕ → Chunk
candidate p n o = chunk_at p.geometry.top (record { index = n / 2 ^ o; order = o })

begins : ℕ → ℕ → Bool
begins n o = eqb (n / 2 ^ o * 2 ^ o) n

passes : FreeSpace → ℕ → ℕ → Bool
passes p n o = begins n o && is_largest p (candidate p n o)

candidate-block : (p : FreeSpace) (n o : ℕ) → o ≤ p.geometry.top
    → n < p.roots * 2 ^ p.geometry.top → begins n o ≡ true
    → IsBlock p.geometry.top p.roots (candidate p n o)
    × (word_number p.geometry.top (candidate p n o).root (candidate p n o).at ≡ 128 * n)
unfolding candidate begins
candidate-block p n o le below h =
    let top = p.geometry.top in
    let i = n / 2 ^ o in
    let here : i * 2 ^ o ≡ n = eqb-true _ _ h in
    let parts : 2 ^ top ≡ 2 ^ (top - o) * 2 ^ o = split top o le in
    let less : i < p.roots * 2 ^ (top - o) =
    lt_of_mul-lt-mul_right (2 ^ o) (omega (arith, below, here, ap (λ s. p.roots * s) parts)) in
    let more : (i + 1) * 2 ^ o ≤ p.roots * 2 ^ (top - o) * 2 ^ o =
    mul-le-mul_right (2 ^ o) (omega arith) in
    let b : Block = record { index = i; order = o } in (
      chunk_at-block top b p.roots le (omega (arith, more, ap (λ s. p.roots * s) parts)),
      sym (chunk_at-same top b le).place ∙ omega (arith, ap (λ m. 128 * m) here),
    )

-- a chunk is the candidate of its order at the granule where it begins
candidate-is : (p : FreeSpace) (c : Chunk) (n : ℕ) → IsBlock p.geometry.top p.roots c
    → word_number p.geometry.top c.root c.at ≡ 128 * n → (candidate p n c.order ≡ c)
    × (begins n c.order ≡ true)
unfolding candidate begins
candidate-is p c n block number =
    let top = p.geometry.top in
    let o = c.order in
    let b = block_of top c in
    let same = same-block_of top p.roots c block in
    let here : b.index * 2 ^ o ≡ n = omega (arith, same.place, number) in
    let index : n / 2 ^ o ≡ b.index = ap
    (λ m. m / 2 ^ o) (sym here) ∙ mul-div_left b.index (pow_pos o) in
    let d = 2 ^ (top - o) in
    let size = chunk_size o in
    let parts : 2 ^ top ≡ d * 2 ^ o = split top o block.within_top in
    let whole : chunk_size top ≡ d * size = omega (arith, parts) in
    let pos : 0 < size = omega (arith, pow_pos o) in
    let in_root : c.at / size < d =
    (div-lt_iff_lt-mul pos).1 (omega (arith, whole, block.inside)) in
    let at : size * (c.at / size) + c.at % size ≡ c.at = div-add-mod c.at size in
    let root : n / 2 ^ o / d ≡ c.root = ap
    (λ m. m / d) index ∙ div-mul-add c.root d (c.at / size) in_root in
    let place : n / 2 ^ o % d * (128 * 2 ^ o) ≡ c.at =
    ap (λ m. m % d * size) index ∙ ap
    (λ m. m * size) (mod-mul-add c.root d (c.at / size) in_root) ∙ omega (arith, at, block.aligned)
    in (
      (λ i. record { root = root i; order = o; at = place i }),
      eq-eqb _ _ (ap (λ m. m * 2 ^ o) index ∙ here),
    )

order-candidate : (p : FreeSpace) (n o : ℕ) → (candidate p n o).order ≡ o
unfolding candidate
order-candidate p n o = refl

-- the largest free chunk that begins at a granule, if there is one: it tries the orders from o down
pick : FreeSpace → ℕ → ℕ → Option Chunk
pick p n zero = cond (passes p n 0) (Some (candidate p n 0)) None
pick p n (suc o) = cond (passes p n (suc o)) (Some (candidate p n (suc o))) (pick p n o)

record IsPicked (p : FreeSpace) (n : ℕ) (c : Chunk) : Type 0 where
  largest : IsLargestFree p c
  number : word_number p.geometry.top c.root c.at ≡ 128 * n

picked : (p : FreeSpace) (n o : ℕ) → o ≤ p.geometry.top → n < p.roots * 2 ^ p.geometry.top
    → passes p n o ≡ true → IsPicked p n (candidate p n o)
unfolding passes
picked p n o le below h =
    let parts = and_parts (begins n o) _ h in
    let block = candidate-block p n o le below parts.0 in
    record { largest = largest-from_test p (candidate p n o) block.0 parts.1; number = block.1 }

pick-sound : (p : FreeSpace) (n o : ℕ) → o ≤ p.geometry.top → n < p.roots * 2 ^ p.geometry.top
    → IfSome (pick p n o) (IsPicked p n)
unfolding pick
pick-sound p n zero le below =
    elim (passes p n 0) as (λ b. passes p n 0 ≡ b
    → IfSome (cond b (Some (candidate p n 0)) None) (IsPicked p n)) [
      | true ↦ λ e. picked p n 0 le below e
      | false ↦ λ _. tt
    ] refl
pick-sound p n (suc o) le below =
    elim (passes p n (suc o)) as (λ b. passes p n (suc o) ≡ b
    → IfSome (cond b (Some (candidate p n (suc o))) (pick p n o)) (IsPicked p n)) [
      | true ↦ λ e. picked p n (suc o) le below e
      | false ↦ λ _. pick-sound p n o (omega arith) below
    ] refl

-- no larger free chunk begins there
none-larger : (p : FreeSpace) (n : ℕ) (c d : Chunk) → IsPicked p n c → IsPicked p n d
    → c.order < d.order → ⊥
none-larger p n c d h k lt =
    let top = p.geometry.top in
    let block_c = h.largest.free.block in
    let block_d = k.largest.free.block in
    let small : c.order < top = omega (arith, block_d.within_top) in
    let up = above-block top p.roots c block_c small in
    let first : Covers c c.root c.at =
    record { same_root = refl; from = omega arith; to = omega (arith, pow_pos c.order) } in
    let first_d : Covers d d.root d.at =
    record { same_root = refl; from = omega arith; to = omega (arith, pow_pos d.order) } in
    let in_up : Covers (chunk_above c) c.root c.at =
    (halves_make_whole top p.roots c block_c c.root c.at).1 (inl first) in
    let g_up = covers-in top p.roots (chunk_above c) c.root c.at up in_up in
    let g_d = covers-in top p.roots d d.root d.at block_d first_d in
    let same : word_number top d.root d.at ≡ word_number top c.root c.at =
    k.number ∙ sym h.number in
    let nested =
    inside-from_shared (block_of top (chunk_above c)) (block_of top d)
    (word_number top c.root c.at / 128) (omega arith) g_up
    (subst (λ m. is_in (block_of top d) (m / 128) ≡ true) same g_d)
    in
    let part = inside-part top p.roots (chunk_above c) d up block_d nested in
    h.largest.largest small (record {
      block = up;
      words = λ word low high.
          let covers = part c.root word (record { same_root = refl; from = low; to = high }) in
          subst (λ r. IsFreeWord p r word) (sym covers.same_root)
          (k.largest.free.words word covers.from covers.to);
    })

pick-complete : (p : FreeSpace) (n : ℕ) (c : Chunk) (o : ℕ) → o ≤ p.geometry.top
    → n < p.roots * 2 ^ p.geometry.top → IsPicked p n c → c.order ≤ o → pick p n o ≡ Some c
unfolding pick passes
pick-complete p n c zero le below h small =
    let is = candidate-is p c n h.largest.free.block h.number in
    let order : c.order ≡ 0 = omega arith in
    let same : candidate p n 0 ≡ c = ap (λ o. candidate p n o) (sym order) ∙ is.0 in
    let here : begins n 0 ≡ true = ap (begins n) (sym order) ∙ is.1 in
    let test : passes p n 0 ≡ true =
    and_from _ _ here (ap (is_largest p) same ∙ test-from_largest p c h.largest) in
    ap (λ b. cond b (Some (candidate p n 0)) None) test ∙ ap Some same
pick-complete p n c (suc o) le below h small =
    elim (cases_lt c.order (suc o)) [
      | inl lt ↦
          elim (passes p n (suc o)) as (λ b. passes p n (suc o) ≡ b
          → cond b (Some (candidate p n (suc o))) (pick p n o) ≡ Some c) [
            | true ↦ λ e. absurd (none-larger p n c (candidate p n (suc o)) h
                (picked p n (suc o) le below e)
                (subst (λ k. c.order < k) (sym (order-candidate p n (suc o))) lt))
            | false ↦ λ e. pick-complete p n c o (omega arith) below h (omega arith)
          ] refl
      | inr ge ↦
          let is = candidate-is p c n h.largest.free.block h.number in
          let order : c.order ≡ suc o = omega arith in
          let same : candidate p n (suc o) ≡ c = ap (λ k. candidate p n k) (sym order) ∙ is.0 in
          let here : begins n (suc o) ≡ true = ap (begins n) (sym order) ∙ is.1 in
          let test : passes p n (suc o) ≡ true =
          and_from _ _ here (ap (is_largest p) same ∙ test-from_largest p c h.largest) in
          ap (λ b. cond b (Some (candidate p n (suc o))) (pick p n o)) test ∙ ap Some same
    ]

-- the largest free chunks that begin below a granule, in order
with_option : List Chunk → Option Chunk → List Chunk
with_option cs None = cs
with_option cs (Some c) = cs ++ c ∷ []

all_below : FreeSpace → ℕ → List Chunk
all_below p zero = []
all_below p (suc n) = with_option (all_below p n) (pick p n p.geometry.top)

record IsListed (p : FreeSpace) (n : ℕ) (c : Chunk) : Type 0 where
  largest : IsLargestFree p c
  number : word_number p.geometry.top c.root c.at < 128 * n

before-number : (top roots : ℕ) (c d : Chunk) → IsBlock top roots c → IsBlock top roots d
    → word_number top c.root c.at < word_number top d.root d.at → LiesBefore c d
before-number top roots c d block_c block_d lt =
    elim (cases_order c.root d.root) [
      | inl e ↦ let same : c.root * chunk_size top ≡ d.root * chunk_size top = ap
          (λ r. r * chunk_size top) e in inr (e, omega (arith, same, lt))
      | inr (inl less) ↦ inl less
      | inr (inr more) ↦ absurd
          (omega (
            arith,
            lt,
            number-order (chunk_size top) d.root c.root d.at c.at more
                (omega (arith, block_d.inside, pow_pos d.order)),
          ))
    ]

listed-more : (p : FreeSpace) (n : ℕ) (o : Option Chunk)
    → AllByRecursion (IsListed p n) (all_below p n) → IfSome o (IsPicked p n)
    → AllByRecursion (IsListed p (suc n)) (with_option (all_below p n) o)
unfolding with_option
listed-more p n None h k = each-weaker (IsListed p n) (IsListed p (suc n))
    (λ c l. record { largest = l.largest; number = omega (arith, l.number) }) (all_below p n) h
listed-more p n (Some d) h k =
    each-join (IsListed p (suc n)) (all_below p n) (d ∷ [])
    (each-weaker (IsListed p n) (IsListed p (suc n))
    (λ c l. record { largest = l.largest; number = omega (arith, l.number) }) (all_below p n) h)
    (record { largest = k.largest; number = omega (arith, k.number) }, tt)

ordered-more : (p : FreeSpace) (n : ℕ) (o : Option Chunk) → Pairwise LiesBefore (all_below p n)
    → AllByRecursion (IsListed p n) (all_below p n) → IfSome o (IsPicked p n)
    → Pairwise LiesBefore (with_option (all_below p n) o)
unfolding with_option
ordered-more p n None q h k = q
ordered-more p n (Some d) q h k =
    pairs-insert LiesBefore (all_below p n) d [] (subst
    (λ (cs : List Chunk). Pairwise LiesBefore cs) (sym (append-nil (all_below p n))) q)
    (each-weaker (IsListed p n) (λ c. LiesBefore c d)
    (λ c l. before-number p.geometry.top p.roots c d l.largest.free.block k.largest.free.block
    (omega (arith, l.number, k.number))) (all_below p n) h) tt

listed : (p : FreeSpace) (n : ℕ) → n ≤ p.roots * 2 ^ p.geometry.top
    → Pairwise LiesBefore (all_below p n) × AllByRecursion (IsListed p n) (all_below p n)
unfolding all_below
listed p zero le = (tt, tt)
listed p (suc n) le =
    let before = listed p n (omega arith) in
    let sound = pick-sound p n p.geometry.top (omega arith) (omega arith) in (
      ordered-more p n (pick p n p.geometry.top) before.0 before.1 sound,
      listed-more p n (pick p n p.geometry.top) before.1 sound,
    )

among-front : (cs : List Chunk) (o : Option Chunk) (c : Chunk) → Among c cs
    → Among c (with_option cs o)
unfolding with_option
among-front cs None c m = m
among-front [] (Some d) c m = absurd m
among-front (b ∷ cs) (Some d) c (inl e) = inl e
among-front (b ∷ cs) (Some d) c (inr m) = inr (among-front cs (Some d) c m)

among-last : (cs : List Chunk) (c : Chunk) → Among c (with_option cs (Some c))
unfolding with_option
among-last [] c = inl refl
among-last (b ∷ cs) c = inr (among-last cs c)

every : (p : FreeSpace) (c : Chunk) (n m : ℕ) → IsPicked p n c → n < m
    → m ≤ p.roots * 2 ^ p.geometry.top → Among c (all_below p m)
unfolding all_below
every p c n zero h lt le = absurd (omega arith)
every p c n (suc m) h lt le =
    elim (cases_eq n m) [
      | inl e ↦
          let here : IsPicked p m c = subst (λ k. IsPicked p k c) e h in
          let found =
          pick-complete p m c p.geometry.top (omega arith) (omega arith) here
          h.largest.free.block.within_top in
          subst (λ o. Among c (with_option (all_below p m) o)) (sym found)
          (among-last (all_below p m) c)
      | inr other ↦ among-front (all_below p m) (pick p m p.geometry.top) c
          (every p c n m h (omega arith) (omega arith))
    ]

pub largest_listed : (p : FreeSpace) → (cs : List Chunk) × AreLargestFree p cs
largest_listed p =
    let top = p.geometry.top in
    let all = p.roots * 2 ^ top in
    let known = listed p all (omega arith) in (
      all_below p all,
      record {
        ordered = known.0;
        each = each-weaker (IsListed p all) (IsLargestFree p)
            (λ c l. l.largest) (all_below p all) known.1;
        every = λ c h.
            let b = block_of top c in
            let same = same-block_of top p.roots c h.free.block in
            let number : word_number top c.root c.at ≡ 128 * start b = omega (arith, same.place) in
            let below : start b < all =
            omega (arith, same-stop top p.roots c b same h.free.block, pow_pos b.order) in
            every p c (start b) all (record { largest = h; number = number }) below (omega arith);
      },
    )

pub one_list_of_largest : OneListOfLargest
one_list_of_largest p = (largest_listed p, same_list p)
