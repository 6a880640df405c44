-- What is free after a change, and that what is free determines a pool's value.
-- For `Pool::add_root`, `Pool::alloc`, `Pool::geometry` and others.
use Rattle.std.proofs.Common.{◌≡◌, ℕ, zero, suc, ◌+◌, ◌-◌, ◌*◌, ◌/◌, ◌%◌, ◌^◌, ◌<◌, ◌≤◌, Bool, true}
use Rattle.std.proofs.Common.{false, ◌||◌, ◌&&◌, not, eqb, refl, sym, ap, ◌∙◌, subst, inl, inr, ◌⊎◌}
use Rattle.std.proofs.Common.{◌↔◌, arith, Decides}
use Rattle.std.specs.List.{list_any, range_with_len}
use Rattle.std.specs.Prelude.{nat_eq}
use Rattle.std.specs.Ordering.{nat_cmp}
use Rattle.std.specs.Cmp.{nat_cmp_total}
use Rattle.std.specs.FinSet.{from_list, contains, union, difference, contains-from_list_nat}
use Rattle.std.specs.FinSet.{contains-union, contains-difference, same_set, nat_cmp-IsAntisymmetric}
use Rattle.std.proofs.lemmas.Nat.{pow_pos, pow-add, div-add-mod'}
use Rattle.std.proofs.lemmas.Bool.{cases_eq, cases_order, or_cases, or_left, or_right, and_from}
use Rattle.std.proofs.lemmas.Bool.{and_parts, both_ways, eqb-true, eq-eqb, not-true, not_from_false}
use Rattle.std.proofs.lemmas.Bool.{false_from_ne_true}
use Rattle.std.proofs.lemmas.Bool.Decides.{same_from_decides, Decides-at, Decides-like}
use Rattle.std.proofs.Math.Nat.{pow-le-pow_right, zero-mod, div-add-mod, mul-mod_left}
use Rattle.std.proofs.Math.Nat.{mul-le-mul_right, mod-lt}
use Rattle.cm_pool.specs.declared.chunk.Chunk.{Chunk}
use Rattle.cm_pool.specs.Geometry.{Sizes}
use Rattle.cm_pool.specs.Chunks.{chunk_size, Covers, Meets}
use Rattle.cm_pool.specs.FreeSpace.{FreeSpace, word_number, IsFreeWord, IsFreeChunk, IsUsedChunk}
use Rattle.cm_pool.specs.FreeSpace.{HasFree, words, without, with_chunk, with_root, next_root}

-- a word's number determines its root
pub number-order : (size a b v w : ℕ) → a < b → v < size → a * size + v < b * size + w
number-order size a b v w lt h =
    let more : (a + 1) * size ≤ b * size = mul-le-mul_right size (omega arith) in
    omega arith

pub covers-number : (top : ℕ) (c : Chunk) (root word : ℕ)
    → c.at + chunk_size c.order ≤ chunk_size top → word < chunk_size top
    → word_number top c.root c.at ≤ word_number top root word
    → word_number top root word < word_number top c.root c.at + chunk_size c.order
    → Covers c root word
covers-number top c root word inside within low high =
    elim (cases_order root c.root) [
      | inl e ↦
          let same : root * chunk_size top ≡ c.root * chunk_size top = ap
          (λ r. r * chunk_size top) e in
          record { same_root = e; from = omega (arith, low, same); to = omega (arith, high, same) }
      | inr (inl lt) ↦ absurd (omega
          (arith, low, number-order (chunk_size top) root c.root word c.at lt within))
      | inr (inr gt) ↦
          let more : (c.root + 1) * chunk_size top ≤ root * chunk_size top =
          mul-le-mul_right (chunk_size top) (omega arith) in
          absurd (omega (arith, high, inside, more))
    ]

pub number-covers : (top : ℕ) (c : Chunk) (root word : ℕ) → Covers c root word
    → (word_number top c.root c.at ≤ word_number top root word)
    × (word_number top root word < word_number top c.root c.at + chunk_size c.order)
number-covers top c root word h =
    let same : root * chunk_size top ≡ c.root * chunk_size top = ap
    (λ r. r * chunk_size top) h.same_root in
    (omega (arith, h.from, same), omega (arith, h.to, same))

-- which numbers a chunk has
pub range-decides : (a n q : ℕ) → Decides (list_any
    (λ y. nat_eq y q) (range_with_len a n)) ((a ≤ q) × (q < a + n))
range-decides a zero q =
    (λ e. absurd (both_ways false refl e), λ h. absurd (omega (arith, h.0, h.1)))
range-decides a (suc n) q = (
  λ e. elim (or_cases (eqb a q) _ e) [
    | inl same ↦ let is : a ≡ q = eqb-true a q same in (omega arith, omega arith)
    | inr more ↦ let h = (range-decides (a + 1) n q).0 more in
        (omega (arith, h.0), omega (arith, h.1))
  ],
  λ h. elim (cases_eq a q) [
    | inl same ↦ or_left (eqb a q) _ (eq-eqb a q same)
    | inr other ↦ or_right (eqb a q) _
        ((range-decides (a + 1) n q).1 (omega (arith, h.0), omega (arith, h.1)))
  ],
)

pub words-decides : (top : ℕ) (c : Chunk) (q : ℕ)
    → Decides (contains (words top c) q) ((word_number top c.root c.at ≤ q)
    × (q < word_number top c.root c.at + chunk_size c.order))
unfolding words
words-decides top c q =
    Decides-at _ _ (contains-from_list_nat _ q)
    (range-decides (word_number top c.root c.at) (chunk_size c.order) q)

pub range-set-decides : (a n q : ℕ)
    → Decides (contains (from_list {R = nat_cmp} (range_with_len a n)) q) ((a ≤ q) × (q < a + n))
range-set-decides a n q = Decides-at _ _ (contains-from_list_nat _ q) (range-decides a n q)

-- a word of a root is in a chunk inside that root exactly if the chunk covers it
pub words-covers : (top : ℕ) (c : Chunk) (root word : ℕ)
    → c.at + chunk_size c.order ≤ chunk_size top → word < chunk_size top
    → Decides (contains (words top c) (word_number top root word)) (Covers c root word)
words-covers top c root word inside within =
    Decides-like _
    (λ h. covers-number top c root word inside within h.0 h.1) (number-covers top c root word)
    (words-decides top c (word_number top root word))

-- the free words after a chunk is taken
pub free-without : (p : FreeSpace) (c : Chunk) (root word : ℕ)
    → c.at + chunk_size c.order ≤ chunk_size p.geometry.top → IsFreeWord (without p c) root word
    ↔ (IsFreeWord p root word × (¬ Covers c root word))
free-without p c root word inside =
    let n = word_number p.geometry.top root word in
    let is = contains-difference nat_cmp_total p.free (words p.geometry.top c) n in (
      λ h. let parts = and_parts (contains p.free n) _ (sym is ∙ h.is_free) in (
        record { within = h.within; is_free = parts.0 },
        λ covers. both_ways _ (not-true _ parts.1)
            ((words-covers p.geometry.top c root word inside h.within).1 covers),
      ),
      λ h. record {
        within = h.0.within;
        is_free = is ∙ and_from _ _ h.0.is_free (not_from_false _ (false_from_ne_true _
            (λ e. h.1 ((words-covers p.geometry.top c root word inside h.0.within).0 e))));
      },
    )

-- the free words after a chunk is given back
pub free-with_chunk : (p : FreeSpace) (c : Chunk) (root word : ℕ)
    → c.at + chunk_size c.order ≤ chunk_size p.geometry.top
    → IsFreeWord (with_chunk p c) root word ↔ (IsFreeWord p root word ⊎ Covers c root word)
free-with_chunk p c root word inside =
    let n = word_number p.geometry.top root word in
    let is = contains-union nat_cmp_total p.free (words p.geometry.top c) n in (
      λ h. elim (or_cases (contains p.free n) _ (sym is ∙ h.is_free)) [
        | inl e ↦ inl (record { within = h.within; is_free = e })
        | inr e ↦ inr ((words-covers p.geometry.top c root word inside h.within).0 e)
      ],
      λ h. elim h [
        | inl free ↦ record { within = free.within; is_free = is ∙ or_left _ _ free.is_free }
        | inr covers ↦
            let within : word < chunk_size p.geometry.top = omega (arith, covers.to, inside) in
            record {
              within = within;
              is_free = is
                  ∙ or_right (contains p.free n) _
                  ((words-covers p.geometry.top c root word inside within).1 covers);
            }
      ],
    )

-- the free words after a root is added
pub free-with_root : (p : FreeSpace) (root word : ℕ) → IsFreeWord (with_root p) root word
    ↔ (IsFreeWord p root word ⊎ ((root ≡ p.roots) × (word < chunk_size p.geometry.top)))
free-with_root p root word =
    let more = free-with_chunk p (next_root p) root word (omega arith) in (
      λ h. elim (more.0 (record { within = h.within; is_free = h.is_free })) [
        | inl free ↦ inl free
        | inr covers ↦ inr (covers.same_root, omega (arith, covers.to))
      ],
      λ h. elim h [
        | inl free ↦ let is =
            more.1 (inl free) in record { within = is.within; is_free = is.is_free }
        | inr (same, within) ↦
            let is = more.1 (inr (record {
              same_root = same;
              from = omega arith;
              to = omega arith;
            })) in
            record { within = is.within; is_free = is.is_free }
      ],
    )

same_parts : (p q : FreeSpace) → p.geometry ≡ q.geometry → p.roots ≡ q.roots → p.free ≡ q.free
    → p ≡ q
same_parts p q a b c = λ i. record { geometry = a i; roots = b i; free = c i }

pub same_numbers : (p q : FreeSpace) → p.geometry ≡ q.geometry → p.roots ≡ q.roots → ((n : ℕ)
    → contains p.free n ≡ contains q.free n) → p ≡ q
same_numbers p q a b h =
    same_parts p q a b (same_set nat_cmp_total nat_cmp-IsAntisymmetric p.free q.free h)

-- Two pools of the same geometry, with equally many roots and the same free words, are the same
-- value.
pub same_space : (p q : FreeSpace) → p.geometry ≡ q.geometry → p.roots ≡ q.roots
    → ((root word : ℕ) → IsFreeWord p root word ↔ IsFreeWord q root word) → p ≡ q
same_space p q a b h =
    let size = chunk_size p.geometry.top in
    let sizes : chunk_size p.geometry.top ≡ chunk_size q.geometry.top = ap
    (λ (g : Sizes). chunk_size g.top) a in
    let pos : 0 < size = omega (arith, pow_pos p.geometry.top) in
    same_numbers p q a b (λ n.
    let within : n % size < size = mod-lt n pos in
    let number : word_number p.geometry.top (n / size) (n % size) ≡ n = div-add-mod' n size in
    let number_q : word_number q.geometry.top (n / size) (n % size) ≡ n = ap
    (λ s. n / size * s + n % size) (sym sizes) ∙ number in
    same_from_decides {P = contains p.free n ≡ true} (contains p.free n) (contains q.free n)
    (λ e. e, λ e. e) (
      λ e. let free =
          (h (n / size) (n % size)).1
          (record {
            within = omega (arith, within, sizes);
            is_free = ap (contains q.free) number_q ∙ e;
          }) in
          ap (contains p.free) (sym number) ∙ free.is_free,
      λ e. let free =
          (h (n / size) (n % size)).0
          (record { within = within; is_free = ap (contains p.free) number ∙ e }) in
          ap (contains q.free) (sym number_q) ∙ free.is_free,
    ))

-- a number of a chunk is that of one of its words
pub chunk-word : (top : ℕ) (c : Chunk) (n : ℕ) → contains (words top c) n ≡ true → (word : ℕ)
    × (word_number top c.root word ≡ n) × (c.at ≤ word) × (word < c.at + chunk_size c.order)
chunk-word top c n e =
    let h = (words-decides top c n).0 e in
    (n - c.root * chunk_size top, omega (arith, h.0), omega (arith, h.0), omega (arith, h.0, h.1))

-- Giving back what was taken restores the pool.
pub restores : (p : FreeSpace) (c : Chunk) → IsFreeChunk p c → with_chunk (without p c) c ≡ p
restores p c h =
    same_numbers (with_chunk (without p c) c) p refl refl (λ n.
    contains-union nat_cmp_total (difference p.free (words p.geometry.top c))
    (words p.geometry.top c) n
    ∙ ap (λ b. b || contains (words p.geometry.top c) n)
    (contains-difference nat_cmp_total p.free (words p.geometry.top c) n)
    ∙ put_back (contains p.free n) (contains (words p.geometry.top c) n)
    (λ e. let at = chunk-word p.geometry.top c n e in
    ap (contains p.free) (sym at.1) ∙ (h.words at.0 at.2 at.3).is_free))
  where
    put_back : (f w : Bool) → (w ≡ true → f ≡ true) → ((f && not w) || w) ≡ f
    put_back true true k = refl
    put_back true false k = refl
    put_back false true k = sym (k refl)
    put_back false false k = refl

-- Taking what was given back restores the pool.
pub takes_back : (p : FreeSpace) (c : Chunk) → IsUsedChunk p c → without (with_chunk p c) c ≡ p
takes_back p c h =
    same_numbers (without (with_chunk p c) c) p refl refl (λ n.
    contains-difference nat_cmp_total (union p.free (words p.geometry.top c))
    (words p.geometry.top c) n
    ∙ ap (λ b. b && not (contains (words p.geometry.top c) n))
    (contains-union nat_cmp_total p.free (words p.geometry.top c) n)
    ∙ taken (contains p.free n) (contains (words p.geometry.top c) n)
    (λ e. let at = chunk-word p.geometry.top c n e in
    false_from_ne_true _
    (λ f. h.words at.0 at.2 at.3
    (record {
      within = omega (arith, at.3, h.block.inside);
      is_free = ap (contains p.free) at.1 ∙ f;
    }))))
  where
    taken : (f w : Bool) → (w ≡ true → f ≡ false) → ((f || w) && not w) ≡ f
    taken true true k = sym (k refl)
    taken true false k = refl
    taken false true k = refl
    taken false false k = refl

-- A chunk that was free is used after it is taken.
pub used-without : (p : FreeSpace) (c : Chunk) → IsFreeChunk p c → IsUsedChunk (without p c) c
used-without p c h =
    record {
      block = h.block;
      words = λ word low high free. ((free-without p c c.root word h.block.inside).0 free).1
          (record { same_root = refl; from = low; to = high });
    }

-- A free chunk and a used one share no word.
pub free-apart : (p : FreeSpace) (c d : Chunk) → IsFreeChunk p c → IsUsedChunk p d → ¬ Meets c d
free-apart p c d free used (root, word, in_c, in_d) =
    let is_free = free.words word in_c.from in_c.to in
    used.words word in_d.from in_d.to
    (subst (λ r. IsFreeWord p r word) (sym in_c.same_root ∙ in_d.same_root) is_free)

-- A free chunk that shares no word with one that is taken stays free.
pub free-elsewhere : (p : FreeSpace) (c d : Chunk) → IsFreeChunk p c → IsFreeChunk p d
    → ¬ Meets c d → IsFreeChunk (without p c) d
free-elsewhere p c d taken h apart =
    record {
      block = h.block;
      words = λ word low high.
          (free-without p c d.root word taken.block.inside).1 (
            h.words word low high,
            λ covers. apart (
              d.root,
              word,
              covers,
              record { same_root = refl; from = low; to = high },
            ),
          );
    }

pub used-elsewhere : (p : FreeSpace) (c d : Chunk) → IsFreeChunk p c → IsUsedChunk p d
    → IsUsedChunk (without p c) d
used-elsewhere p c d taken h =
    record {
      block = h.block;
      words = λ word low high free.
          h.words word low high ((free-without p c d.root word taken.block.inside).0 free).0;
    }

-- A new root has free chunks of each order.
pub root-has_free : (p : FreeSpace) (order : ℕ) → order ≤ p.geometry.top
    → HasFree (with_root p) order
root-has_free p order le =
    let c : Chunk = record { root = p.roots; order = order; at = 0 } in
    let size : 2 ^ order ≤ 2 ^ p.geometry.top = pow-le-pow_right {n = 2} (omega arith) le in (
      c,
      refl,
      record {
        block = record {
          within_top = le;
          in_a_root = omega arith;
          aligned = zero-mod (chunk_size order);
          inside = omega arith;
        };
        words = λ word low high. (free-with_root p p.roots word).1 (inr (refl, omega arith));
      },
    )

-- If a chunk is free, there are free ones of each smaller order.
pub has_free-smaller : (p : FreeSpace) (small large : ℕ) → small ≤ large → HasFree p large
    → HasFree p small
has_free-smaller p small large le (c, of_order, free) =
    let d : Chunk = record { root = c.root; order = small; at = c.at } in
    let step = 2 ^ (c.order - small) in
    let order : c.order ≡ (c.order - small) + small = omega arith in
    let size : 2 ^ c.order ≡ step * 2 ^ small = ap
    (λ k. 2 ^ k) order ∙ pow-add 2 (c.order - small) small in
    let parts : chunk_size c.order * (c.at / chunk_size c.order) + c.at % chunk_size c.order
    ≡ c.at = div-add-mod c.at (chunk_size c.order) in
    let whole : c.at ≡ (c.at / chunk_size c.order) * step * chunk_size small =
    omega (arith, parts, free.block.aligned, ap (λ s. 128 * s * (c.at / chunk_size c.order)) size)
    in
    let below : small ≤ c.order = omega (arith, of_order) in
    let shorter : 2 ^ small ≤ 2 ^ c.order = pow-le-pow_right {n = 2} (omega arith) below in (
      d,
      refl,
      record {
        block = record {
          within_top = omega (arith, free.block.within_top);
          in_a_root = free.block.in_a_root;
          aligned = ap
              (λ n. n % chunk_size small) whole
              ∙ mul-mod_left ((c.at / chunk_size c.order) * step) (chunk_size small);
          inside = omega (arith, free.block.inside, shorter);
        };
        words = λ word low high. free.words word low (omega (arith, high, shorter));
      },
    )
