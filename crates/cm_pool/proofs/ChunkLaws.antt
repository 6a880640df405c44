-- The laws of chunks.
-- On `top`, `roots`, `IsBlock`.
use Rattle.std.proofs.Common.{◌≡◌, ℕ, ◌+◌, ◌-◌, ◌*◌, ◌/◌, ◌%◌, ◌^◌, ◌<◌, ◌≤◌, true, false, cond}
use Rattle.std.proofs.Common.{List, [], ◌∷◌, refl, sym, ap, ◌∙◌, subst, inl, inr, ◌⊎◌, arith}
use Rattle.std.specs.List.{AllByRecursion}
use Rattle.std.proofs.lemmas.Bool.{both_ways, cases_lt, cases_eq, eq-eqb, ne_eqb}
use Rattle.std.proofs.Math.Nat.{two-pow-succ, div-add-mod, div-div-eq-div-mul}
use Rattle.cm_pool.specs.declared.chunk.Chunk.{Chunk}
use Rattle.cm_pool.specs.Chunks.{chunk_size, Covers, Meets, IsBlock}
use Rattle.cm_pool.specs.FreeSpace.{FreeSpace, word_number, LiesBefore}
use Rattle.cm_pool.specs.Lists.{Pairwise, Among}
use Rattle.cm_pool.specs.Laws.{AreLargestFree, IsPartOf, NestedOrApart, chunk_above, buddy}
use Rattle.cm_pool.specs.Laws.{HalvesMakeWhole, GivingBackRestores, IsLargestFree}
use Rattle.cm_pool.specs.Blocks.{is_in, start, Inside}
use Rattle.cm_pool.proofs.Lists.{each-among}
use Rattle.cm_pool.proofs.Dyadic.{inside-from_shared, inside-is_in, is_in-start}
use Rattle.cm_pool.proofs.FreeWords.{words-covers, restores}
use Rattle.cm_pool.proofs.Spaces.{words-is_in}
use Rattle.cm_pool.proofs.Pools.{block_of, same-block_of}

-- a chunk covers the words of its block
pub covers-in : (top roots : ℕ) (c : Chunk) (root word : ℕ) → IsBlock top roots c
    → Covers c root word → is_in (block_of top c) (word_number top root word / 128) ≡ true
covers-in top roots c root word block h =
    sym (words-is_in top c (block_of top c) (word_number top root word)
    (same-block_of top roots c block))
    ∙ (words-covers top c root word block.inside (omega (arith, h.to, block.inside))).1 h

in-covers : (top roots : ℕ) (c : Chunk) (root word : ℕ) → IsBlock top roots c
    → word < chunk_size top → is_in (block_of top c) (word_number top root word / 128) ≡ true
    → Covers c root word
in-covers top roots c root word block within h =
    (words-covers top c root word block.inside within).0
    (words-is_in top c (block_of top c) (word_number top root word)
    (same-block_of top roots c block) ∙ h)

pub inside-part : (top roots : ℕ) (a b : Chunk) → IsBlock top roots a → IsBlock top roots b
    → Inside (block_of top a) (block_of top b) → IsPartOf a b
inside-part top roots a b block_a block_b h = λ root word covers.
    in-covers top roots b root word block_b (omega (arith, covers.to, block_a.inside))
    (inside-is_in (block_of top a) (block_of top b) (word_number top root word / 128) h
    (covers-in top roots a root word block_a covers))

-- the smaller one is a part of the other, or shares no word with it
part-or_apart : (top roots : ℕ) (a b : Chunk) → IsBlock top roots a → IsBlock top roots b
    → a.order ≤ b.order → IsPartOf a b ⊎ (¬ Meets a b)
part-or_apart top roots a b block_a block_b le =
    let x = block_of top a in
    let y = block_of top b in
    elim (is_in y (start x)) as (λ v. is_in y (start x) ≡ v → IsPartOf a b ⊎ (¬ Meets a b)) [
      | true ↦ λ e. inl (inside-part top roots a b block_a block_b
          (inside-from_shared x y (start x) le (is_in-start x) e))
      | false ↦ λ e. inr (λ meets.
          let g = word_number top meets.0 meets.1 / 128 in
          let nested =
          inside-from_shared x y g le (covers-in top roots a meets.0 meets.1 block_a meets.2)
          (covers-in top roots b meets.0 meets.1 block_b meets.3) in
          both_ways _ e (inside-is_in x y (start x) nested (is_in-start x)))
    ] refl

turned : (a b : Chunk) → ¬ Meets a b → ¬ Meets b a
turned a b h meets = h (meets.0, meets.1, meets.3, meets.2)

pub nested_or_apart : NestedOrApart
nested_or_apart top roots a b block_a block_b =
    elim (cases_lt a.order b.order) [
      | inl lt ↦ elim (part-or_apart top roots a b block_a block_b (omega arith))
          [ inl part ↦ inl part | inr apart ↦ inr (inr apart) ]
      | inr le ↦ elim (part-or_apart top roots b a block_b block_a le) [
        | inl part ↦ inr (inl part)
        | inr apart ↦ inr (inr (turned b a apart))
      ]
    ]

pub giving_back_restores : GivingBackRestores
giving_back_restores p c h = restores p c h

-- for two sorted lists with the same elements: each begins with the first element of the other
before-irreflexive : (c : Chunk) → ¬ LiesBefore c c
before-irreflexive c (inl h) = absurd (omega arith)
before-irreflexive c (inr (e, h)) = absurd (omega arith)

before-asymmetric : (c d : Chunk) → LiesBefore c d → ¬ LiesBefore d c
before-asymmetric c d (inl h) (inl k) = absurd (omega arith)
before-asymmetric c d (inl h) (inr (e, k)) = absurd (omega arith)
before-asymmetric c d (inr (e, h)) (inl k) = absurd (omega arith)
before-asymmetric c d (inr (e, h)) (inr (f, k)) = absurd (omega arith)

heads : (c d : Chunk) (cs ds : List Chunk) → AllByRecursion (LiesBefore c) cs
    → AllByRecursion (LiesBefore d) ds → Among c (d ∷ ds) → Among d (c ∷ cs) → c ≡ d
heads c d cs ds p q (inl e) n = e
heads c d cs ds p q (inr m) (inl f) = sym f
heads c d cs ds p q (inr m) (inr n) =
    absurd (before-asymmetric c d (each-among (LiesBefore c) cs d p n)
    (each-among (LiesBefore d) ds c q m))

tail-among : (x c d : Chunk) (cs ds : List Chunk) → c ≡ d → AllByRecursion (LiesBefore c) cs
    → Among x cs → Among x (d ∷ ds) → Among x ds
tail-among x c d cs ds e p m (inr n) = n
tail-among x c d cs ds e p m (inl f) =
    absurd (before-irreflexive c
    (subst (LiesBefore c) (f ∙ sym e) (each-among (LiesBefore c) cs x p m)))

same-members : (cs ds : List Chunk) → Pairwise LiesBefore cs → Pairwise LiesBefore ds
    → ((x : Chunk) → Among x cs → Among x ds) → ((x : Chunk) → Among x ds → Among x cs) → cs ≡ ds
same-members [] [] p q f g = refl
same-members [] (d ∷ ds) p q f g = absurd (g d (inl refl))
same-members (c ∷ cs) [] p q f g = absurd (f c (inl refl))
same-members (c ∷ cs) (d ∷ ds) p q f g =
    let e : c ≡ d = heads c d cs ds p.0 q.0 (f c (inl refl)) (g d (inl refl)) in
    let rest : cs ≡ ds =
    same-members cs ds p.1 q.1
    (λ x m. tail-among x c d cs ds e p.0 m (f x (inr m)))
    (λ x m. tail-among x d c ds cs (sym e) q.0 m (g x (inr m)))
    in
    λ i. e i ∷ rest i

-- two lists of the largest free chunks are the same
pub same_list : (p : FreeSpace) (cs ds : List Chunk) → AreLargestFree p cs → AreLargestFree p ds
    → cs ≡ ds
same_list p cs ds h k =
    same-members cs ds h.ordered k.ordered
    (λ x m. k.every x (each-among (IsLargestFree p) cs x h.each m))
    (λ x m. h.every x (each-among (IsLargestFree p) ds x k.each m))

-- where the chunk above and the other half are
above-at : (c : Chunk)
    → (chunk_above c).at ≡ (c.at / chunk_size c.order / 2) * (2 * chunk_size c.order)
above-at c =
    let size = chunk_size c.order in
    let order : size * 2 ≡ 2 * size = omega arith in
    ap (λ n. n * (2 * size)) (ap (λ d. c.at / d) (sym order) ∙ sym (div-div-eq-div-mul c.at size 2))

-- the lower half is c, or it is c's buddy
pub record LieSo (c : Chunk) (above other : ℕ) : Type 0 where
  pub lies : ((above ≡ c.at) × (other ≡ c.at + chunk_size c.order)) ⊎ ((above ≡ other)
      × (c.at ≡ other + chunk_size c.order))

halves-lie : (c : Chunk) → c.at % chunk_size c.order ≡ 0 → LieSo c (chunk_above c).at (buddy c).at
halves-lie c aligned =
    let size = chunk_size c.order in
    let q = c.at / size in
    let at : size * q + c.at % size ≡ c.at = div-add-mod c.at size in
    elim (cases_eq (q % 2) 0) [
      | inl even ↦
          let half : 2 * (q / 2) ≡ q = omega arith in
          record {
            lies = inl (
              above-at c ∙ omega (arith, at, aligned, ap (λ n. n * size) half),
              ap
                  (λ b. cond b (c.at + size) (c.at - size)) (eq-eqb (q % 2) 0 even),
            );
          }
      | inr odd ↦
          let half : 2 * (q / 2) + 1 ≡ q = omega arith in
          let other : (buddy c).at ≡ c.at - size = ap
          (λ b. cond b (c.at + size) (c.at - size)) (ne_eqb (q % 2) 0 odd) in
          let whole : q * size ≡ (2 * (q / 2) + 1) * size = ap (λ n. n * size) (sym half) in
          record {
            lies =
                inr (
                  above-at c ∙ omega (arith, at, aligned, whole) ∙ sym other,
                  omega (arith, at, aligned, whole, other),
                );
          }
    ]

-- the halves of the chunk above
pub halves_make_whole : HalvesMakeWhole
halves_make_whole top roots c block root word =
    let lie = halves-lie c block.aligned in
    let double : 2 ^ (c.order + 1) ≡ 2 ^ c.order + 2 ^ c.order = ap
    (λ k. 2 ^ k) (omega arith) ∙ two-pow-succ c.order in
    elim lie.lies [
      | inl (above, other) ↦ (
        λ h. elim (cases_lt word (c.at + chunk_size c.order)) [
          | inl lt ↦ inl (record {
            same_root = h.same_root;
            from = omega (arith, h.from, above);
            to = lt;
          })
          | inr le ↦ inr (record {
            same_root = h.same_root;
            from = omega (arith, other);
            to = omega (arith, h.to, above, other, double);
          })
        ],
        λ h. elim h [
          | inl mine ↦ record {
            same_root = mine.same_root;
            from = omega (arith, mine.from, above);
            to = omega (arith, mine.to, above, double);
          }
          | inr its ↦ record {
            same_root = its.same_root;
            from = omega (arith, its.from, above, other);
            to =
                omega (arith, its.to, above, other, double);
          }
        ],
      )
      | inr (above, other) ↦ (
        λ h. elim (cases_lt word c.at) [
          | inl lt ↦ inr (record {
            same_root = h.same_root;
            from = omega (arith, h.from, above);
            to = omega (arith, other);
          })
          | inr le ↦ inl (record {
            same_root = h.same_root;
            from = le;
            to = omega (arith, h.to, above, other, double);
          })
        ],
        λ h. elim h [
          | inl mine ↦ record {
            same_root = mine.same_root;
            from = omega (arith, mine.from, above, other);
            to =
                omega (arith, mine.to, above, other, double);
          }
          | inr its ↦ record {
            same_root = its.same_root;
            from = omega (arith, its.from, above);
            to = omega (arith, its.to, above, other, double);
          }
        ],
      )
    ]
