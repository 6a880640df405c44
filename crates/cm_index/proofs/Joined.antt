-- Lists in blocks: what a change of one block means for all entries.
-- For `Index::with_room`, `IndexBlock::fill`, `block_of` and others.
use Rattle.std.proofs.Common.{◌≡◌, ℕ, zero, suc, ◌+◌, ◌*◌, ◌-◌, ◌<◌, ◌≤◌, List, [], ◌∷◌, ◌++◌}
use Rattle.std.proofs.Common.{length, take, drop, get_or, set, refl, sym, ◌∙◌, ap, subst, arith}
use Rattle.std.proofs.Common.{add-one, length-append, length-take, length-drop, length-set}
use Rattle.std.proofs.Common.{append_assoc}
use Rattle.std.specs.List.{AllByRecursion, insert, remove}
use Rattle.std.proofs.lemmas.List.{take-append-drop, take_at, drop_at, set-append_left}
use Rattle.std.proofs.lemmas.List.{set-append_right, append-nil, take_rest, nil_from_length}
use Rattle.std.proofs.lemmas.List.{drop_all}
use Rattle.std.proofs.lemmas.List.Edits.{insert-append_left, insert-append_right}
use Rattle.std.proofs.lemmas.List.Concat.{flat_map-append, get_or-flat_map}
use Rattle.cm_index.specs.Blocks.{joined, halved}

-- what is appended to a list and rotated to its front
pub turned : {X : Type 0} (xs ys : List X) (kept n : ℕ) → n ≡ length xs
    → take kept ys ++ (drop n (xs ++ take (length ys - kept) (drop kept ys))
    ++ take n (xs ++ take (length ys - kept) (drop kept ys))) ≡ ys ++ xs
turned xs ys kept n is =
    rw (
      take_rest ys kept,
      drop_at xs (drop kept ys) n (sym is),
      take_at xs (drop kept ys) n (sym is),
      ← append_assoc (take kept ys) (drop kept ys) xs,
      take-append-drop kept ys,
    ) refl

module _ {X : Type 0} where
  pub joined-append : (cs bs : List (List X)) → joined (cs ++ bs) ≡ joined cs ++ joined bs
  joined-append cs bs = flat_map-append (λ b. b) cs bs

  -- the blocks before one, and from it on
  pub joined-parts : (bs : List (List X)) (i : ℕ)
      → joined bs ≡ joined (take i bs) ++ joined (drop i bs)
  joined-parts bs i =
      ap joined (sym (take-append-drop i bs)) ∙ joined-append (take i bs) (drop i bs)

  pub take-joined : (bs : List (List X)) (i : ℕ)
      → take (length (joined (take i bs))) (joined bs) ≡ joined (take i bs)
  take-joined bs i =
      ap (take (length (joined (take i bs)))) (joined-parts bs i)
      ∙ take_at (joined (take i bs)) (joined (drop i bs)) (length (joined (take i bs))) refl

  pub drop-joined : (bs : List (List X)) (i : ℕ)
      → drop (length (joined (take i bs))) (joined bs) ≡ joined (drop i bs)
  drop-joined bs i =
      ap (drop (length (joined (take i bs)))) (joined-parts bs i)
      ∙ drop_at (joined (take i bs)) (joined (drop i bs)) (length (joined (take i bs))) refl

  -- one block, with those before it and those after it
  pub joined-around : (bs : List (List X)) (i : ℕ) → i < length bs
      → joined bs ≡ joined (take i bs) ++ (get_or bs i [] ++ joined (drop (suc i) bs))
  joined-around [] i lt = absurd (omega arith)
  joined-around (b ∷ bs) zero lt = refl
  joined-around (b ∷ bs) (suc i) lt =
      ap (λ l. b ++ l) (joined-around bs i (omega arith))
      ∙ sym (append_assoc b (joined (take i bs)) (get_or bs i [] ++ joined (drop (suc i) bs)))

  -- a block that isn't empty begins among all entries
  pub first-within : (bs : List (List X)) (i : ℕ) → i < length bs → 0 < length (get_or bs i [])
      → length (joined (take i bs)) < length (joined bs)
  first-within bs i lt some =
      omega (
        arith,
        ap length (joined-around bs i lt),
        length-append (joined (take i bs)) (get_or bs i [] ++ joined (drop (suc i) bs)),
        length-append (get_or bs i []) (joined (drop (suc i) bs)),
      )

  -- the entry at a place of one block
  pub get-joined : (bs : List (List X)) (i j : ℕ) (d : X) → i < length bs
      → j < length (get_or bs i [])
      → get_or (joined bs) (length (joined (take i bs)) + j) d ≡ get_or (get_or bs i []) j d
  get-joined bs i j d lt within = get_or-flat_map (λ b. b) bs i j [] d lt within

  -- a block replaced by a changed one
  pub set-joined : (bs : List (List X)) (i j : ℕ) (x : X) → i < length bs
      → j < length (get_or bs i [])
      → joined (set bs i (set (get_or bs i []) j x))
      ≡ set (joined bs) (length (joined (take i bs)) + j) x
  set-joined [] i j x lt within = absurd (omega arith)
  set-joined (b ∷ bs) zero j x lt within =
      sym (set-append_left b (joined bs) j x within)
      ∙ ap (λ (n : ℕ). set (b ++ joined bs) n x) (omega arith)
  set-joined (b ∷ bs) (suc i) j x lt within =
      let n : ℕ = length (joined (take i bs)) + j in
      let m : ℕ = length (b ++ joined (take i bs)) + j in
      let far : m - length b ≡ n = omega (arith, length-append b (joined (take i bs))) in
      let behind : length b ≤ m = omega (arith, length-append b (joined (take i bs))) in
      ap (λ l. b ++ l) (set-joined bs i j x (omega arith) within
      ∙ ap (λ (k : ℕ). set (joined bs) k x) (sym far))
      ∙ sym (set-append_right b (joined bs) (length b) m x refl behind)

  pub insert-joined : (bs : List (List X)) (i j : ℕ) (x : X) → i < length bs
      → j ≤ length (get_or bs i [])
      → joined (set bs i (insert (get_or bs i []) j x))
      ≡ insert (joined bs) (length (joined (take i bs)) + j) x
  insert-joined [] i j x lt within = absurd (omega arith)
  insert-joined (b ∷ bs) zero j x lt within =
      sym (insert-append_left b (joined bs) j x within)
      ∙ ap (λ (n : ℕ). insert (b ++ joined bs) n x) (omega arith)
  insert-joined (b ∷ bs) (suc i) j x lt within =
      let n : ℕ = length (joined (take i bs)) + j in
      let m : ℕ = length (b ++ joined (take i bs)) + j in
      let far : m - length b ≡ n = omega (arith, length-append b (joined (take i bs))) in
      let behind : length b ≤ m = omega (arith, length-append b (joined (take i bs))) in
      ap (λ l. b ++ l) (insert-joined bs i j x (omega arith) within
      ∙ ap (λ (k : ℕ). insert (joined bs) k x) (sym far))
      ∙ sym (insert-append_right b (joined bs) (length b) m x refl behind)

  -- ---- a block in two

  abbrev pub split_in : List (List X) → ℕ → List X → List X → List (List X)
  split_in bs i lower upper = insert (set bs i lower) (suc i) upper

  pub joined-split : (bs : List (List X)) (i : ℕ) (lower upper : List X) → i < length bs
      → lower ++ upper ≡ get_or bs i [] → joined (split_in bs i lower upper) ≡ joined bs
  joined-split [] i lower upper lt is = absurd (omega arith)
  joined-split (b ∷ bs) zero lower upper lt is =
      sym (append_assoc lower upper (joined bs)) ∙ ap (λ l. l ++ joined bs) is
  joined-split (b ∷ bs) (suc i) lower upper lt is =
      ap (λ l. b ++ l) (joined-split bs i lower upper (omega arith) is)

  -- what is before the lower half, and before the upper
  pub before-lower : (bs : List (List X)) (i : ℕ) (lower upper : List X) → i < length bs
      → take i (split_in bs i lower upper) ≡ take i bs
  before-lower [] i lower upper lt = absurd (omega arith)
  before-lower (b ∷ bs) zero lower upper lt = refl
  before-lower (b ∷ bs) (suc i) lower upper lt =
      ap (λ l. b ∷ l) (before-lower bs i lower upper (omega arith))

  pub before-upper : (bs : List (List X)) (i : ℕ) (lower upper : List X) → i < length bs
      → length (joined (take (suc i) (split_in bs i lower upper)))
      ≡ length (joined (take i bs)) + length lower
  before-upper [] i lower upper lt = absurd (omega arith)
  before-upper (b ∷ bs) zero lower upper lt = ap length (append-nil lower) ∙ omega arith
  before-upper (b ∷ bs) (suc i) lower upper lt =
      let behind = before-upper bs i lower upper (omega arith) in
      omega (
        arith,
        behind,
        length-append b (joined (take (suc i) (split_in bs i lower upper))),
        length-append b (joined (take i bs)),
      )

  pub get-lower : (bs : List (List X)) (i : ℕ) (lower upper d : List X) → i < length bs
      → get_or (split_in bs i lower upper) i d ≡ lower
  get-lower [] i lower upper d lt = absurd (omega arith)
  get-lower (b ∷ bs) zero lower upper d lt = refl
  get-lower (b ∷ bs) (suc i) lower upper d lt = get-lower bs i lower upper d (omega arith)

  pub get-upper : (bs : List (List X)) (i : ℕ) (lower upper d : List X) → i < length bs
      → get_or (split_in bs i lower upper) (suc i) d ≡ upper
  get-upper [] i lower upper d lt = absurd (omega arith)
  get-upper (b ∷ bs) zero lower upper d lt = refl
  get-upper (b ∷ bs) (suc i) lower upper d lt = get-upper bs i lower upper d (omega arith)

  pub length-split : (bs : List (List X)) (i : ℕ) (lower upper : List X) → i < length bs
      → length (split_in bs i lower upper) ≡ length bs + 1
  length-split [] i lower upper lt = absurd (omega arith)
  length-split (b ∷ bs) zero lower upper lt = omega arith
  length-split (b ∷ bs) (suc i) lower upper lt =
      omega (arith, length-split bs i lower upper (omega arith))

  halved-is : (bs : List (List X)) (i : ℕ)
      → halved bs i ≡ split_in bs i (take 512 (get_or bs i [])) (drop 512 (get_or bs i []))
  halved-is bs i =
      ap (λ (n : ℕ). insert (set bs i (take 512 (get_or bs i []))) n (drop 512 (get_or bs i [])))
      (add-one i)

  pub joined-halved : (bs : List (List X)) (i : ℕ) → i < length bs
      → joined (halved bs i) ≡ joined bs
  joined-halved bs i lt =
      ap joined (halved-is bs i)
      ∙ joined-split bs i (take 512 (get_or bs i [])) (drop 512 (get_or bs i [])) lt
      (take-append-drop 512 (get_or bs i []))

  pub lower-halved : (bs : List (List X)) (i : ℕ) → i < length bs
      → get_or (halved bs i) i [] ≡ take 512 (get_or bs i [])
  lower-halved bs i lt =
      ap (λ l. get_or l i []) (halved-is bs i)
      ∙ get-lower bs i (take 512 (get_or bs i [])) (drop 512 (get_or bs i [])) [] lt

  pub upper-halved : (bs : List (List X)) (i : ℕ) → i < length bs
      → get_or (halved bs i) (i + 1) [] ≡ drop 512 (get_or bs i [])
  upper-halved bs i lt =
      ap (λ l. get_or l (i + 1) []) (halved-is bs i)
      ∙ ap (λ (n : ℕ). get_or (split_in bs i (take 512 (get_or bs i []))
      (drop 512 (get_or bs i []))) n []) (add-one i)
      ∙ get-upper bs i (take 512 (get_or bs i [])) (drop 512 (get_or bs i [])) [] lt

  pub before-halved : (bs : List (List X)) (i : ℕ) → i < length bs
      → length (joined (take (i + 1) (halved bs i)))
      ≡ length (joined (take i bs)) + length (take 512 (get_or bs i []))
  before-halved bs i lt =
      ap (λ l. length (joined (take (i + 1) l))) (halved-is bs i)
      ∙ ap (λ (n : ℕ). length (joined
      (take n (split_in bs i (take 512 (get_or bs i [])) (drop 512 (get_or bs i []))))))
      (add-one i)
      ∙ before-upper bs i (take 512 (get_or bs i [])) (drop 512 (get_or bs i [])) lt

  pub length-halved : (bs : List (List X)) (i : ℕ) → i < length bs
      → length (halved bs i) ≡ length bs + 1
  length-halved bs i lt = ap length (halved-is bs i)
      ∙ length-split bs i (take 512 (get_or bs i [])) (drop 512 (get_or bs i [])) lt

  -- ---- what holds for each block

  module _ (Q : List X → Type 0) where
    pub all-set : (bs : List (List X)) (i : ℕ) (b : List X) → AllByRecursion Q bs → Q b
        → AllByRecursion Q (set bs i b)
    all-set [] i b h q = tt
    all-set (a ∷ bs) zero b h q = (q, h.1)
    all-set (a ∷ bs) (suc i) b h q = (h.0, all-set bs i b h.1 q)

    pub all-insert : (bs : List (List X)) (i : ℕ) (b : List X) → AllByRecursion Q bs → Q b
        → AllByRecursion Q (insert bs i b)
    all-insert bs zero b h q = (q, h)
    all-insert [] (suc i) b h q = (q, tt)
    all-insert (a ∷ bs) (suc i) b h q = (h.0, all-insert bs i b h.1 q)

    pub each-at : (bs : List (List X)) (i : ℕ) (d : List X) → AllByRecursion Q bs → i < length bs
        → Q (get_or bs i d)
    each-at [] i d h lt = absurd (omega arith)
    each-at (b ∷ bs) zero d h lt = h.0
    each-at (b ∷ bs) (suc i) d h lt = each-at bs i d h.1 (omega arith)

    -- for each block but the first
    pub later-set : (bs : List (List X)) (i : ℕ) (b : List X) → AllByRecursion Q (drop 1 bs) → Q b
        → AllByRecursion Q (drop 1 (set bs i b))
    later-set [] i b h q = tt
    later-set (a ∷ bs) zero b h q = h
    later-set (a ∷ bs) (suc i) b h q = all-set bs i b h q

    pub later-insert : (bs : List (List X)) (i : ℕ) (b : List X)
        → AllByRecursion Q (drop 1 bs) → Q b
        → 0 < length bs → AllByRecursion Q (drop 1 (insert bs (suc i) b))
    later-insert [] i b h q some = absurd (omega arith)
    later-insert (a ∷ bs) i b h q some = all-insert bs i b h q

    pub later-at : (bs : List (List X)) (i : ℕ) (d : List X) → AllByRecursion Q (drop 1 bs) → 0 < i
        → i < length bs → Q (get_or bs i d)
    later-at [] i d h some lt = absurd (omega arith)
    later-at (a ∷ bs) zero d h some lt = absurd (omega arith)
    later-at (a ∷ bs) (suc i) d h some lt = each-at bs i d h (omega arith)

  -- ---- how many blocks there are

  abbrev pub IsHalf : List X → Type 0
  IsHalf b = 512 ≤ length b

  halves : (bs : List (List X)) → AllByRecursion IsHalf bs → 512 * length bs ≤ length (joined bs)
  halves [] h = omega arith
  halves (b ∷ bs) h = omega (arith, h.0, halves bs h.1, length-append b (joined bs))

  halves-full : (bs : List (List X)) (i : ℕ) → AllByRecursion IsHalf bs → i < length bs
      → 1024 ≤ length (get_or bs i []) → 512 * (length bs + 1) ≤ length (joined bs)
  halves-full [] i h lt full = absurd (omega arith)
  halves-full (b ∷ bs) zero h lt full = omega (arith, halves bs h.1, length-append b (joined bs))
  halves-full (b ∷ bs) (suc i) h lt full =
      omega (arith, h.0, halves-full bs i h.1 (omega arith) full, length-append b (joined bs))

  -- if a block is full, the blocks together are at least half full
  pub crowded : (bs : List (List X)) (i : ℕ) → AllByRecursion IsHalf (drop 1 bs) → i < length bs
      → 1024 ≤ length (get_or bs i []) → 512 * length bs ≤ length (joined bs)
  crowded [] i h lt full = omega arith
  crowded (b ∷ bs) zero h lt full = omega (arith, halves bs h, length-append b (joined bs))
  crowded (b ∷ bs) (suc i) h lt full =
      omega (arith, halves-full bs i h (omega arith) full, length-append b (joined bs))

  -- an entry replaced by another
  half-kept : (bs : List (List X)) (i j : ℕ) (x : X) → AllByRecursion IsHalf bs
      → AllByRecursion IsHalf (set bs i (set (get_or bs i []) j x))
  half-kept [] i j x h = tt
  half-kept (b ∷ bs) zero j x h = (omega (arith, length-set b j x, h.0), h.1)
  half-kept (b ∷ bs) (suc i) j x h = (h.0, half-kept bs i j x h.1)

  pub later-kept : (bs : List (List X)) (i j : ℕ) (x : X) → AllByRecursion IsHalf (drop 1 bs)
      → AllByRecursion IsHalf (drop 1 (set bs i (set (get_or bs i []) j x)))
  later-kept [] i j x h = tt
  later-kept (b ∷ bs) zero j x h = h
  later-kept (b ∷ bs) (suc i) j x h = half-kept bs i j x h

  -- a block that is halved leaves two that are half full
  pub halved-half : (bs : List (List X)) (i : ℕ) → i < length bs → length (get_or bs i []) ≡ 1024
      → AllByRecursion IsHalf (drop 1 bs) → AllByRecursion IsHalf (drop 1 (halved bs i))
  halved-half bs i lt full h =
      let b = get_or bs i [] in
      let lower : IsHalf (take 512 b) = omega (arith, length-take 512 b) in
      let upper : IsHalf (drop 512 b) = omega (arith, length-drop 512 b) in
      subst (λ l. AllByRecursion IsHalf (drop 1 l)) (sym (halved-is bs i))
      (later-insert IsHalf (set bs i (take 512 b)) i (drop 512 b)
      (later-set IsHalf bs i (take 512 b) h lower) upper
      (omega (arith, length-set bs i (take 512 b))))

  -- ---- a block that also takes what was in the block before it

  pub next-block : (bs : List (List X)) (i : ℕ) (d : List X) → suc i < length bs
      → get_or (remove bs i) i d ≡ get_or bs (suc i) d
  next-block [] i d lt = absurd (omega arith)
  next-block (b ∷ bs) zero d lt = refl
  next-block (b ∷ bs) (suc i) d lt = next-block bs i d (omega arith)

  pub length-filled : (bs : List (List X)) (i : ℕ) (before block : List X) → suc i < length bs
      → length (insert (set (remove bs i) i block) i before) ≡ length bs
  length-filled [] i before block lt = absurd (omega arith)
  length-filled (a ∷ []) i before block lt = absurd (omega arith)
  length-filled (a ∷ b ∷ bs) zero before block lt = refl
  length-filled (a ∷ b ∷ bs) (suc i) before block lt =
      ap suc (length-filled (b ∷ bs) i before block (omega arith))

  pub joined-filled : (bs : List (List X)) (i : ℕ) (before block : List X) → suc i < length bs
      → before ++ block ≡ get_or bs i [] ++ get_or bs (suc i) []
      → joined (insert (set (remove bs i) i block) i before) ≡ joined bs
  joined-filled [] i before block lt is = absurd (omega arith)
  joined-filled (a ∷ []) i before block lt is = absurd (omega arith)
  joined-filled (a ∷ b ∷ bs) zero before block lt is =
      sym (append_assoc before block (joined bs)) ∙ ap (λ l. l ++ joined bs) is
      ∙ append_assoc a b (joined bs)
  joined-filled (a ∷ b ∷ bs) (suc i) before block lt is =
      ap (λ l. a ++ l) (joined-filled (b ∷ bs) i before block (omega arith) is)

  pub joined-merged : (bs : List (List X)) (i : ℕ) (block : List X) → suc i < length bs
      → block ≡ get_or bs i [] ++ get_or bs (suc i) [] → joined (set (remove bs i) i block)
      ≡ joined bs
  joined-merged [] i block lt is = absurd (omega arith)
  joined-merged (a ∷ []) i block lt is = absurd (omega arith)
  joined-merged (a ∷ b ∷ bs) zero block lt is =
      ap (λ l. l ++ joined bs) is ∙ append_assoc a b (joined bs)
  joined-merged (a ∷ b ∷ bs) (suc i) block lt is =
      ap (λ l. a ++ l) (joined-merged (b ∷ bs) i block (omega arith) is)

  pub behind-filled : (bs : List (List X)) (i : ℕ) (before block : List X) → suc i < length bs
      → drop (suc i) (insert (set (remove bs i) i block) i before) ≡ block ∷ drop (suc (suc i)) bs
  behind-filled [] i before block lt = absurd (omega arith)
  behind-filled (a ∷ []) i before block lt = absurd (omega arith)
  behind-filled (a ∷ b ∷ bs) zero before block lt = refl
  behind-filled (a ∷ b ∷ bs) (suc i) before block lt =
      behind-filled (b ∷ bs) i before block (omega arith)

  pub behind-merged : (bs : List (List X)) (i : ℕ) (block : List X) → suc i < length bs
      → drop (suc i) (set (remove bs i) i block) ≡ drop (suc (suc i)) bs
  behind-merged [] i block lt = absurd (omega arith)
  behind-merged (a ∷ []) i block lt = absurd (omega arith)
  behind-merged (a ∷ b ∷ bs) zero block lt = refl
  behind-merged (a ∷ b ∷ bs) (suc i) block lt = behind-merged (b ∷ bs) i block (omega arith)

  -- ---- blocks with no entries

  pub joined-empty : (bs : List (List X)) → AllByRecursion (λ b. length b ≡ 0) bs → joined bs ≡ []
  joined-empty [] h = refl
  joined-empty (b ∷ bs) h =
      ap (λ l. l ++ joined bs) (nil_from_length b h.0) ∙ joined-empty bs h.1

  pub all-push : (Q : List X → Type 0) (bs : List (List X)) (b : List X) → AllByRecursion Q bs → Q b
      → AllByRecursion Q (bs ++ b ∷ [])
  all-push Q [] b h q = (q, tt)
  all-push Q (a ∷ bs) b h q = (h.0, all-push Q bs b h.1 q)

  pub all-take : (Q : List X → Type 0) (n : ℕ) (bs : List (List X)) → AllByRecursion Q bs
      → AllByRecursion Q (take n bs)
  all-take Q zero bs h = tt
  all-take Q (suc n) [] h = tt
  all-take Q (suc n) (b ∷ bs) h = (h.0, all-take Q n bs h.1)

  pub all-behind-none : (Q : List X → Type 0) (n : ℕ) (bs : List (List X)) → length bs ≤ n
      → AllByRecursion Q (drop n bs)
  all-behind-none Q n bs h = subst (AllByRecursion Q) (sym (drop_all n bs h)) tt
