-- Places that begin with values.
-- For `Cells::write_all`, `WordBuf::as_slice`, `WordBuf::drop` and others.
use Rattle.std.proofs.Common.{◌≡◌, ℕ, zero, suc, ◌+◌, ◌-◌, ◌<◌, ◌≤◌, List, [], ◌∷◌, ◌++◌, map}
use Rattle.std.proofs.Common.{length, take, drop, set, get_or, replicate, Option, Some, None, refl}
use Rattle.std.proofs.Common.{sym, ap, ◌∙◌, arith, length-append, append_assoc, append-nil, take_at}
use lib.Seq.{drop-cons}
use Rattle.std.proofs.lemmas.List.{length-map, length-replicate, length-take, map-append, set_at}
use Rattle.std.proofs.lemmas.List.{take_more, drop-replicate, drop_at, drop-drop}
use Rattle.cm_words.specs.Places.{somes, filled}

module _ {X : Type 0} where
  somes_none : (n : ℕ) → somes {X = X} (replicate n None) ≡ []
  somes_none zero = refl
  somes_none (suc n) = somes_none n

  somes_before : (xs : List X) (cs : List (Option X)) → somes (map Some xs ++ cs) ≡ xs ++ somes cs
  somes_before [] cs = refl
  somes_before (x ∷ xs) cs = ap (λ l. x ∷ l) (somes_before xs cs)

  somes-map : (xs : List X) → somes (map Some xs) ≡ xs
  somes-map [] = refl
  somes-map (x ∷ xs) = ap (λ l. x ∷ l) (somes-map xs)

  pub same_values : (xs ys : List X) → map Some xs ≡ map Some ys → xs ≡ ys
  same_values xs ys e = sym (somes-map xs) ∙ ap somes e ∙ somes-map ys

  pub somes-filled : (xs : List X) (n : ℕ) → somes (filled xs n) ≡ xs
  unfolding filled
  somes-filled xs n = somes_before xs (replicate (n - length xs) None) ∙ ap
      (λ l. xs ++ l) (somes_none (n - length xs)) ∙ append-nil xs

  pub length-filled : (xs : List X) (n : ℕ) → length xs ≤ n → length (filled xs n) ≡ n
  unfolding filled
  length-filled xs n le = let none : Option X = None in
      omega (
        arith,
        length-append (map Some xs) (replicate (n - length xs) none),
        length-map xs Some,
        length-replicate (n - length xs) none,
      )

  pub filled-empty : (n : ℕ) → filled {X = X} [] n ≡ replicate n None
  unfolding filled
  filled-empty n = let all : n - 0 ≡ n = omega arith in ap
      (λ (k : ℕ). replicate {A = Option X} k None) all

  -- the first places hold the values
  pub take-filled : (xs : List X) (n : ℕ) → take (length xs) (filled xs n) ≡ map Some xs
  unfolding filled
  take-filled xs n =
      take_at (map Some xs) (replicate (n - length xs) None) (length xs) (length-map xs Some)

  filled-more : (x : X) (xs : List X) (n : ℕ) → filled (x ∷ xs) (suc n) ≡ Some x ∷ filled xs n
  unfolding filled
  filled-more x xs n = let left : suc n - suc (length xs) ≡ n - length xs = omega arith in ap
      (λ (k : ℕ). Some x ∷ (map Some xs ++ replicate k None)) left

  -- one more value in the first empty place
  pub set-filled_next : (xs : List X) (n : ℕ) (x : X) → length xs < n
      → set (filled xs n) (length xs) (Some x) ≡ filled (xs ++ x ∷ []) n
  set-filled_next [] zero x h = absurd (omega arith)
  set-filled_next [] (suc n) x h = ap (λ l. set l 0 (Some x)) (filled-empty (suc n)) ∙ (ap
      (λ l. Some x ∷ l) (sym (filled-empty n)) ∙ sym (filled-more x [] n))
  set-filled_next (y ∷ xs) zero x h = absurd (omega arith)
  set-filled_next (y ∷ xs) (suc n) x h =
      ap (λ l. set l (suc (length xs)) (Some x)) (filled-more y xs n) ∙ (ap
      (λ l. Some y ∷ l) (set-filled_next xs n x (omega arith))
      ∙ sym (filled-more y (xs ++ x ∷ []) n))

  -- a value replaced by another
  pub set-filled : (xs : List X) (n i : ℕ) (x : X) → i < length xs → length xs ≤ n
      → set (filled xs n) i (Some x) ≡ filled (set xs i x) n
  set-filled [] n i x h le = absurd (omega arith)
  set-filled (y ∷ xs) zero i x h le = absurd (omega arith)
  set-filled (y ∷ xs) (suc n) zero x h le = ap
      (λ l. set l 0 (Some x)) (filled-more y xs n) ∙ sym (filled-more x xs n)
  set-filled (y ∷ xs) (suc n) (suc i) x h le =
      ap (λ l. set l (suc i) (Some x)) (filled-more y xs n) ∙ (ap
      (λ l. Some y ∷ l) (set-filled xs n i x (omega arith) (omega arith))
      ∙ sym (filled-more y (set xs i x) n))

  -- one more value in the places from `from` on
  pub write_step : (start cs : List (Option X)) (xs : List X) (from i : ℕ) (x : X)
      → cs ≡ take from start ++ map Some (take i xs) ++ drop (from + i) start
      → from + length xs ≤ length start → i < length xs → x ≡ get_or xs i x
      → set cs (from + i) (Some x) ≡ take from start ++ map Some (take (i + 1) xs)
      ++ drop (from + (i + 1)) start
  write_step start cs xs from i x e within lt is =
      let before = take from start ++ map Some (take i xs) in
      let behind = drop (suc (from + i)) start in
      let size : length before ≡ from + i =
      omega (
        arith,
        length-append (take from start) (map Some (take i xs)),
        length-take from start,
        length-map (take i xs) Some,
        length-take i xs,
      ) in
      let rest : drop (from + i) start ≡ get_or start (from + i) None ∷ behind =
      drop-cons start (from + i) None (omega arith) in
      let next : from + (i + 1) ≡ suc (from + i) = omega arith in
      let one : map Some (take (i + 1) xs) ≡ map Some (take i xs) ++ Some x ∷ [] =
      ap (map Some) (take_more xs i x lt ∙ ap (λ y. take i xs ++ y ∷ []) (sym is))
      ∙ map-append Some (take i xs) (x ∷ []) in
      ap (λ l. set l (from + i) (Some x)) (e ∙ ap (λ l. before ++ l) rest)
      ∙ (set_at before (get_or start (from + i) None) behind (Some x) (from + i) size
      ∙ (sym (append_assoc before (Some x ∷ []) behind)
      ∙ ap (λ l. l ++ behind) (append_assoc (take from start) (map Some (take i xs)) (Some x ∷ []))
      ∙ (ap (λ l. take from start ++ l ++ behind) (sym one) ∙ ap
      (λ n. take from start ++ map Some (take (i + 1) xs) ++ drop n start) (sym next))))

  -- values in the first empty places
  pub filled_behind : (xs ys : List X) (n : ℕ) → length xs + length ys ≤ n
      → take (length xs) (filled xs n) ++ map Some ys ++ drop (length xs + length ys) (filled xs n)
      ≡ filled (xs ++ ys) n
  unfolding filled
  filled_behind xs ys n le =
      let left = n - length xs in
      let rest : drop (length xs + length ys) (filled xs n) ≡ replicate (left - length ys) None =
      sym (drop-drop (length ys) (length xs) (filled xs n))
      ∙ (ap (drop (length ys))
      (drop_at (map Some xs) (replicate left None) (length xs) (length-map xs Some))
      ∙ drop-replicate (length ys) left None) in
      let same : left - length ys ≡ n - length (xs ++ ys) = omega (arith, length-append xs ys) in
      (λ i. take-filled xs n i ++ map Some ys ++ rest i)
      ∙ (λ i. sym (map-append Some xs ys) i ++ replicate (same i) None)
