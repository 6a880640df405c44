-- Laws on lists: what holds for each element, or for each pair, and which elements are in a list.
-- On `Among`, `Pairwise`, for crates above.
use Rattle.std.proofs.Common.{◌≡◌, ℕ, zero, suc, ◌+◌, ◌<◌, ◌≤◌, List, [], ◌∷◌, ◌++◌, length, get_or}
use Rattle.std.proofs.Common.{take, drop, refl, sym, ap, subst, inl, inr, ◌⊎◌, ◌∙◌, arith, Bool}
use Rattle.std.proofs.Common.{true}
use Rattle.std.proofs.Common.{false, cond, map}
use Rattle.std.specs.Prelude.{filter}
use Rattle.std.specs.List.{AllByRecursion}
use Rattle.std.proofs.lemmas.List.{take_more, take_all}
use Rattle.cm_pool.specs.Lists.{Pairwise, Among}

module _ {X : Type 0} where
  pub each-weaker : (P Q : X → Type 0) → ((x : X) → P x → Q x) → (xs : List X)
      → AllByRecursion P xs → AllByRecursion Q xs
  each-weaker P Q f [] a = tt
  each-weaker P Q f (x ∷ xs) a = (f x a.0, each-weaker P Q f xs a.1)

  pub each-among : (P : X → Type 0) (xs : List X) (x : X) → AllByRecursion P xs → Among x xs → P x
  each-among P [] x a m = absurd m
  each-among P (y ∷ ys) x a (inl e) = subst P (sym e) a.0
  each-among P (y ∷ ys) x a (inr m) = each-among P ys x a.1 m

  pub each-join : (P : X → Type 0) (xs ys : List X) → AllByRecursion P xs → AllByRecursion P ys
      → AllByRecursion P (xs ++ ys)
  each-join P [] ys a b = b
  each-join P (x ∷ xs) ys a b = (a.0, each-join P xs ys a.1 b)

  pub each-front : (P : X → Type 0) (xs ys : List X) → AllByRecursion P (xs ++ ys)
      → AllByRecursion P xs
  each-front P [] ys a = tt
  each-front P (x ∷ xs) ys a = (a.0, each-front P xs ys a.1)

  pub each-back : (P : X → Type 0) (xs ys : List X) → AllByRecursion P (xs ++ ys)
      → AllByRecursion P ys
  each-back P [] ys a = a
  each-back P (x ∷ xs) ys a = each-back P xs ys a.1

  pub each-drop : (P : X → Type 0) (n : ℕ) (xs : List X) → AllByRecursion P xs
      → AllByRecursion P (drop n xs)
  each-drop P zero xs a = a
  each-drop P (suc n) [] a = tt
  each-drop P (suc n) (x ∷ xs) a = each-drop P n xs a.1

  pub each-at : (P : X → Type 0) (xs : List X) (k : ℕ) (d : X) → AllByRecursion P xs
      → k < length xs → P (get_or xs k d)
  each-at P [] k d a h = absurd (omega arith)
  each-at P (x ∷ xs) zero d a h = a.0
  each-at P (x ∷ xs) (suc k) d a h = each-at P xs k d a.1 (omega arith)

  pub pairs-front : (R : X → X → Type 0) (xs ys : List X) → Pairwise R (xs ++ ys) → Pairwise R xs
  pairs-front R [] ys p = tt
  pairs-front R (x ∷ xs) ys p = (each-front (R x) xs ys p.0, pairs-front R xs ys p.1)

  pub pairs-back : (R : X → X → Type 0) (xs ys : List X) → Pairwise R (xs ++ ys) → Pairwise R ys
  pairs-back R [] ys p = p
  pairs-back R (x ∷ xs) ys p = pairs-back R xs ys p.1

  pub pairs-insert : (R : X → X → Type 0) (xs : List X) (b : X) (ys : List X)
      → Pairwise R (xs ++ ys) → AllByRecursion (λ x. R x b) xs → AllByRecursion (R b) ys
      → Pairwise R (xs ++ b ∷ ys)
  pairs-insert R [] b ys p f r = (r, p)
  pairs-insert R (x ∷ xs) b ys p f r = (
    each-join (R x) xs (b ∷ ys) (each-front (R x) xs ys p.0) (f.0, each-back (R x) xs ys p.0),
    pairs-insert R xs b ys p.1 f.1 r,
  )

  pub pairs-remove : (R : X → X → Type 0) (xs : List X) (b : X) (ys : List X)
      → Pairwise R (xs ++ b ∷ ys) → Pairwise R (xs ++ ys)
  pairs-remove R [] b ys p = p.1
  pairs-remove R (x ∷ xs) b ys p = (
    each-join (R x) xs ys (each-front (R x) xs (b ∷ ys) p.0) (each-back (R x) xs (b ∷ ys) p.0).1,
    pairs-remove R xs b ys p.1,
  )

  pub pairs-before : (R : X → X → Type 0) (xs : List X) (b : X) (ys : List X)
      → Pairwise R (xs ++ b ∷ ys) → AllByRecursion (λ x. R x b) xs
  pairs-before R [] b ys p = tt
  pairs-before R (x ∷ xs) b ys p = ((each-back (R x) xs (b ∷ ys) p.0).0, pairs-before R xs b ys p.1)

  pub pairs-behind : (R : X → X → Type 0) (xs : List X) (b : X) (ys : List X)
      → Pairwise R (xs ++ b ∷ ys) → AllByRecursion (R b) ys
  pairs-behind R xs b ys p = (pairs-back R xs (b ∷ ys) p).0

  pub pairs-weaker : (R S : X → X → Type 0) → ((x y : X) → R x y → S x y) → (xs : List X)
      → Pairwise R xs → Pairwise S xs
  pairs-weaker R S f [] p = tt
  pairs-weaker R S f (x ∷ xs) p = (each-weaker (R x) (S x) (f x) xs p.0, pairs-weaker R S f xs p.1)

  -- of two elements, one comes first
  pub pairs-among : (R : X → X → Type 0) (xs : List X) (x y : X) → Pairwise R xs → Among x xs
      → Among y xs → (x ≡ y) ⊎ (R x y ⊎ R y x)
  pairs-among R [] x y p m n = absurd m
  pairs-among R (z ∷ zs) x y p (inl e) (inl f) = inl (e ∙ sym f)
  pairs-among R (z ∷ zs) x y p (inl e) (inr n) = inr (inl (subst
      (λ w. R w y) (sym e) (each-among (R z) zs y p.0 n)))
  pairs-among R (z ∷ zs) x y p (inr m) (inl f) = inr (inr (subst
      (λ w. R w x) (sym f) (each-among (R z) zs x p.0 m)))
  pairs-among R (z ∷ zs) x y p (inr m) (inr n) = pairs-among R zs x y p.1 m n

  -- one more element at the front, of which it is known
  pub each-more : (P : X → Type 0) (xs : List X) (i : ℕ) (d : X) → i < length xs
      → AllByRecursion P (take i xs) → P (get_or xs i d) → AllByRecursion P (take (i + 1) xs)
  each-more P xs i d h a p =
      rw (take_more xs i d h) (each-join P (take i xs) (get_or xs i d ∷ []) a (p, tt))

  pub each-all : (P : X → Type 0) (xs : List X) (i : ℕ) → length xs ≤ i
      → AllByRecursion P (take i xs) → AllByRecursion P xs
  each-all P xs i h a = subst (AllByRecursion P) (take_all i xs h) a

  pub among-at : (xs : List X) (k : ℕ) (d : X) → k < length xs → Among (get_or xs k d) xs
  among-at [] k d h = absurd (omega arith)
  among-at (x ∷ xs) zero d h = inl refl
  among-at (x ∷ xs) (suc k) d h = inr (among-at xs k d (omega arith))

-- ---- what is in lists that are joined, mapped and filtered

pub among-left : {X : Type 0} (x : X) (xs ys : List X) → Among x xs → Among x (xs ++ ys)
among-left x [] ys none = absurd none
among-left x (y ∷ xs) ys (inl e) = inl e
among-left x (y ∷ xs) ys (inr m) = inr (among-left x xs ys m)

pub among-right : {X : Type 0} (x : X) (xs ys : List X) → Among x ys → Among x (xs ++ ys)
among-right x [] ys m = m
among-right x (y ∷ xs) ys m = inr (among-right x xs ys m)

pub among-append : {X : Type 0} (x : X) (xs ys : List X) → Among x (xs ++ ys) → Among x xs
    ⊎ Among x ys
among-append x [] ys m = inr m
among-append x (y ∷ xs) ys (inl e) = inl (inl e)
among-append x (y ∷ xs) ys (inr m) =
    elim (among-append x xs ys m) [ inl a ↦ inl (inr a) | inr b ↦ inr b ]

-- what is in a list with one element appended is in the list, or is that one
pub among-push : {X : Type 0} (x y : X) (xs : List X) → Among x (xs ++ y ∷ []) → Among x xs
    ⊎ (x ≡ y)
among-push x y xs m =
    elim (among-append x xs (y ∷ []) m) [
      | inl a ↦ inl a
      | inr b ↦ elim b [ inl e ↦ inr e | inr none ↦ absurd none ]
    ]

pub among-map : {X Y : Type 0} (f : X → Y) (x : X) (xs : List X) → Among x xs
    → Among (f x) (map f xs)
among-map f x [] none = absurd none
among-map f x (y ∷ xs) (inl e) = inl (ap f e)
among-map f x (y ∷ xs) (inr m) = inr (among-map f x xs m)

pub among-map_from : {X Y : Type 0} (f : X → Y) (y : Y) (xs : List X) → Among y (map f xs)
    → (x : X) × Among x xs × (y ≡ f x)
among-map_from f y [] none = absurd none
among-map_from f y (x ∷ xs) (inl e) = (x, inl refl, e)
among-map_from f y (x ∷ xs) (inr m) = let found = among-map_from f y xs m in
    (found.0, inr found.1, found.2)

pub among-filter : {X : Type 0} (p : X → Bool) (x : X) (xs : List X) → Among x xs → p x ≡ true
    → Among x (filter p xs)
among-filter p x [] none h = absurd none
among-filter p x (y ∷ xs) m h = by_test (among-filter p x xs) (p y) refl m
  where
    by_test : (Among x xs → p x ≡ true → Among x (filter p xs)) → (t : Bool) → p y ≡ t
        → Among x (y ∷ xs) → Among x (cond t (y ∷ filter p xs) (filter p xs))
    by_test behind true e (inl is) = inl is
    by_test behind true e (inr m) = inr (behind m h)
    by_test behind false e (inl is) = let same : p x ≡ p y = ap p is in absurd (cc)
    by_test behind false e (inr m) = behind m h

pub among-filter_from : {X : Type 0} (p : X → Bool) (x : X) (xs : List X) → Among x (filter p xs)
    → Among x xs × (p x ≡ true)
among-filter_from p x [] none = absurd none
among-filter_from p x (y ∷ xs) m = by_test (among-filter_from p x xs) (p y) refl m
  where
    by_test : (Among x (filter p xs) → Among x xs × (p x ≡ true)) → (t : Bool) → p y ≡ t
        → Among x (cond t (y ∷ filter p xs) (filter p xs)) → Among x (y ∷ xs) × (p x ≡ true)
    by_test behind true e (inl is) = let same : p x ≡ p y = ap p is in (inl is, cc)
    by_test behind true e (inr m) = let b = behind m in (inr b.0, b.1)
    by_test behind false e m = let b = behind m in (inr b.0, b.1)
