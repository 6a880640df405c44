-- Facts on lists: what holds for all elements, or for each pair, and which are in a list.
-- For `Space::add_loader`, `Space::adopt`, `Space::chunks` and others.
use Rattle.std.proofs.Common.{List, [], ◌∷◌, ◌++◌, sym, subst, inl, inr}
use Rattle.std.specs.List.{AllByRecursion}
use Rattle.cm_pool.specs.Lists.{Pairwise, Among}
use Rattle.cm_pool.proofs.{each-weaker, each-among, each-join, each-front, each-back, pairs-insert}
use Rattle.cm_pool.proofs.{among-left, among-right, among-append}

module _ {X : Type 0} where
  -- two parts change places after a first one
  pub each-trade : (P : X → Type 0) (front a b c : List X)
      → AllByRecursion P (front ++ (a ++ (b ++ c))) → AllByRecursion P (front ++ (b ++ (a ++ c)))
  each-trade P front a b c h =
      let rest = each-back P front (a ++ (b ++ c)) h in
      let behind = each-back P a (b ++ c) rest in
      each-join P front (b ++ (a ++ c)) (each-front P front (a ++ (b ++ c)) h)
      (each-join P b (a ++ c) (each-front P b c behind)
      (each-join P a c (each-front P a (b ++ c) rest) (each-back P b c behind)))

  pub pairs-push : (R : X → X → Type 0) (xs : List X) (b : X) → Pairwise R xs
      → AllByRecursion (λ x. R x b) xs → Pairwise R (xs ++ b ∷ [])
  pairs-push R [] b p f = (tt, tt)
  pairs-push R (x ∷ xs) b p f =
      (each-join (R x) xs (b ∷ []) p.0 (f.0, tt), pairs-push R xs b p.1 f.1)

  pub pairs-trade : (R : X → X → Type 0) → ((x y : X) → R x y → R y x) → (front a b c : List X)
      → Pairwise R (front ++ (a ++ (b ++ c))) → Pairwise R (front ++ (b ++ (a ++ c)))
  pairs-trade R turn [] [] b c p = p
  pairs-trade R turn [] (x ∷ a) b c p =
      let all = each-trade (R x) [] a b c p.0 in
      pairs-insert R b x (a ++ c) (pairs-trade R turn [] a b c p.1)
      (each-weaker (R x) (λ y. R y x) (λ y h. turn x y h) b (each-front (R x) b (a ++ c) all))
      (each-back (R x) b (a ++ c) all)
  pairs-trade R turn (x ∷ front) a b c p =
      (each-trade (R x) front a b c p.0, pairs-trade R turn front a b c p.1)

  -- an element of each of two parts
  pub pairs-across : (R : X → X → Type 0) (xs ys : List X) (x y : X) → Pairwise R (xs ++ ys)
      → Among x xs → Among y ys → R x y
  pairs-across R [] ys x y p m n = absurd m
  pairs-across R (z ∷ zs) ys x y p (inl e) n = subst
      (λ w. R w y) (sym e) (each-among (R z) ys y (each-back (R z) zs ys p.0) n)
  pairs-across R (z ∷ zs) ys x y p (inr m) n = pairs-across R zs ys x y p.1 m n

  pub among-trade : (x : X) (front a b c : List X) → Among x (front ++ (a ++ (b ++ c)))
      → Among x (front ++ (b ++ (a ++ c)))
  among-trade x front a b c m =
      elim (among-append x front (a ++ (b ++ c)) m) [
        | inl f ↦ among-left x front (b ++ (a ++ c)) f
        | inr r ↦ among-right x front (b ++ (a ++ c)) (elim (among-append x a (b ++ c) r) [
          | inl in_a ↦ among-right x b (a ++ c) (among-left x a c in_a)
          | inr s ↦ elim (among-append x b c s) [
            | inl in_b ↦ among-left x b (a ++ c) in_b
            | inr in_c ↦ among-right x b (a ++ c) (among-right x a c in_c)
          ]
        ])
      ]
