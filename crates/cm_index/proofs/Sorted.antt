-- Sorted keys: what a comparison with one says about the others, and a key inserted among them.
-- For `block_of`.
use Rattle.std.proofs.Common.{◌≡◌, ℕ, zero, suc, ◌<◌, List, [], ◌∷◌, ◌++◌, length, take}
use Rattle.std.proofs.Common.{drop, get_or, sym, ◌∙◌, ap, subst, arith, inl, inr}
use Rattle.std.specs.List.{AllByRecursion}
use Rattle.std.specs.Ordering.{nat_cmp, ordering_reverse, is_eq}
use Rattle.std.specs.Cmp.{tied_itself}
use Rattle.std.specs.Cmp.Lexicographic.{slice_cmp}
use Rattle.std.proofs.Common.{length-append, refl, ◌+◌, ◌≤◌}
use Rattle.std.proofs.lemmas.List.{take-append-le, drop-append-le}
use Rattle.std.proofs.lemmas.Cmp.{nat_list_cmp_total}
use Rattle.std.proofs.lemmas.Map.Text.{is_eq-slice_cmp}
use Rattle.std.proofs.lemmas.Slice.Eq.{bytes_eq-Decides}
use Rattle.std.specs.declared.cmp.Ordering.{Ordering}
use Rattle.std.specs.declared.cmp.Ordering.TheVariants.{Less, Equal, Greater}
use Rattle.cm_pool.specs.Lists.{Among}
use Rattle.cm_pool.proofs.{each-join}
use Rattle.cm_index.specs.Index.{Rise, SplitsKeys, Below, Above}

abbrev goes : List ℕ → List ℕ → Ordering
goes a b = slice_cmp nat_cmp a b

pub equal-is : (a b : List ℕ) → goes a b ≡ Equal → a ≡ b
equal-is a b e = (bytes_eq-Decides a b).0 (sym (is_eq-slice_cmp a b) ∙ ap is_eq e)

pub equal-itself : (a : List ℕ) → goes a a ≡ Equal
equal-itself a = tied_itself nat_list_cmp_total a

below-through : (a b c : List ℕ) → goes a b ≡ Less → goes b c ≡ Less → goes a c ≡ Less
below-through a b c = nat_list_cmp_total.trans a b c

turned-above : (a b : List ℕ) → goes a b ≡ Greater → goes b a ≡ Less
turned-above a b e = nat_list_cmp_total.antisymm b a ∙ ap ordering_reverse e

turned-below : (a b : List ℕ) → goes a b ≡ Less → goes b a ≡ Greater
turned-below a b e = nat_list_cmp_total.antisymm b a ∙ ap ordering_reverse e

all-weaker : {X : Type 0} (Q R : X → Type 0) (xs : List X) → ((x : X) → Q x → R x)
    → AllByRecursion Q xs → AllByRecursion R xs
all-weaker Q R [] f h = tt
all-weaker Q R (x ∷ xs) f h = (f x h.0, all-weaker Q R xs f h.1)

pub all-take : {X : Type 0} (Q : X → Type 0) (n : ℕ) (xs : List X) → AllByRecursion Q xs
    → AllByRecursion Q (take n xs)
all-take Q zero xs h = tt
all-take Q (suc n) [] h = tt
all-take Q (suc n) (x ∷ xs) h = (h.0, all-take Q n xs h.1)

pub all-drop : {X : Type 0} (Q : X → Type 0) (n : ℕ) (xs : List X) → AllByRecursion Q xs
    → AllByRecursion Q (drop n xs)
all-drop Q zero xs h = h
all-drop Q (suc n) [] h = tt
all-drop Q (suc n) (x ∷ xs) h = all-drop Q n xs h.1

pub all-at : {X : Type 0} (Q : X → Type 0) (xs : List X) (i : ℕ) (d : X) → AllByRecursion Q xs
    → i < length xs → Q (get_or xs i d)
all-at Q [] i d h lt = absurd (omega arith)
all-at Q (x ∷ xs) zero d h lt = h.0
all-at Q (x ∷ xs) (suc i) d h lt = all-at Q xs i d h.1 (omega arith)

pub all-among : {X : Type 0} (Q : X → Type 0) (xs : List X) (x : X) → AllByRecursion Q xs
    → Among x xs → Q x
all-among Q [] x h none = absurd none
all-among Q (y ∷ ys) x h (inl e) = subst Q (sym e) h.0
all-among Q (y ∷ ys) x h (inr m) = all-among Q ys x h.1 m

pub all-left : {X : Type 0} (Q : X → Type 0) (xs ys : List X) → AllByRecursion Q (xs ++ ys)
    → AllByRecursion Q xs
all-left Q [] ys h = tt
all-left Q (x ∷ xs) ys h = (h.0, all-left Q xs ys h.1)

pub all-right : {X : Type 0} (Q : X → Type 0) (xs ys : List X) → AllByRecursion Q (xs ++ ys)
    → AllByRecursion Q ys
all-right Q [] ys h = h
all-right Q (x ∷ xs) ys h = all-right Q xs ys h.1

pub rise-left : (ks ls : List (List ℕ)) → Rise (ks ++ ls) → Rise ks
rise-left [] ls h = tt
rise-left (k ∷ ks) ls h = (all-left (λ b. goes k b ≡ Less) ks ls h.0, rise-left ks ls h.1)

pub rise-right : (ks ls : List (List ℕ)) → Rise (ks ++ ls) → Rise ls
rise-right [] ls h = h
rise-right (k ∷ ks) ls h = rise-right ks ls h.1

-- ---- a comparison with one key

-- keys before a key below k are below it too
pub below-to : (ks : List (List ℕ)) (m : ℕ) (k d : List ℕ) → Rise ks → m < length ks
    → goes (get_or ks m d) k ≡ Less → AllByRecursion (Below k) (take (suc m) ks)
below-to [] m k d h lt less = absurd (omega arith)
below-to (a ∷ ks) zero k d h lt less = (less, tt)
below-to (a ∷ ks) (suc m) k d h lt less = (
  below-through a (get_or ks m d) k (all-at (λ b. goes a b ≡ Less) ks m d h.0 (omega arith))
      less,
  below-to ks m k d h.1 (omega arith) less,
)

-- keys after a key above k are above it too
pub above-from : (ks : List (List ℕ)) (m : ℕ) (k d : List ℕ) → Rise ks → m < length ks
    → goes (get_or ks m d) k ≡ Greater → AllByRecursion (Above k) (drop m ks)
above-from [] m k d h lt more = absurd (omega arith)
above-from (a ∷ ks) zero k d h lt more = (
  more,
  all-weaker (λ b. goes a b ≡ Less) (Above k) ks
      (λ b less. turned-below k b (below-through k a b (turned-above a k more) less)) h.0,
)
above-from (a ∷ ks) (suc m) k d h lt more = above-from ks m k d h.1 (omega arith) more

less-through : (a b k : List ℕ) → goes a b ≡ Less → ¬ (goes b k ≡ Greater) → goes a k ≡ Less
less-through a b k less not = by_order (goes b k) refl
  where
    by_order : (o : Ordering) → goes b k ≡ o → goes a k ≡ Less
    by_order Less e = below-through a b k less e
    by_order Equal e = subst (λ (c : List ℕ). goes a c ≡ Less) (equal-is b k e) less
    by_order Greater e = absurd (not e)

-- keys before a key that isn't above k are below it
pub before-to : (ks : List (List ℕ)) (m : ℕ) (k d : List ℕ) → Rise ks → m < length ks
    → ¬ (goes (get_or ks m d) k ≡ Greater) → AllByRecursion (Below k) (take m ks)
before-to [] m k d h lt not = absurd (omega arith)
before-to (a ∷ ks) zero k d h lt not = tt
before-to (a ∷ ks) (suc m) k d h lt not = (
  less-through a (get_or ks m d) k (all-at (λ b. goes a b ≡ Less) ks m d h.0 (omega arith)) not,
  before-to ks m k d h.1 (omega arith) not,
)

-- ---- one more key

pub rise-insert : (ks : List (List ℕ)) (i : ℕ) (k : List ℕ) → Rise ks → SplitsKeys ks i k
    → Rise (take i ks ++ k ∷ drop i ks)
rise-insert ks zero k h p =
    (all-weaker (Above k) (λ b. goes k b ≡ Less) ks (λ b. turned-above b k) p.above, h)
rise-insert [] (suc i) k h p = absurd (let w = p.within in omega arith)
rise-insert (a ∷ ks) (suc i) k h p = (
  each-join (λ b. goes a b ≡ Less) (take i ks) (k ∷ drop i ks)
      (all-take (λ b. goes a b ≡ Less) i ks h.0)
      (p.below.0, all-drop (λ b. goes a b ≡ Less) i ks h.0),
  rise-insert ks i k h.1 (record {
    within = let w = p.within in
        omega arith;
    below = p.below.1;
    above = p.above;
  }),
)

-- a key that splits others into those below and those above is none of them
among-parts : (ks : List (List ℕ)) (i : ℕ) (k : List ℕ) → AllByRecursion (Below k) (take i ks)
    → AllByRecursion (Above k) (drop i ks) → ¬ Among k ks
among-parts [] i k below above none = none
among-parts (a ∷ ks) zero k below above m =
    let e : goes k k ≡ Greater = all-among (Above k) (a ∷ ks) k above m in
    let f = equal-itself k in
    absurd (cc)
among-parts (a ∷ ks) (suc i) k below above (inl e) =
    let less : goes k k ≡ Less = subst (Below k) (sym e) below.0 in
    let f = equal-itself k in
    absurd (cc)
among-parts (a ∷ ks) (suc i) k below above (inr m) = among-parts ks i k below.1 above m

pub parted : (ks : List (List ℕ)) (i : ℕ) (k : List ℕ) → SplitsKeys ks i k → ¬ Among k ks
parted ks i k p = among-parts ks i k p.below p.above

-- keys that split those of a block, among those of all blocks
pub parts-inside : (before ks behind : List (List ℕ)) (i : ℕ) (k : List ℕ)
    → AllByRecursion (Below k) before → SplitsKeys ks i k → AllByRecursion (Above k) behind
    → SplitsKeys (before ++ (ks ++ behind)) (length before + i) k
parts-inside [] ks behind i k below p above =
    let within : i ≤ length ks = p.within in
    let here : SplitsKeys (ks ++ behind) i k = record {
      within = omega (arith, length-append ks behind, within);
      below = subst (AllByRecursion (Below k)) (sym (take-append-le i ks behind within)) p.below;
      above = subst (AllByRecursion (Above k)) (sym (drop-append-le i ks behind within))
          (each-join (Above k) (drop i ks) behind p.above above);
    } in
    subst (λ (n : ℕ). SplitsKeys (ks ++ behind) n k) (omega arith) here
parts-inside (a ∷ before) ks behind i k below p above =
    let rest = parts-inside before ks behind i k below.1 p above in
    let within : length before + i ≤ length (before ++ (ks ++ behind)) = rest.within in
    let here : SplitsKeys (a ∷ (before ++ (ks ++ behind))) (suc (length before + i)) k = record {
      within = omega (arith, within);
      below = (below.0, rest.below);
      above = rest.above;
    } in
    subst (λ (n : ℕ). SplitsKeys (a ∷ (before ++ (ks ++ behind))) n k) (omega arith) here
