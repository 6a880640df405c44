-- Numbers that are apart: those of the commands of a group, those that an end takes over, and those
-- of all passes.
-- For `Outgoing`, `Tally::take_all`, `Cache::close`.
use Rattle.std.proofs.Common.{◌≡◌, ◌≢◌, ℕ, suc, ◌+◌, ◌<◌, ◌≤◌, true, false}
use Rattle.std.proofs.Common.{List, [], ◌∷◌, ◌++◌, length, refl, sym, ap, subst, ◌∙◌, arith}
use Rattle.std.proofs.Common.{⊎_elim, true≢false}
use Rattle.std.specs.List.{All, list_any, sum_by}
use Rattle.std.specs.Cmp.{nat_eq_equiv}
use Rattle.std.proofs.Math.Dec.{eqb}
use Rattle.std.proofs.lemmas.Bool.{cases_Bool, cases_eq, eqb-true}
use Rattle.std.proofs.lemmas.Bool.Decides.{nat_tests, Decides-eqb}
use Rattle.std.proofs.lemmas.List.{length-append}
use Rattle.std.proofs.lemmas.List.Elements.{All-nil, All-cons, All-head, All-tail, All-append}
use Rattle.std.proofs.lemmas.List.Elements.{All-weaker}
use Rattle.std.proofs.lemmas.List.Kept.{AllPairs-cons}
use Rattle.std.proofs.lemmas.List.Sums.{sum_by-cons}
use Rattle.std.proofs.lemmas.Map.Made.{IsDistinct-from_AllPairs, length-le_from_is_member}
use Rattle.std.proofs.lemmas.Map.Views.{Contains-from_any}
use Rattle.cm_group.specs.Groups.{Carried}
use Rattle.cm_state.specs.Step.{Change}
use Rattle.cm_cache.specs.declared.channel.Base.{Base}
use Rattle.cm_cache.specs.Channel.{AreApart, numbers_after}
use Rattle.cm_cache.specs.Handing.{IsHanded, AreHanded}
use Rattle.cm_cache.specs.Shared.{PassState, numbers_of, numbers_of_passes}
use Rattle.cm_cache.specs.Closing.{HasEachNumber}

-- ---- lists

first_apart : (x : ℕ) (xs : List ℕ) → AreApart (x ∷ xs) → All (λ y. x ≢ y) xs
first_apart x xs apart k d below = apart 0 (suc k) d (omega arith) (omega (arith, below))

rest_apart : (x : ℕ) (xs : List ℕ) → AreApart (x ∷ xs) → AreApart xs
rest_apart x xs apart i j d less below =
    apart (suc i) (suc j) d (omega (arith, less)) (omega (arith, below))

pub none_apart : AreApart []
none_apart i j d less below = absurd (omega (arith, below))

pub join_apart : (xs ys : List ℕ) → AreApart xs → AreApart ys
    → All (λ x. All (λ y. x ≢ y) ys) xs → AreApart (xs ++ ys)
join_apart [] ys a b cross = b
join_apart (x ∷ xs) ys a b cross =
    AllPairs-cons (λ n m. n ≢ m) x (xs ++ ys)
    (All-append (λ y. x ≢ y) xs ys (first_apart x xs a)
    (All-head (λ x. All (λ y. x ≢ y) ys) x xs cross))
    (join_apart xs ys (rest_apart x xs a) b (All-tail (λ x. All (λ y. x ≢ y) ys) x xs cross))

-- ---- the numbers of a group

pub numbers_between : (n : ℕ) (entries : List Carried)
    → All (λ m. (n < m) × (m ≤ n + length entries)) (numbers_after n entries)
numbers_between n [] = All-nil _
numbers_between n (e ∷ entries) =
    All-cons (λ m. (n < m) × (m ≤ n + suc (length entries))) (n + 1) (numbers_after (n + 1) entries)
    (omega arith, omega arith)
    (All-weaker (λ m. (n + 1 < m) × (m ≤ n + 1 + length entries))
    (λ m. (n < m) × (m ≤ n + suc (length entries)))
    (λ m is. let low = is.0 in let high = is.1 in (omega (arith, low), omega (arith, high)))
    (numbers_after (n + 1) entries) (numbers_between (n + 1) entries))

pub numbers_apart : (n : ℕ) (entries : List Carried) → AreApart (numbers_after n entries)
numbers_apart n [] = none_apart
numbers_apart n (e ∷ entries) =
    AllPairs-cons (λ n m. n ≢ m) (n + 1) (numbers_after (n + 1) entries)
    (All-weaker (λ m. (n + 1 < m) × (m ≤ n + 1 + length entries)) (λ m. n + 1 ≢ m)
    (λ m is same. let low = is.0 in absurd (omega (arith, low, same)))
    (numbers_after (n + 1) entries) (numbers_between (n + 1) entries))
    (numbers_apart (n + 1) entries)

has_number : (n q : ℕ) (entries : List Carried) → n < q → q ≤ n + length entries
    → list_any (eqb q) (numbers_after n entries) ≡ true
has_number n q [] low high = absurd (omega (arith, low, high))
has_number n q (e ∷ entries) low high = ⊎_elim
    (λ is. let t : eqb q (n + 1) ≡ true = grind (arith, nat_tests) in rw t refl)
    (λ other. let f : eqb q (n + 1) ≡ false = grind (arith, nat_tests) in
    rw f (has_number (n + 1) q entries (omega (arith, low, other)) (omega (arith, high))))
    (cases_eq q (n + 1))

length_numbers : (n : ℕ) (entries : List Carried)
    → length (numbers_after n entries) ≡ length entries
length_numbers n [] = refl
length_numbers n (e ∷ entries) = ap suc (length_numbers (n + 1) entries)

-- ---- all numbers

-- numbers that are apart, and as many as there can be, are all that there can be
each_is_there : (n : ℕ) (all : List Carried) (numbers : List ℕ) → AreApart numbers
    → All (λ m. (n < m) × (m ≤ n + length all)) numbers → length numbers ≡ length all
    → HasEachNumber n (length all) numbers
each_is_there n all numbers apart between count k below =
    ⊎_elim
    (λ has. Contains-from_any eqb-true (n + k + 1) numbers has)
    (λ hasnt.
    let long = length-le_from_is_member nat_eq_equiv ((n + k + 1) ∷ numbers) (numbers_after n all)
    (IsDistinct-from_AllPairs Decides-eqb ((n + k + 1) ∷ numbers)
    (AllPairs-cons (λ a b. a ≢ b) (n + k + 1) numbers (others hasnt) apart))
    (λ q has.
    let at = Contains-from_any eqb-true q ((n + k + 1) ∷ numbers) has in
    let is = subst (λ m. (n < m) × (m ≤ n + length all)) at.2
    (All-cons (λ m. (n < m) × (m ≤ n + length all)) (n + k + 1) numbers
    (omega arith, omega (arith, below)) between at.0 q at.1) in
    has_number n q all is.0 is.1)
    in
    let same = length_numbers n all in
    absurd (omega (arith, long, same, count)))
    (cases_Bool (list_any (eqb (n + k + 1)) numbers))
  where
    without : (q : ℕ) (l : List ℕ) → list_any (eqb q) l ≡ false → All (λ m. q ≢ m) l
    without q [] hasnt = All-nil _
    without q (m ∷ l) hasnt = ⊎_elim
        (λ t. absurd (let has : list_any (eqb q) (m ∷ l) ≡ true = rw t refl in
        true≢false (sym has ∙ hasnt)))
        (λ f. All-cons (λ m. q ≢ m) m l (grind (arith, nat_tests))
        (without q l (rw f at hasnt)))
        (cases_Bool (eqb q m))

    others : list_any (eqb (n + k + 1)) numbers ≡ false → All (λ m. n + k + 1 ≢ m) numbers
    others hasnt = without (n + k + 1) numbers hasnt

-- ---- the numbers of all passes

in_range : (base : Base) (all : List Carried) (changes : List (Change (List ℕ) × ℕ))
    → AreHanded base all changes
    → All (λ m. (base.number < m) × (m ≤ base.number + length all)) (numbers_of changes)
in_range base all [] are = All-nil _
in_range base all (c ∷ changes) are =
    All-cons (λ m. (base.number < m) × (m ≤ base.number + length all)) c.1 (numbers_of changes)
    (within (All-head (λ (c : Change (List ℕ) × ℕ). IsHanded base all c.0 c.1) c changes are))
    (in_range base all changes
    (All-tail (λ (c : Change (List ℕ) × ℕ). IsHanded base all c.0 c.1) c changes are))
  where
    within : IsHanded base all c.0 c.1
        → (base.number < c.1) × (c.1 ≤ base.number + length all)
    within h =
        let number = h.number_is in
        let count = ap length h.all_are in
        let parts = length-append h.before (h.entry ∷ h.rest) in
        (omega (arith, number), omega (arith, number, count, parts))

all_in_range : (base : Base) (all : List Carried) (passes : List PassState)
    → All (λ (p : PassState). AreHanded base all p.changes) passes
    → All (λ m. (base.number < m) × (m ≤ base.number + length all)) (numbers_of_passes passes)
all_in_range base all [] are = All-nil _
all_in_range base all (p ∷ passes) are =
    All-append (λ m. (base.number < m) × (m ≤ base.number + length all)) (numbers_of p.changes)
    (numbers_of_passes passes)
    (in_range base all p.changes
    (All-head (λ (p : PassState). AreHanded base all p.changes) p passes are))
    (all_in_range base all passes
    (All-tail (λ (p : PassState). AreHanded base all p.changes) p passes are))

length_numbers_of : (changes : List (Change (List ℕ) × ℕ))
    → length (numbers_of changes) ≡ length changes
length_numbers_of [] = refl
length_numbers_of (c ∷ changes) = ap suc (length_numbers_of changes)

count_numbers : (passes : List PassState)
    → All (λ (p : PassState). length p.changes ≡ p.share) passes
    → length (numbers_of_passes passes) ≡ sum_by (λ (p : PassState). p.share) passes
count_numbers [] counted = refl
count_numbers (p ∷ passes) counted =
    let parts = length-append (numbers_of p.changes) (numbers_of_passes passes) in
    let first = length_numbers_of p.changes in
    let share = All-head (λ (p : PassState). length p.changes ≡ p.share) p passes counted in
    let rest = count_numbers passes
    (All-tail (λ (p : PassState). length p.changes ≡ p.share) p passes counted) in
    let sum = sum_by-cons (λ (p : PassState). p.share) p passes in
    omega (arith, parts, first, share, rest, sum)

-- the changes of all passes, if they are as many as the commands that were handed over
pub all_are_theirs : (base : Base) (all : List Carried) (handed : ℕ) (passes : List PassState)
    → length all ≡ handed → AreApart (numbers_of_passes passes)
    → All (λ (p : PassState). length p.changes ≡ p.share) passes
    → All (λ (p : PassState). AreHanded base all p.changes) passes
    → sum_by (λ (p : PassState). p.share) passes ≡ handed
    → HasEachNumber base.number handed (numbers_of_passes passes)
all_are_theirs base all handed passes count apart counted are sum =
    subst (λ n. HasEachNumber base.number n (numbers_of_passes passes)) count
    (each_is_there base.number all (numbers_of_passes passes) apart
    (all_in_range base all passes are) (count_numbers passes counted ∙ sum ∙ sym count))
