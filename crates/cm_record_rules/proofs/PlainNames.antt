-- Names without any of the bytes that a name may lack.
-- For `are_plain`, `filled_utf8`, `is_plain_name`, `names_unqualified_name`, `names_method_name`.
use Rattle.std.proofs.Common.{◌≡◌, ℕ, zero, suc, Bool, true, false, not, List, [], ◌∷◌, take}
use Rattle.std.proofs.Common.{length, refl, sym, ap, ◌∙◌, ◌≤◌, arith, drop}
use Rattle.std.specs.Prelude.{◌&&◌, ◌==◌}
use Rattle.std.specs.List.{list_all}
use Rattle.cm_descriptors.specs.Forms.{is_name_byte, less, greater, is_empty, is_unqualified_name}
use Rattle.cm_descriptors.specs.Forms.{is_method_name}
use Rattle.cm_record_rules.specs.Plain.{is_plain_byte, is_plain_name}
use Rattle.cm_rules.proofs.{left, right, both}

-- what holds of all bytes holds of the first ones
all_front : (p : ℕ → Bool) (n : ℕ) (xs : List ℕ) → list_all p xs ≡ true
    → list_all p (take n xs) ≡ true
all_front p zero xs h = refl
all_front p (suc n) [] h = refl
all_front p (suc n) (x ∷ xs) h =
    both (p x) (list_all p (take n xs)) (left (p x) (list_all p xs) h)
    (all_front p n xs (right (p x) (list_all p xs) h))

pub plain_front : (filled text : List ℕ) → take (length text) filled ≡ text
    → not (is_empty text) ≡ true → list_all is_plain_byte filled ≡ true
    → is_plain_name text ≡ true
unfolding is_plain_name
plain_front filled text front some h =
    both (not (is_empty text)) (list_all is_plain_byte text) some
    (ap (list_all is_plain_byte) (sym front) ∙ all_front is_plain_byte (length text) filled h)

-- all bytes are those of a name, and none is an angle
name_bytes : (xs : List ℕ) → list_all is_plain_byte xs ≡ true → list_all is_name_byte xs ≡ true
name_bytes [] h = refl
name_bytes (x ∷ xs) h =
    let here = left (is_plain_byte x) (list_all is_plain_byte xs) h in
    both (is_name_byte x) (list_all is_name_byte xs)
    (left (is_name_byte x) (not (x == less))
    (left (is_name_byte x && not (x == less)) (not (x == greater)) here))
    (name_bytes xs (right (is_plain_byte x) (list_all is_plain_byte xs) h))

no_angles : (xs : List ℕ) → list_all is_plain_byte xs ≡ true
    → list_all (λ b. not (b == less) && not (b == greater)) xs ≡ true
no_angles [] h = refl
no_angles (x ∷ xs) h =
    let here = left (is_plain_byte x) (list_all is_plain_byte xs) h in
    both (not (x == less) && not (x == greater))
    (list_all (λ b. not (b == less) && not (b == greater)) xs)
    (both (not (x == less)) (not (x == greater))
    (right (is_name_byte x) (not (x == less))
    (left (is_name_byte x && not (x == less)) (not (x == greater)) here))
    (right (is_name_byte x && not (x == less)) (not (x == greater)) here))
    (no_angles xs (right (is_plain_byte x) (list_all is_plain_byte xs) h))

pub plain_is_unqualified : (xs : List ℕ) → is_plain_name xs ≡ true
    → is_unqualified_name xs ≡ true
unfolding is_plain_name is_unqualified_name
plain_is_unqualified xs h =
    both (not (is_empty xs)) (list_all is_name_byte xs)
    (left (not (is_empty xs)) (list_all is_plain_byte xs) h)
    (name_bytes xs (right (not (is_empty xs)) (list_all is_plain_byte xs) h))

pub plain_is_method : (xs : List ℕ) → is_plain_name xs ≡ true → is_method_name xs ≡ true
unfolding is_plain_name is_method_name
plain_is_method xs h =
    let named = plain_is_unqualified xs h in
    let plain = no_angles xs (right (not (is_empty xs)) (list_all is_plain_byte xs) h) in
    rw (named, plain) refl

-- the first bytes of more

front : (n m : ℕ) (xs : List ℕ) → n ≤ m → take (length (take n xs)) (take m xs) ≡ take n xs
front zero m xs le = refl
front (suc n) zero xs le = absurd (omega arith)
front (suc n) (suc m) [] le = refl
front (suc n) (suc m) (x ∷ xs) le = ap (λ ys. x ∷ ys) (front n m xs (omega arith))

pub front_of_more : (n m : ℕ) (xs text : List ℕ) → n ≤ m → take n xs ≡ text
    → take (length text) (take m xs) ≡ text
front_of_more n m xs text le is =
    ap (λ t. take (length t) (take m xs)) (sym is) ∙ (front n m xs le ∙ is)

-- ---- eight bytes more

and_assoc : (x y z : Bool) → ((x && y) && z) ≡ (x && (y && z))
and_assoc true y z = refl
and_assoc false y z = refl

all_parts : (p : ℕ → Bool) (n : ℕ) (xs : List ℕ)
    → (list_all p (take n xs) && list_all p (drop n xs)) ≡ list_all p xs
all_parts p zero xs = refl
all_parts p (suc n) [] = refl
all_parts p (suc n) (x ∷ xs) =
    and_assoc (p x) (list_all p (take n xs)) (list_all p (drop n xs))
    ∙ ap (λ b. p x && b) (all_parts p n xs)

pub more_plain : (all few total : Bool) (n : ℕ) (rest front behind : List ℕ)
    → few ≡ list_all is_plain_byte front → front ≡ take n rest → behind ≡ drop n rest
    → (all && list_all is_plain_byte rest) ≡ total
    → ((all && few) && list_all is_plain_byte behind) ≡ total
more_plain all few total n rest front behind tested first others so_far =
    and_assoc all few (list_all is_plain_byte behind)
    ∙ (ap (λ b. all && b) ((λ i. (tested ∙ ap (list_all is_plain_byte) first) i
    && list_all is_plain_byte (others i)) ∙ all_parts is_plain_byte n rest) ∙ so_far)
