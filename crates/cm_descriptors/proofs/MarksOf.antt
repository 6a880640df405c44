-- `marks_of`: from the lanes of loads to the kinds of bytes in them.
-- For `first_stop_of_many`, `marks_of`, `marks_of_eight` and others.
use Rattle.std.proofs.Common.{◌≡◌, ℕ, zero, suc, ◌+◌, ◌-◌, ◌*◌, ◌%◌, ◌^◌, ◌<◌, ◌≤◌, eqb, cond, Bool}
use Rattle.std.proofs.Common.{true, false, not, ◌&&◌, List, [], ◌∷◌, ◌++◌, map, length, get_or}
use Rattle.std.proofs.Common.{take, drop, drop-cons, add-one, replicate, Fits, w8, refl, sym, ap}
use Rattle.std.proofs.Common.{ap₂, ◌∙◌, arith}
use Rattle.std.proofs.lemmas.Bool.{agree_below, agree_below_at, ne_eqb}
use Rattle.std.proofs.lemmas.Simd.{map-map, mask_l-mod, length-chunk, chunk-fits, zip2-map}
use Rattle.std.proofs.lemmas.List.{length-map, length-drop, take_all}
use Rattle.std.proofs.Math.Seq.{take-add}
use Rattle.std.specs.List.{list_all}
use Rattle.std.proofs.lemmas.List.Folds.{list_all-append}
use Rattle.cm_descriptors.specs.declared.marks.ByteMarks.{ByteMarks}
use Rattle.cm_descriptors.specs.Marks.{marks_of, both_marks, is_plain, is_no_slash, is_no_stop}
use Rattle.cm_descriptors.specs.Marks.{is_no_angle}
use lib.Lanes.{chunk, zip2, mask_l, top, Each1}

one_more : (b : Bool) (m : ℕ) → eqb (cond b 1 0 + 2 * m) 0 ≡ not b && eqb m 0
one_more true m = ne_eqb (1 + 2 * m) 0 (λ e. omega (arith, e))
one_more false zero = refl
one_more false (suc m) =
    ne_eqb (0 + 2 * suc m) 0 (λ e. omega (arith, e)) ∙ sym
    (ne_eqb (suc m) 0 (λ e. omega (arith, e)))

pub no_lane : {X : Type 0} (s : X → Bool) (v : List X)
    → eqb (mask_l (map s v)) 0 ≡ list_all (λ x. not (s x)) v
no_lane s [] = refl
no_lane s (x ∷ v) = one_more (s x) (mask_l (map s v)) ∙ ap (λ b. not (s x) && b) (no_lane s v)

agree_all : (s p : ℕ → Bool) (v : List ℕ) → Each1 (Fits w8) v → agree_below s p 256 ≡ true
    → list_all s v ≡ list_all p v
agree_all s p [] e h = refl
agree_all s p (x ∷ v) e h =
    ap₂ (λ a b. a && b) (agree_below_at s p 256 x h e.0.fits) (agree_all s p v e.1 h)

-- an operation on two vectors that are computed lane by lane from v
pub joined : (h : ℕ → ℕ → ℕ) (f g : ℕ → ℕ) (v : List ℕ) {a b : List ℕ} → a ≡ map f v → b ≡ map g v
    → zip2 h a b ≡ map (λ x. h (f x) (g x)) v
joined h f g v p q = ap₂ (zip2 h) p q ∙ zip2-map h f g v

pub splat_is : (v : List ℕ) (n y : ℕ) → length v ≡ n → replicate n y ≡ map (λ _. y) v
splat_is [] n y e = ap (λ k. replicate k y) (sym e)
splat_is (x ∷ xs) n y e =
    ap (λ k. replicate k y) (sym e) ∙ ap (λ r. y ∷ r) (splat_is xs (length xs) y refl)

pub itself : (v : List ℕ) → v ≡ map (λ x. x) v
itself [] = refl
itself (x ∷ xs) = ap (λ r. x ∷ r) (itself xs)

module _ (p : ℕ → Bool) (d : List ℕ) (i n : ℕ) {z : List ℕ} (room : i + n ≤ length d) (few : n ≤ 64)
    (fits : (k : ℕ) → Fits w8 (get_or d k 0)) (f : ℕ → ℕ) (lanes : z ≡ map f (chunk i n d)) where
  abbrev set : ℕ → Bool
  set x = top 7 (f x)

  -- no lane is set exactly if each byte passes p
  pub none_set : agree_below (λ x. not (top 7 (f x))) p 256 ≡ true
      → eqb (mask_l (map (top 7) z) % 2 ^ 64) 0 ≡ list_all p (chunk i n d)
  none_set all =
      let v = chunk i n d in
      let long = length-chunk i n d room in
      let mask = ap (λ l. mask_l l % 2 ^ 64) (ap (map (top 7)) lanes ∙ map-map (top 7) f v) ∙
      mask_l-mod (map set v) 64 (omega (arith, length-map v set, long)) in
      ap (λ m. eqb m 0) mask ∙ no_lane set v ∙ agree_all (λ x. not (set x)) p v
      (chunk-fits w8 i n d fits) all

-- ---- of parts to the whole

and_step : (b x y z : Bool) → x && y ≡ z → (b && x) && (b && y) ≡ b && z
and_step true x y z h = h
and_step false x y z h = refl

and_step_left : (b x y z : Bool) → x && y ≡ z → (b && x) && y ≡ b && z
and_step_left true x y z h = h
and_step_left false x y z h = refl

and_take : {X : Type 0} (p : X → Bool) (i : ℕ) (xs : List X)
    → list_all p (take i xs) && list_all p xs ≡ list_all p xs
and_take p zero xs = refl
and_take p (suc i) [] = refl
and_take p (suc i) (x ∷ xs) =
    and_step (p x) (list_all p (take i xs)) (list_all p xs) (list_all p xs) (and_take p i xs)

-- the bytes before i and those from j on are all of them
pub covered : {X : Type 0} (p : X → Bool) (i j : ℕ) (xs : List X) → j ≤ i
    → list_all p (take i xs) && list_all p (drop j xs) ≡ list_all p xs
covered p i zero xs le = and_take p i xs
covered p zero (suc j) xs le = absurd (omega (arith, le))
covered p (suc i) (suc j) [] le = refl
covered p (suc i) (suc j) (x ∷ xs) le =
    and_step_left (p x) (list_all p (take i xs)) (list_all p (drop j xs)) (list_all p xs)
    (covered p i j xs (omega (arith, le)))

-- ---- marks

abbrev pub make : Bool → Bool → Bool → Bool → ByteMarks
make a b c d = record { plain = a; no_slash = b; no_stop = c; no_angle = d }

pub same_marks : {a b c d e f g h : Bool} → a ≡ e → b ≡ f → c ≡ g → d ≡ h
    → make a b c d ≡ make e f g h
same_marks {a} {b} {c} {d} {e} {f} {g} {h} p q r s =
    ap (λ x. make x b c d) p ∙ ap (λ x. make e x c d) q ∙ ap (λ x. make e f x d) r ∙ ap
    (λ x. make e f g x) s

module _ (xs : List ℕ) (i j : ℕ) where
  pub covered_marks : j ≤ i → both_marks (marks_of (take i xs)) (marks_of (drop j xs)) ≡ marks_of xs
  unfolding both_marks marks_of
  covered_marks le =
      same_marks (covered is_plain i j xs le) (covered is_no_slash i j xs le)
      (covered is_no_stop i j xs le) (covered is_no_angle i j xs le)

pub append_marks : (xs ys : List ℕ) → marks_of (xs ++ ys) ≡ both_marks (marks_of xs) (marks_of ys)
unfolding both_marks marks_of
append_marks xs ys =
    same_marks (list_all-append is_plain xs ys) (list_all-append is_no_slash xs ys)
    (list_all-append is_no_stop xs ys) (list_all-append is_no_angle xs ys)

pub both_assoc : (a b c : ByteMarks) → both_marks (both_marks a b) c ≡ both_marks a (both_marks b c)
unfolding both_marks
both_assoc a b c =
    same_marks (and_assoc a.plain b.plain c.plain) (and_assoc a.no_slash b.no_slash c.no_slash)
    (and_assoc a.no_stop b.no_stop c.no_stop) (and_assoc a.no_angle b.no_angle c.no_angle)
  where
    and_assoc : (x y z : Bool) → (x && y) && z ≡ x && (y && z)
    and_assoc true y z = refl
    and_assoc false y z = refl

pub both_comm : (a b : ByteMarks) → both_marks a b ≡ both_marks b a
unfolding both_marks
both_comm a b =
    same_marks (and_comm a.plain b.plain) (and_comm a.no_slash b.no_slash)
    (and_comm a.no_stop b.no_stop) (and_comm a.no_angle b.no_angle)
  where
    and_comm : (x y : Bool) → x && y ≡ y && x
    and_comm true true = refl
    and_comm true false = refl
    and_comm false true = refl
    and_comm false false = refl

pub both_nothing : (m : ByteMarks) → both_marks m (marks_of []) ≡ m
unfolding both_marks marks_of
both_nothing m =
    same_marks (and_true m.plain) (and_true m.no_slash) (and_true m.no_stop) (and_true m.no_angle)
  where
    and_true : (x : Bool) → x && true ≡ x
    and_true true = refl
    and_true false = refl

pub nothing_both : (m : ByteMarks) → both_marks (make true true true true) m ≡ m
unfolding both_marks
nothing_both m = refl

-- the byte at a place is one of those that are left
pub one_byte : (m : ByteMarks) (xs : List ℕ) (i : ℕ) → i < length xs
    → both_marks (both_marks m (marks_of (get_or xs i 0 ∷ []))) (marks_of (drop (i + 1) xs))
    ≡ both_marks m (marks_of (drop i xs))
one_byte m xs i lt =
    let b = get_or xs i 0 in
    let rest : drop i xs ≡ (b ∷ []) ++ drop (i + 1) xs =
    drop-cons xs i 0 lt ∙ ap (λ (k : ℕ). b ∷ drop k xs) (sym (add-one i)) in
    both_assoc m (marks_of (b ∷ [])) (marks_of (drop (i + 1) xs)) ∙ ap (both_marks m)
    (sym (append_marks (b ∷ []) (drop (i + 1) xs)) ∙ ap marks_of (sym rest))

-- n more bytes, after the first i
pub more_bytes : (m : ByteMarks) (xs : List ℕ) (i n : ℕ)
    → both_marks (both_marks m (marks_of (take i xs))) (marks_of (take n (drop i xs)))
    ≡ both_marks m (marks_of (take (i + n) xs))
more_bytes m xs i n =
    both_assoc m (marks_of (take i xs)) (marks_of (take n (drop i xs)))
    ∙ ap (both_marks m)
    (sym (append_marks (take i xs) (take n (drop i xs))) ∙ ap marks_of (sym (take-add i n xs)))

-- the last n bytes
pub last_bytes : (xs : List ℕ) (n : ℕ) → n ≤ length xs
    → take n (drop (length xs - n) xs) ≡ drop (length xs - n) xs
last_bytes xs n le =
    take_all n (drop (length xs - n) xs) (omega (arith, le, length-drop (length xs - n) xs))
