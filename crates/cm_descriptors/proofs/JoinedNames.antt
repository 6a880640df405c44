-- Names joined by slashes: the slashes of neighbours, and what is after a class name.
-- For `are_names`, `many_are_apart`, `nine_are_apart` and others.
use Rattle.std.proofs.Common.{◌≡◌, ℕ, zero, suc, ◌+◌, ◌-◌, ◌%◌, ◌^◌, ◌<◌, ◌≤◌, eqb, cond, Bool}
use Rattle.std.proofs.Common.{true, false, not, ◌&&◌, List, [], ◌∷◌, map, length, get_or, take}
use Rattle.std.proofs.Common.{drop, add-one, Option, Some, None, inl, inr, refl, sym, ap, ap₂, ◌∙◌}
use Rattle.std.proofs.Common.{arith}
use Rattle.std.specs.Prelude.{◌==◌}
use Rattle.std.specs.Option.{option_map_or, option_and_then}
use Rattle.std.proofs.lemmas.Bool.{eq-eqb, ne_eqb}
use Rattle.std.proofs.lemmas.Simd.{map-map, mask_l-mod, length-chunk, length-zip2}
use Rattle.std.proofs.lemmas.List.{length-map, length-drop, drop_all, take_all}
use Rattle.std.proofs.lemmas.List.Folds.{list_all-append}
use Rattle.std.proofs.Math.Seq.{take-add}
use Rattle.std.specs.List.{list_all, prefix_len}
use lib.Lanes.{chunk, zip2, mask_l, top}
use Rattle.cm_descriptors.specs.Forms.{slash, semicolon, dot, bracket, name_after, is_class_name}
use Rattle.cm_descriptors.specs.Forms.{is_class_name_from, after_class}
use Rattle.cm_descriptors.specs.Marks.{is_no_stop, not_both_slashes, neighbours}
use Rattle.cm_descriptors.proofs.FormLoops.{both_true, not_true}
use Rattle.cm_descriptors.proofs.MarksOf.{no_lane, covered}
use Rattle.cm_descriptors.proofs.ByMarks.{stop_step, and_assoc}
use Rattle.cm_descriptors.proofs.FirstStop.{by_head}

abbrev pub pair : ℕ → ℕ → ℕ × ℕ
pair a b = (a, b)

-- ---- neighbours of a load

zip_nil : {X Y Z : Type 0} (f : X → Y → Z) (xs : List X) → zip2 f xs [] ≡ []
zip_nil f [] = refl
zip_nil f (x ∷ xs) = refl

drop_zip : {X Y Z : Type 0} (f : X → Y → Z) (i : ℕ) (xs : List X) (ys : List Y)
    → drop i (zip2 f xs ys) ≡ zip2 f (drop i xs) (drop i ys)
drop_zip f zero xs ys = refl
drop_zip f (suc i) [] ys = refl
drop_zip f (suc i) (x ∷ xs) [] = sym (zip_nil f (drop i xs))
drop_zip f (suc i) (x ∷ xs) (y ∷ ys) = drop_zip f i xs ys

take_zip : {X Y Z : Type 0} (f : X → Y → Z) (n : ℕ) (xs : List X) (ys : List Y)
    → take n (zip2 f xs ys) ≡ zip2 f (take n xs) (take n ys)
take_zip f zero xs ys = refl
take_zip f (suc n) [] ys = refl
take_zip f (suc n) (x ∷ xs) [] = refl
take_zip f (suc n) (x ∷ xs) (y ∷ ys) = ap (λ r. f x y ∷ r) (take_zip f n xs ys)

drop_one : (i : ℕ) (xs : List ℕ) → drop i (drop 1 xs) ≡ drop (i + 1) xs
drop_one i [] = drop_all i [] (omega arith) ∙ sym (drop_all (i + 1) [] (omega arith))
drop_one i (x ∷ xs) = ap (λ (k : ℕ). drop k (x ∷ xs)) (sym (add-one i))

chunk_neighbours : (i n : ℕ) (xs : List ℕ)
    → take n (drop i (neighbours xs)) ≡ zip2 pair (chunk i n xs) (chunk (i + 1) n xs)
chunk_neighbours i n xs =
    ap (take n) (drop_zip pair i xs (drop 1 xs)) ∙ take_zip pair n (drop i xs) (drop i (drop 1 xs))
    ∙ ap (λ ys. zip2 pair (take n (drop i xs)) (take n ys)) (drop_one i xs)

zip_maps : (h : ℕ → ℕ → ℕ) (f : ℕ → ℕ) (v w : List ℕ)
    → zip2 h (map f v) (map f w) ≡ map (λ (p : ℕ × ℕ). h (f p.0) (f p.1)) (zip2 pair v w)
zip_maps h f [] w = refl
zip_maps h f (x ∷ v) [] = refl
zip_maps h f (x ∷ v) (y ∷ w) = ap (λ r. h (f x) (f y) ∷ r) (zip_maps h f v w)

same_tests : {X : Type 0} (s t : X → Bool) → ((x : X) → s x ≡ t x) → (xs : List X)
    → list_all s xs ≡ list_all t xs
same_tests s t h [] = refl
same_tests s t h (x ∷ xs) = ap₂ (λ a b. a && b) (h x) (same_tests s t h xs)

-- a lane that is set if a byte is a slash
abbrev pub set_by_slash : ℕ → ℕ
set_by_slash x = cond (eqb x 47) 255 0

module _ (h : ℕ → ℕ → ℕ) (both : not (top 7 (h 255 255)) ≡ false)
    (one : not (top 7 (h 255 0)) ≡ true) (other : not (top 7 (h 0 255)) ≡ true)
    (neither : not (top 7 (h 0 0)) ≡ true) where
  by_lanes : (a b : Bool) → not (top 7 (h (cond a 255 0) (cond b 255 0))) ≡ not (a && b)
  by_lanes true true = both
  by_lanes true false = one
  by_lanes false true = other
  by_lanes false false = neither

  pub none_both : (n : ℕ) → n ≤ 64 → (d : List ℕ) (i : ℕ) {a b : List ℕ} → i + (n + 1) ≤ length d
      → a ≡ map set_by_slash (chunk i n d) → b ≡ map set_by_slash (chunk (i + 1) n d)
      → eqb (mask_l (map (top 7) (zip2 h a b)) % 2 ^ 64) 0
      ≡ list_all not_both_slashes (take n (drop i (neighbours d)))
  none_both n few d i room pa pb =
      let v = chunk i n d in
      let w = chunk (i + 1) n d in
      let long = length-chunk i n d (omega (arith, room)) in
      let long_too = length-chunk (i + 1) n d (omega (arith, room)) in
      let ps = zip2 pair v w in
      let g : ℕ × ℕ → ℕ = λ p. h (set_by_slash p.0) (set_by_slash p.1) in
      let set : ℕ × ℕ → Bool = λ p. top 7 (g p) in
      let lanes = ap₂ (zip2 h) pa pb ∙ zip_maps h set_by_slash v w in
      let mask = ap (λ l. mask_l l % 2 ^ 64) (ap (map (top 7)) lanes ∙ map-map (top 7) g ps) ∙
      mask_l-mod (map set ps) 64
      (omega (arith, length-map ps set, length-zip2 pair v w (long ∙ sym long_too), long, few))
      in
      ap (λ m. eqb m 0) mask ∙ no_lane set ps
      ∙ same_tests (λ p. not (set p)) not_both_slashes (λ p. by_lanes (eqb p.0 47) (eqb p.1 47)) ps
      ∙ ap (list_all not_both_slashes) (sym (chunk_neighbours i n d))

-- ---- load by load

shifted : (x : ℕ) (xs : List ℕ) → length (zip2 pair (x ∷ xs) xs) ≡ length xs
shifted x [] = refl
shifted x (y ∷ ys) = ap suc (shifted y ys)

pub length_neighbours : (xs : List ℕ) → length (neighbours xs) ≡ length xs - 1
length_neighbours [] = refl
length_neighbours (x ∷ xs) =
    let less : length (x ∷ xs) - 1 ≡ length xs = omega arith in shifted x xs ∙ sym less

and_true : (b : Bool) → b && true ≡ b
and_true true = refl
and_true false = refl

and_comm : (a b : Bool) → a && b ≡ b && a
and_comm true b = sym (and_true b)
and_comm false true = refl
and_comm false false = refl

pub last_apart : (xs : List ℕ) (r : Bool) → 17 ≤ length xs
    → r ≡ list_all not_both_slashes (take 16 (drop (length xs - 17) (neighbours xs)))
    → r ≡ list_all not_both_slashes (drop (length xs - 17) (neighbours xs)) && true
last_apart xs r long h =
    let ps = neighbours xs in
    let few : length (drop (length xs - 17) ps) ≤ 16 =
    omega (arith, length-drop (length xs - 17) ps, length_neighbours xs) in
    h ∙ ap (list_all not_both_slashes) (take_all 16 (drop (length xs - 17) ps) few)
    ∙ sym (and_true _)

pub few_apart : (xs : List ℕ) (a b : Bool) → 9 ≤ length xs → length xs < 17
    → a ≡ list_all not_both_slashes (take 8 (neighbours xs))
    → b ≡ list_all not_both_slashes (take 8 (drop (length xs - 9) (neighbours xs)))
    → a && b ≡ list_all not_both_slashes (neighbours xs)
few_apart xs a b long short first last =
    let ps = neighbours xs in
    let few : length (drop (length xs - 9) ps) ≤ 8 =
    omega (arith, length-drop (length xs - 9) ps, length_neighbours xs) in
    ap₂ (λ s t. s && t) first
    (last ∙ ap (list_all not_both_slashes) (take_all 8 (drop (length xs - 9) ps) few)) ∙ covered
    not_both_slashes 8 (length xs - 9) ps (omega (arith, short))

pub more_apart : (d : Bool) (ps : List (ℕ × ℕ)) (i : ℕ)
    → (d && list_all not_both_slashes (take i ps))
    && list_all not_both_slashes (take 16 (drop i ps)) ≡ d
    && list_all not_both_slashes (take (i + 16) ps)
more_apart d ps i =
    and_assoc d (list_all not_both_slashes (take i ps))
    (list_all not_both_slashes (take 16 (drop i ps)))
    ∙ ap (λ r. d && r)
    (sym (list_all-append not_both_slashes (take i ps) (take 16 (drop i ps)))
    ∙ ap (list_all not_both_slashes)
    (sym (take-add i 16 ps)))

pub all_apart : (xs : List ℕ) (r : Bool) (i j : ℕ) → j ≤ i
    → r ≡ list_all not_both_slashes (drop j (neighbours xs))
    && list_all not_both_slashes (take i (neighbours xs))
    → r ≡ list_all not_both_slashes (neighbours xs)
all_apart xs r i j le h =
    h ∙ and_comm (list_all not_both_slashes (drop j (neighbours xs)))
    (list_all not_both_slashes (take i (neighbours xs)))
    ∙ covered not_both_slashes i j (neighbours xs) le

-- ---- from neighbours to class names

apart_step : (f : Bool → Bool) (g s : Bool)
    → option_map_or f (cond s (cond g None (Some true)) (cond (true && not s) (Some false) None))
    false ≡ not (g && s) && f s
apart_step f true true = refl
apart_step f true false = refl
apart_step f false true = refl
apart_step f false false = refl

class_step : (g : Bool) (x : ℕ) (xs : List ℕ) → is_no_stop x ≡ true
    → is_class_name_from g (x ∷ xs) ≡ not (g && eqb x slash) && is_class_name_from (eqb x slash) xs
unfolding is_class_name_from name_after
class_step g x xs h =
    ap (λ n. option_map_or (λ after. is_class_name_from after xs)
    (cond (eqb x slash) (cond g None (Some true)) (cond (n && not (eqb x slash)) (Some false) None))
    false) h ∙ apart_step (λ after. is_class_name_from after xs) g (eqb x slash)

from_byte : (p : ℕ) (xs : List ℕ) → list_all is_no_stop xs ≡ true
    → is_class_name_from (eqb p slash) xs ≡ list_all not_both_slashes (neighbours (p ∷ xs))
    && not (eqb (get_or (p ∷ xs) (length xs) 0) slash)
unfolding is_class_name_from
from_byte p [] h = refl
from_byte p (x ∷ xs) h =
    let both = both_true (is_no_stop x) (list_all is_no_stop xs) h in
    class_step (eqb p slash) x xs both.0
    ∙ ap (λ r. not (eqb p slash && eqb x slash) && r) (from_byte x xs both.1)
    ∙ sym (and_assoc (not (eqb p slash && eqb x slash))
    (list_all not_both_slashes (neighbours (x ∷ xs)))
    (not (eqb (get_or (x ∷ xs) (length xs) 0) slash)))

swap : (a b c : Bool) → a && (b && c) ≡ (a && c) && b
swap true true c = shuffle c
  where
    shuffle : (c : Bool) → c ≡ c && true
    shuffle true = refl
    shuffle false = refl
swap true false true = refl
swap true false false = refl
swap false b c = refl

pub names_by_neighbours : (xs : List ℕ) → list_all is_no_stop xs ≡ true → 1 ≤ length xs
    → (not (eqb (get_or xs 0 0) slash) && not (eqb (get_or xs (length xs - 1) 0) slash))
    && list_all not_both_slashes (neighbours xs) ≡ is_class_name xs
unfolding is_class_name
names_by_neighbours [] h long = absurd (omega (arith, long))
names_by_neighbours (x ∷ xs) h long =
    let both = both_true (is_no_stop x) (list_all is_no_stop xs) h in
    let last : length (x ∷ xs) - 1 ≡ length xs = omega arith in
    rw last (sym
    (class_step true x xs both.0 ∙ ap (λ r. not (eqb x slash) && r) (from_byte x xs both.1)
    ∙ swap (not (eqb x slash)) (list_all not_both_slashes (neighbours (x ∷ xs)))
    (not (eqb (get_or (x ∷ xs) (length xs) 0) slash))))

-- ---- after a class name

pub prefix_passes : (p : ℕ → Bool) (xs : List ℕ) → list_all p (take (prefix_len p xs) xs) ≡ true
prefix_passes p [] = refl
prefix_passes p (x ∷ xs) =
    elim (by_head p x xs) [
      | inl on ↦ rw on.1 (rw on.0 (prefix_passes p xs))
      | inr off ↦ rw off.1 refl
    ]

abbrev pub behind_name : Bool → List ℕ → Option (List ℕ)
behind_name named [] = None
behind_name named (b ∷ behind) = cond (eqb b semicolon && named) (Some behind) None

unnamed : (xs : List ℕ) → behind_name false xs ≡ None
unnamed [] = refl
unnamed (b ∷ xs) = by_test (eqb b semicolon)
  where
    by_test : (t : Bool) → cond (t && false) (Some xs) None ≡ None
    by_test true = refl
    by_test false = refl

pub class_by_stop : (g : Bool) (xs : List ℕ)
    → after_class g xs
    ≡ behind_name (is_class_name_from g (take (prefix_len is_no_stop xs) xs))
    (drop (prefix_len is_no_stop xs) xs)
unfolding after_class is_class_name_from
class_by_stop g [] = refl
class_by_stop g (x ∷ xs) =
    elim (by_head is_no_stop x xs) [
      | inl on ↦
          let before =
          both_true (not (x == dot) && not (x == semicolon)) (not (x == bracket)) on.0 in
          let no : eqb x semicolon ≡ false =
          not_true (eqb x semicolon)
          (both_true (not (x == dot)) (not (x == semicolon)) before.0).1 in
          rw (on.1, no) (by_option (name_after g x) (λ after. class_by_stop after xs))
      | inr off ↦ rw (off.1, stop_step g x off.0) (at_stop g (eqb x semicolon))
    ]
  where
    by_option : (o : Option Bool)
        → ((after : Bool)
        → after_class after xs
        ≡ behind_name (is_class_name_from after (take (prefix_len is_no_stop xs) xs))
        (drop (prefix_len is_no_stop xs) xs))
        → option_and_then (λ after. after_class after xs) o
        ≡ behind_name
        (option_map_or (λ after. is_class_name_from after (take (prefix_len is_no_stop xs) xs)) o
        false) (drop (prefix_len is_no_stop xs) xs)
    by_option None on = sym (unnamed (drop (prefix_len is_no_stop xs) xs))
    by_option (Some b) on = on b

    at_stop : (g t : Bool) → cond t (cond g None (Some xs)) None ≡ cond (t && not g) (Some xs) None
    at_stop true true = refl
    at_stop false true = refl
    at_stop true false = refl
    at_stop false false = refl

module _ (xs rest : List ℕ) (split : rest ≡ drop (prefix_len is_no_stop xs) xs) where
  pub nothing_behind : rest ≡ [] → None ≡ after_class true xs
  nothing_behind none =
      sym (class_by_stop true xs ∙ ap
      (behind_name (is_class_name_from true (take (prefix_len is_no_stop xs) xs)))
      (sym split ∙ none))

  pub behind_class : (b : ℕ) (behind : List ℕ) (r : Bool) → rest ≡ b ∷ behind
      → r ≡ is_class_name (take (prefix_len is_no_stop xs) xs)
      → cond (eqb b semicolon && r) (Some behind) None ≡ after_class true xs
  unfolding is_class_name
  behind_class b behind r parts named =
      ap (λ n. cond (eqb b semicolon && n) (Some behind) None) named
      ∙ ap (behind_name (is_class_name_from true (take (prefix_len is_no_stop xs) xs)))
      (sym parts ∙ split)
      ∙ sym (class_by_stop true xs)

  pub class_found : (b : ℕ) (behind : List ℕ) (r : Bool) → rest ≡ b ∷ behind
      → r ≡ is_class_name (take (prefix_len is_no_stop xs) xs) → b ≡ semicolon → r ≡ true
      → Some behind ≡ after_class true xs
  class_found b behind r parts named is ok =
      ap₂ (λ t u. cond (t && u) (Some behind) None) (sym (eq-eqb b semicolon is)) (sym ok) ∙
      behind_class b behind r parts named

  pub class_unnamed : (b : ℕ) (behind : List ℕ) (r : Bool) → rest ≡ b ∷ behind
      → r ≡ is_class_name (take (prefix_len is_no_stop xs) xs) → b ≡ semicolon → r ≡ false
      → None ≡ after_class true xs
  class_unnamed b behind r parts named is ok =
      ap₂ (λ t u. cond (t && u) (Some behind) None) (sym (eq-eqb b semicolon is)) (sym ok) ∙
      behind_class b behind r parts named

  pub class_unended : (b : ℕ) (behind : List ℕ) → rest ≡ b ∷ behind → (b ≡ semicolon → ⊥)
      → None ≡ after_class true xs
  class_unended b behind parts is =
      ap (λ t. cond (t && is_class_name (take (prefix_len is_no_stop xs) xs)) (Some behind) None)
      (sym (ne_eqb b semicolon is)) ∙ behind_class b behind
      (is_class_name (take (prefix_len is_no_stop xs) xs)) parts refl
