-- A choice always yields an image, and every image is the result of some choice.
-- For `Medium::image`, `chosen_is_an_image`, `image_has_a_choice`.
use Rattle.std.proofs.Common.{◌≡◌, ◌<◌, ◌≤◌, ◌+◌, ℕ, zero, suc, Bool, true, false, cond, List}
use Rattle.std.proofs.Common.{length}
use Rattle.std.proofs.Common.{add-one, ◌-◌, get_or, refl, sym, ◌∙◌, ap, subst, ⊎_elim, arith}
use Rattle.std.specs.Prelude.{◌||◌, ◌++◌, [], ◌∷◌, nat_le}
use Rattle.std.proofs.lemmas.Bool.{false≢true, lt-leb, leb-false, or_parts, cases_lt}
use Rattle.std.proofs.lemmas.List.{get_or_append_left, length-append, get_or_default, get_or_past}
use Rattle.std.proofs.lemmas.List.{get_or-append_right}
use Rattle.std.proofs.Math.Seq.{get_or-append_seam}
use Rattle.cm_disk.specs.Disk.{Unsynced, IsBytes, IsImage, IsSound}
use Rattle.cm_disk.specs.Chosen.{is_loose, loose_before, chosen_byte, IsChosen}

-- a byte of a list of bytes, or another byte
or_byte : (fill : List ℕ) (j d : ℕ) → IsBytes fill → d < 256 → get_or fill j d < 256
or_byte fill j d are lt =
    ⊎_elim
    (λ inside. subst (λ (b : ℕ). b < 256) (sym (get_or_default fill j d 0 inside)) (are j inside))
    (λ past. subst (λ (b : ℕ). b < 256) (sym (get_or_past fill j d past)) lt)
    (cases_lt j (length fill))

pub byte_of : (contents : List ℕ) (i : ℕ) → IsBytes contents → get_or contents i 0 < 256
byte_of contents i are = or_byte contents i 0 are (omega arith)

either_byte : (b : Bool) (x y : ℕ) → x < 256 → y < 256 → cond b x y < 256
either_byte true x y lx ly = lx
either_byte false x y lx ly = ly

pub chosen_is_byte : (contents : List ℕ) (unsynced : Unsynced) (fill : List ℕ) (i : ℕ)
    → IsBytes contents → IsBytes fill → chosen_byte contents unsynced fill i < 256
chosen_is_byte contents unsynced fill i now are =
    either_byte (is_loose unsynced i) (get_or fill (loose_before unsynced i) (get_or contents i 0))
    (get_or contents i 0)
    (or_byte fill (loose_before unsynced i) (get_or contents i 0) are (byte_of contents i now))
    (byte_of contents i now)

-- a position that isn't unsynced keeps its byte
kept : (b : Bool) (x y : ℕ) → b ≡ false → cond b x y ≡ y
kept true x y e = absurd (false≢true (sym e))
kept false x y e = refl

neither : (a b : Bool) → a ≡ false → b ≡ false → (a || b) ≡ false
neither true b e f = absurd (false≢true (sym e))
neither false b e f = f

pub early_closed : (unsynced : Unsynced) (i : ℕ) → i < unsynced.least → unsynced.is_open i ≡ false
    → is_loose unsynced i ≡ false
early_closed unsynced i lt closed =
    neither (unsynced.is_open i) (nat_le unsynced.least i) closed (lt-leb unsynced.least i lt)

pub chosen_image : (contents fill image : List ℕ) (unsynced : Unsynced) (len : ℕ)
    → IsSound contents unsynced → IsBytes fill → IsChosen contents unsynced len fill image
    → IsImage contents unsynced image
chosen_image contents fill image unsynced len sound are chosen = record {
  no_shorter = omega (arith, chosen.size);
  no_longer = omega (arith, chosen.size, sound.least, sound.greatest);
  bytes = λ i lt.
      subst (λ (b : ℕ). b < 256) (sym (chosen.bytes i lt))
      (chosen_is_byte contents unsynced fill i sound.bytes are);
  same = λ i lt closed.
      chosen.bytes i (omega (arith, chosen.size, lt))
      ∙ kept (is_loose unsynced i)
      (get_or fill (loose_before unsynced i) (get_or contents i 0)) (get_or contents i 0)
      (early_closed unsynced i lt closed);
}

-- the bytes of an image at the unsynced positions before a position
abbrev pub one_if : Bool → ℕ → List ℕ
one_if true x = x ∷ []
one_if false x = []

abbrev pub picked : Unsynced → List ℕ → ℕ → List ℕ
picked unsynced image zero = []
picked unsynced image (suc i) =
    picked unsynced image i ++ one_if (is_loose unsynced i) (get_or image i 0)

length_one : (b : Bool) (x : ℕ) → length (one_if b x) ≡ cond b 1 0
length_one true x = refl
length_one false x = refl

pub length_picked : (unsynced : Unsynced) (image : List ℕ) (n : ℕ)
    → length (picked unsynced image n) ≡ loose_before unsynced n
length_picked unsynced image zero = refl
length_picked unsynced image (suc i) =
    length-append (picked unsynced image i) (one_if (is_loose unsynced i) (get_or image i 0))
    ∙ omega (
      arith,
      length_picked unsynced image i,
      length_one (is_loose unsynced i) (get_or image i 0),
    )

-- one byte for each unsynced position
few : (b : Bool) → cond b 1 0 ≤ 1
few true = omega arith
few false = omega arith

pub loose_few : (unsynced : Unsynced) (n : ℕ) → loose_before unsynced n ≤ n
loose_few unsynced zero = omega arith
loose_few unsynced (suc i) =
    omega (arith, loose_few unsynced i, few (is_loose unsynced i))

one_more : (b : Bool) → b ≡ true → ◌≡◌ {A = ℕ} (cond b 1 0) 1
one_more true e = refl
one_more false e = absurd (false≢true e)

pub loose_grow : (unsynced : Unsynced) (i n : ℕ) → i < n → is_loose unsynced i ≡ true
    → loose_before unsynced i < loose_before unsynced n
loose_grow unsynced i zero lt e = absurd (omega arith)
loose_grow unsynced i (suc n) lt e =
    ⊎_elim
    (λ below. let grown = loose_grow unsynced i n below e in omega arith)
    (λ past. let here : i ≡ n = omega arith in
    subst (λ (k : ℕ). loose_before unsynced i < loose_before unsynced (suc k)) here
    (omega (arith, one_more (is_loose unsynced i) e)))
    (cases_lt i n)

one_true : (b : Bool) (x : ℕ) → b ≡ true → one_if b x ≡ x ∷ []
one_true true x e = refl
one_true false x e = absurd (false≢true e)

-- an unsynced position has the byte that was picked for it
pub picked_there : (unsynced : Unsynced) (image : List ℕ) (n i d : ℕ) → i < n
    → is_loose unsynced i ≡ true
    → get_or (picked unsynced image n) (loose_before unsynced i) d ≡ get_or image i 0
picked_there unsynced image zero i d lt e = absurd (omega arith)
picked_there unsynced image (suc n) i d lt e =
    ⊎_elim
    (λ below. get_or_append_left (picked unsynced image n)
    (one_if (is_loose unsynced n) (get_or image n 0)) d (loose_before unsynced i)
    (omega (arith, length_picked unsynced image n, loose_grow unsynced i n below e))
    ∙ picked_there unsynced image n i d below e)
    (λ past. let here : n ≡ i = omega arith in
    rw here (last unsynced image i d e))
    (cases_lt i n)
  where
    last : (unsynced : Unsynced) (image : List ℕ) (i d : ℕ) → is_loose unsynced i ≡ true
        → get_or (picked unsynced image i ++ one_if (is_loose unsynced i) (get_or image i 0))
        (loose_before unsynced i) d ≡ get_or image i 0
    last unsynced image i d e =
        rw (one_true (is_loose unsynced i) (get_or image i 0) e, ← length_picked unsynced image i)
        (get_or-append_seam (picked unsynced image i) (get_or image i 0) [] d)

-- the same at each position
takes : (b : Bool) (x y z : ℕ) → (b ≡ true → y ≡ x) → (b ≡ false → z ≡ x) → x ≡ cond b y z
takes true x y z loose closed = sym (loose refl)
takes false x y z loose closed = sym (closed refl)

not_past : (unsynced : Unsynced) (i : ℕ) → is_loose unsynced i ≡ false → i < unsynced.least
not_past unsynced i e =
    leb-false unsynced.least i (or_parts (unsynced.is_open i) (nat_le unsynced.least i) e).1

pub chosen_by_picked : (contents image : List ℕ) (unsynced : Unsynced)
    → IsImage contents unsynced image
    → IsChosen contents unsynced (length image) (picked unsynced image (length image)) image
chosen_by_picked contents image unsynced is = record {
  size = omega (arith, is.no_shorter, is.no_longer);
  bytes = λ i lt.
      takes (is_loose unsynced i) (get_or image i 0)
      (get_or (picked unsynced image (length image)) (loose_before unsynced i)
      (get_or contents i 0)) (get_or contents i 0)
      (λ loose. picked_there unsynced image (length image) i (get_or contents i 0) lt loose)
      (λ closed. sym (is.same i (not_past unsynced i closed)
      (or_parts (unsynced.is_open i) (nat_le unsynced.least i) closed).0));
}

-- what is picked are bytes
one_byte : (b : Bool) (x i : ℕ) → x < 256 → i < length (one_if b x) → get_or (one_if b x) i 0 < 256
one_byte true x i lt inside = let here : i ≡ 0 = omega arith in rw here lt
one_byte false x i lt inside = absurd (omega arith)

pub picked_bytes : (unsynced : Unsynced) (image : List ℕ) (n : ℕ) → IsBytes image
    → IsBytes (picked unsynced image n)
picked_bytes unsynced image zero are = λ i lt. absurd (omega arith)
picked_bytes unsynced image (suc n) are = λ i lt.
    let front = picked unsynced image n in
    let back = one_if (is_loose unsynced n) (get_or image n 0) in
    ⊎_elim
    (λ inside. subst (λ (b : ℕ). b < 256) (sym (get_or_append_left front back 0 i inside))
    (picked_bytes unsynced image n are i inside))
    (λ past. subst (λ (b : ℕ). b < 256)
    (sym (get_or-append_right front back (length front) i 0 refl past))
    (one_byte (is_loose unsynced n) (get_or image n 0) (i - length front)
    (byte_of image n are) (omega (arith, length-append front back))))
    (cases_lt i (length front))

-- ---- making an image, byte by byte
abbrev pub AllChosen : List ℕ → Unsynced → List ℕ → List ℕ → Type 0
AllChosen contents unsynced fill image =
    (i : ℕ) → i < length image → get_or image i 0 ≡ chosen_byte contents unsynced fill i

pub one_chosen : (contents : List ℕ) (unsynced : Unsynced) (fill image : List ℕ) (at byte : ℕ)
    → length image ≡ at → AllChosen contents unsynced fill image
    → byte ≡ chosen_byte contents unsynced fill at
    → AllChosen contents unsynced fill (image ++ byte ∷ [])
one_chosen contents unsynced fill image at byte size chosen e = λ i lt.
    ⊎_elim
    (λ inside. get_or_append_left image (byte ∷ []) 0 i inside ∙ chosen i inside)
    (λ past. let here : length image ≡ i = omega (arith, length-append image (byte ∷ [])) in
    rw (← here) (get_or-append_seam image byte [] 0 ∙ e
    ∙ ap (chosen_byte contents unsynced fill) (sym size)))
    (cases_lt i (length image))

pub loose_byte : (contents : List ℕ) (unsynced : Unsynced) (fill : List ℕ) (at filled now : ℕ)
    → filled ≡ loose_before unsynced at → now ≡ get_or contents at 0 → is_loose unsynced at ≡ true
    → get_or fill filled now ≡ chosen_byte contents unsynced fill at
loose_byte contents unsynced fill at filled now f n e =
    rw (f, n) (takes (is_loose unsynced at)
    (get_or fill (loose_before unsynced at) (get_or contents at 0))
    (get_or fill (loose_before unsynced at) (get_or contents at 0)) (get_or contents at 0)
    (λ _. refl) (λ closed. absurd (false≢true (sym closed ∙ e))))

pub closed_byte : (contents : List ℕ) (unsynced : Unsynced) (fill : List ℕ) (at now : ℕ)
    → now ≡ get_or contents at 0 → is_loose unsynced at ≡ false
    → now ≡ chosen_byte contents unsynced fill at
closed_byte contents unsynced fill at now n e =
    rw n (sym (kept (is_loose unsynced at)
    (get_or fill (loose_before unsynced at) (get_or contents at 0)) (get_or contents at 0) e))

pub loose_more : (unsynced : Unsynced) (at : ℕ) → is_loose unsynced at ≡ true
    → loose_before unsynced (at + 1) ≡ loose_before unsynced at + 1
loose_more unsynced at e = rw add-one (omega (arith, one_more (is_loose unsynced at) e))

none_more : (b : Bool) → b ≡ false → ◌≡◌ {A = ℕ} (cond b 1 0) 0
none_more true e = absurd (false≢true (sym e))
none_more false e = refl

pub loose_same : (unsynced : Unsynced) (at : ℕ) → is_loose unsynced at ≡ false
    → loose_before unsynced (at + 1) ≡ loose_before unsynced at
loose_same unsynced at e = rw add-one (omega (arith, none_more (is_loose unsynced at) e))

-- one more byte, at an unsynced position or at another
module _ (contents : List ℕ) (unsynced : Unsynced) (fill image image' : List ℕ) (at now : ℕ)
    (size : length image ≡ at) (chosen : AllChosen contents unsynced fill image)
    (is_now : now ≡ get_or contents at 0) where
  pub size_more : (byte : ℕ) → image' ≡ image ++ byte ∷ [] → length image' ≡ at + 1
  size_more byte e = ap length e ∙ length-append image (byte ∷ []) ∙ omega (arith, size)

  pub chosen_loose : (filled : ℕ) → filled ≡ loose_before unsynced at → is_loose unsynced at ≡ true
      → image' ≡ image ++ get_or fill filled now ∷ [] → AllChosen contents unsynced fill image'
  chosen_loose filled f loose e =
      subst (AllChosen contents unsynced fill) (sym e)
      (one_chosen contents unsynced fill image at (get_or fill filled now) size chosen
      (loose_byte contents unsynced fill at filled now f is_now loose))

  pub chosen_closed : is_loose unsynced at ≡ false → image' ≡ image ++ now ∷ []
      → AllChosen contents unsynced fill image'
  chosen_closed closed e =
      subst (AllChosen contents unsynced fill) (sym e)
      (one_chosen contents unsynced fill image at now size chosen
      (closed_byte contents unsynced fill at now is_now closed))
