-- The bytes of words, one by one, and bytes that are compared.
-- For `byte_at`, `lies_at`, `is_utf8`.
use Rattle.std.proofs.Common.{◌≡◌, ◌<◌, ◌+◌, ◌-◌, ◌*◌, ℕ, zero, suc, Bool, true, false}
use Rattle.std.proofs.Common.{List, [], ◌∷◌, ◌++◌, length, drop, get_or, refl, sym, ◌∙◌, ap}
use Rattle.std.proofs.Common.{arith, get_or-drop, get_or-take}
use Rattle.std.specs.Prelude.{bytes_eq}
use Rattle.std.specs.Bool.{Decides}
use Rattle.std.proofs.lemmas.List.{get_or_append_left, get_or-append_right, get_or-replicate}
use Rattle.std.proofs.lemmas.List.{ext_get_or}
use Rattle.std.proofs.lemmas.Slice.Eq.{bytes_eq-Decides}
use Rattle.cm_record_layout.specs.Packing.{bytes_of, word_bytes}
use Rattle.cm_record_layout.proofs.{length-bytes_of}
use Rattle.cm_record_parts.specs.declared.places.Place.{Place}
use Rattle.cm_record_parts.specs.Places.{LieAt}

zero_byte : (j : ℕ) → j < 8 → get_or (bytes_of 0) j 0 ≡ 0
unfolding bytes_of
zero_byte j lt = get_or-replicate 8 j 0 0 lt

-- byte j of word k
pub word_byte : (words : List ℕ) (k j : ℕ) → j < 8
    → get_or (bytes_of (get_or words k 0)) j 0 ≡ get_or (word_bytes words) (8 * k + j) 0
word_byte [] k j lt = zero_byte j lt
word_byte (w ∷ words) zero j lt =
    let same : 8 * 0 + j ≡ j = omega arith in
    sym (ap (λ n. get_or (bytes_of w ++ word_bytes words) n 0) same
    ∙ get_or_append_left (bytes_of w) (word_bytes words) 0 j (omega (arith, length-bytes_of w)))
word_byte (w ∷ words) (suc k) j lt =
    let less : 8 * suc k + j - 8 ≡ 8 * k + j = omega arith in
    word_byte words k j lt ∙ sym (get_or-append_right (bytes_of w) (word_bytes words) 8
    (8 * suc k + j) 0 (length-bytes_of w) (omega arith)
    ∙ ap (λ n. get_or (word_bytes words) n 0) less)

-- a byte of those at a place
pub byte_there : (words : List ℕ) (place : Place) (own : List ℕ) → LieAt words place own
    → (i : ℕ) → i < place.len → get_or (word_bytes words) (place.at + i) 0 ≡ get_or own i 0
byte_there words place own lies i lt =
    sym (get_or-drop place.at (word_bytes words) i 0)
    ∙ (sym (get_or-take place.len (drop place.at (word_bytes words)) i 0 lt)
    ∙ ap (λ l. get_or l i 0) lies.are)

no_by : {P : Type 0} (b : Bool) → Decides b P → (P → ⊥) → false ≡ b
no_by true d none = absurd (none (d.0 refl))
no_by false d none = refl

pub differ : (xs ys : List ℕ) → (xs ≡ ys → ⊥) → false ≡ bytes_eq xs ys
differ xs ys none = no_by (bytes_eq xs ys) (bytes_eq-Decides xs ys) none

pub agree : (xs ys : List ℕ) → length xs ≡ length ys
    → ((i : ℕ) → i < length xs → get_or xs i 0 ≡ get_or ys i 0) → true ≡ bytes_eq xs ys
agree xs ys size same = sym ((bytes_eq-Decides xs ys).1 (ext_get_or 0 xs ys size same))
