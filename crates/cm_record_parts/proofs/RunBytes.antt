-- The bytes of a run, among the bytes of all words.
-- For `utf8_place`, `attribute_at`.
use Rattle.std.proofs.Common.{◌≡◌, ◌≤◌, ◌+◌, ◌-◌, ◌*◌, ℕ, zero, suc, List, [], ◌∷◌, ◌++◌}
use Rattle.std.proofs.Common.{length, take, drop, refl, sym, ◌∙◌, ap, arith, inl, inr}
use Rattle.std.proofs.Common.{append_assoc, drop-drop, length-append}
use Rattle.std.proofs.lemmas.Grind.{flat_map-append}
use Rattle.std.proofs.lemmas.Bool.{cases_lt}
use Rattle.std.proofs.lemmas.List.{length-drop, take-append-drop, take-append-le, take_all, drop_at}
use Rattle.std.proofs.Math.Seq.{take-append-add, drop-nil}
use Rattle.cm_class.specs.Spelling.{AreBytes}
use Rattle.cm_record_layout.specs.Packing.{word_from, bytes_of, word_bytes, packed_into, packed}
use Rattle.cm_record_layout.specs.Packing.{run_words}
use Rattle.cm_record_layout.proofs.{front_back, length-bytes_of, packed_len}
use Rattle.cm_record_parts.specs.declared.places.Place.{Place}
use Rattle.cm_record_parts.specs.Places.{LieAt, no_bytes}

drop_fits : (n : ℕ) (bytes : List ℕ) → AreBytes bytes → AreBytes (drop n bytes)
drop_fits zero bytes are = are
drop_fits (suc n) [] are = tt
drop_fits (suc n) (b ∷ bytes) are = drop_fits n bytes are.1

-- the first bytes of a word and of what follows it
take_across : (n : ℕ) (word behind : List ℕ) → length word ≡ 8
    → take n (word ++ behind) ≡ take n word ++ take (n - 8) behind
take_across n word behind e = elim (cases_lt n 8) [
  | inl lt ↦
      let none : n - 8 ≡ 0 = omega arith in
      take-append-le n word behind (omega (arith, e)) ∙ rw none (sym (append_none (take n word)))
  | inr le ↦
      let parts : length word + (n - 8) ≡ n = omega (arith, e) in
      ap (λ k. take k (word ++ behind)) (sym parts)
      ∙ (take-append-add word behind (n - 8) ∙ ap
      (λ w. w ++ take (n - 8) behind) (sym (take_all n word (omega (arith, e)))))
]
  where
    append_none : (xs : List ℕ) → xs ++ [] ≡ xs
    append_none [] = refl
    append_none (x ∷ xs) = ap (λ ys. x ∷ ys) (append_none xs)

-- a run's bytes, whatever follows
bytes_in_front : (n : ℕ) (xs behind : List ℕ) → run_words (length xs) ≡ n → AreBytes xs
    → take (length xs) (word_bytes (packed_into n xs) ++ behind) ≡ xs
bytes_in_front zero [] behind e are = refl
bytes_in_front zero (b ∷ xs) behind e are = absurd (omega arith)
bytes_in_front (suc n) xs behind e are =
    let word = bytes_of (word_from xs) in
    let others = word_bytes (packed_into n (drop 8 xs)) in
    let size : length (drop 8 xs) ≡ length xs - 8 = length-drop 8 xs in
    let fewer : run_words (length (drop 8 xs)) ≡ n = omega (arith, size) in
    let more = bytes_in_front n (drop 8 xs) behind fewer (drop_fits 8 xs are) in
    ap (take (length xs)) (append_assoc word others behind)
    ∙ (take_across (length xs) word (others ++ behind) (length-bytes_of (word_from xs))
    ∙ ((λ i. front_back xs are i ++ take (sym size i) (others ++ behind))
    ∙ (ap (λ w. take 8 xs ++ w) more ∙ take-append-drop 8 xs)))

-- the bytes of the words from a place on
bytes_from_word : (n : ℕ) (words : List ℕ)
    → drop (8 * n) (word_bytes words) ≡ word_bytes (drop n words)
bytes_from_word zero words = refl
bytes_from_word (suc n) [] = drop-nil (8 * suc n)
bytes_from_word (suc n) (w ∷ words) =
    let swapped : 8 + 8 * n ≡ 8 * suc n = omega arith in
    ap (λ k. drop k (bytes_of w ++ word_bytes words)) (sym swapped)
    ∙ (sym (drop-drop (8 * n) 8 (bytes_of w ++ word_bytes words))
    ∙ (ap (drop (8 * n)) (drop_at (bytes_of w) (word_bytes words) 8 (length-bytes_of w))
    ∙ bytes_from_word n words))

-- if a run's words are at a place, its bytes are there
pub lie_there : (words bytes rest : List ℕ) (at : ℕ) (place : Place) → AreBytes bytes
    → at ≤ length words → drop at words ≡ packed bytes ++ rest
    → place.at ≡ 8 * at → place.len ≡ length bytes → LieAt words place bytes
lie_there words bytes rest at place are inside there ea en = record {
  within =
      omega (
        arith,
        ea,
        en,
        inside,
        length-drop at words,
        ap length there,
        length-append (packed bytes) rest,
        packed_len bytes,
      );
  len = en;
  are =
      (λ i. take (en i) (drop (ea i) (word_bytes words)))
      ∙ (ap (take (length bytes)) (bytes_from_word at words ∙ (ap word_bytes there
      ∙ flat_map-append bytes_of (packed bytes) rest))
      ∙ bytes_in_front (run_words (length bytes)) bytes (word_bytes rest) refl are);
}

-- no bytes lie at every place
pub none_lie : (words : List ℕ) → LieAt words no_bytes []
none_lie words = record { within = omega arith; len = refl; are = refl }
