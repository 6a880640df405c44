-- Words written one by one, and read.
-- For `write_words`, `extend_from_bytes` and others.
use Rattle.std.proofs.Common.{◌≡◌, ◌<◌, ◌+◌, ◌*◌, ◌/◌, ◌^◌, ℕ, zero, suc, List, [], ◌∷◌, ◌++◌}
use Rattle.std.proofs.Common.{length}
use Rattle.std.proofs.Common.{get_or, take, drop, refl, sym, ◌∙◌, ap, arith, append_assoc}
use Rattle.std.specs.Int.{w64, from_le_bytes}
use Rattle.std.proofs.lemmas.List.{length-append, length-take-le, take_at, drop_at, drop-drop}
use Rattle.std.proofs.lemmas.List.{take_more, append-nil}
use Rattle.std.proofs.lemmas.Nat.{from_le_bytes-to_le_bytes_8}
use Rattle.std.proofs.lemmas.Grind.{flat_map-append}
use Rattle.cm_words.specs.Bytes.{bytes_of, word_bytes, word_from, packed_into}

pub length-bytes_of : (word : ℕ) → length (bytes_of word) ≡ 8
unfolding bytes_of
length-bytes_of word = refl

pub length-word_bytes : (words : List ℕ) → length (word_bytes words) ≡ 8 * length words
length-word_bytes [] = refl
length-word_bytes (w ∷ words) =
    omega (
      arith,
      length-append (bytes_of w) (word_bytes words),
      length-bytes_of w,
      length-word_bytes words,
    )

-- one more word is written
pub write_step : (out start words : List ℕ) (i word : ℕ)
    → out ≡ word_bytes (take i words) ++ drop (8 * i) start → i < length words
    → word ≡ get_or words i 0
    → take (8 * i) out ++ bytes_of word ++ drop (8 * i + 8) out ≡ word_bytes (take (i + 1) words)
    ++ drop (8 * (i + 1)) start
write_step out start words i word e lt ew =
    let done = word_bytes (take i words) in
    let rest = drop (8 * i) start in
    let size : length done ≡ 8 * i = length-word_bytes (take i words) ∙ ap
    (λ n. 8 * n) (length-take-le i words (omega (arith, lt))) in
    let front : take (8 * i) out ≡ done = ap (take (8 * i)) e ∙ take_at done rest (8 * i) size in
    let back : drop (8 * i + 8) out ≡ drop (8 * (i + 1)) start =
    sym (drop-drop 8 (8 * i) out)
    ∙ (ap (drop 8) (ap (drop (8 * i)) e ∙ drop_at done rest (8 * i) size)
    ∙ (drop-drop 8 (8 * i) start ∙ ap (λ n. drop n start) (omega arith))) in
    let more : word_bytes (take (i + 1) words) ≡ done ++ bytes_of word =
    ap word_bytes (take_more words i 0 lt ∙ ap
    (λ w. take i words ++ w ∷ []) (sym ew))
    ∙ (flat_map-append bytes_of (take i words) (word ∷ [])
    ∙ ap (λ w. done ++ w) (append-nil (bytes_of word))) in
    rw (front, back, more) refl

-- ---- words from bytes

pub length-packed_into : (n : ℕ) (bytes : List ℕ) → length (packed_into n bytes) ≡ n
length-packed_into zero bytes = refl
length-packed_into (suc n) bytes = ap suc (length-packed_into n (drop 8 bytes))

-- words of lists that agree in the first eight bytes are the same
pub word_same : (xs ys : List ℕ) → ((k : ℕ) → k < 8 → get_or xs k 0 ≡ get_or ys k 0)
    → from_le_bytes w64 xs ≡ word_from ys
unfolding word_from
word_same xs ys h = let h0 = h 0 (omega arith) in let h1 = h 1 (omega arith) in let h2 =
    h 2 (omega arith) in let h3 = h 3 (omega arith) in
    let h4 = h 4 (omega arith) in let h5 = h 5 (omega arith) in let h6 = h 6 (omega arith) in
    let h7 = h 7 (omega arith) in omega (arith, h0, h1, h2, h3, h4, h5, h6, h7)

-- one word more is taken over
pub pack_on : (words rest after all : List ℕ) (word : ℕ) → after ≡ drop 8 rest
    → length after + 8 ≡ length rest → word ≡ word_from rest
    → words ++ packed_into (length rest / 8) rest ≡ all
    → (words ++ word ∷ []) ++ packed_into (length after / 8) after ≡ all
pack_on words rest after all word after_is long word_is so_far =
    let count : length rest / 8 ≡ suc (length after / 8) = omega (arith, long) in
    append_assoc words (word ∷ []) (packed_into (length after / 8) after)
    ∙ ((λ i. words ++ word_is i ∷ packed_into (length after / 8) (after_is i))
    ∙ (ap (λ (n : ℕ). words ++ packed_into n rest) (sym count) ∙ so_far))

pub pack_ends : (words rest all : List ℕ) → length rest < 8
    → words ++ packed_into (length rest / 8) rest ≡ all → words ≡ all
pack_ends words rest all few so_far =
    let none : length rest / 8 ≡ 0 = omega (arith, few) in
    sym (append-nil words)
    ∙ (ap (λ (n : ℕ). words ++ packed_into n rest) (sym none) ∙ so_far)

-- ---- words from their bytes again

pub word_back : (word : ℕ) → word < 2 ^ 64 → word_from (bytes_of word) ≡ word
unfolding word_from bytes_of
word_back word small = from_le_bytes-to_le_bytes_8 word small

-- after the first eight bytes of a word there may be more
word_in_front : (word : ℕ) (rest : List ℕ)
    → word_from (bytes_of word ++ rest) ≡ word_from (bytes_of word)
unfolding word_from bytes_of
word_in_front word rest = refl

rest_after : (word : ℕ) (rest : List ℕ) → drop 8 (bytes_of word ++ rest) ≡ rest
unfolding bytes_of
rest_after word rest = refl

pub words_back : (words : List ℕ) → ((j : ℕ) → j < length words
    → word_from (bytes_of (get_or words j 0)) ≡ get_or words j 0)
    → packed_into (length words) (word_bytes words) ≡ words
words_back [] back = refl
words_back (w ∷ words) back =
    (λ i. (word_in_front w (word_bytes words) ∙ back 0 (omega arith)) i
    ∷ packed_into (length words) (rest_after w (word_bytes words) i))
    ∙ ap (λ ws. w ∷ ws) (words_back words (λ j small. back (suc j) (omega arith)))
