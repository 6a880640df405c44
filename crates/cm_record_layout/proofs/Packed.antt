-- Runs, word by word.
-- For `word_of` and others.
use Rattle.std.proofs.Common.{◌≡◌, ◌<◌, ℕ, suc, List, ◌∷◌, length}
use Rattle.std.proofs.Common.{drop, min, refl, ◌∙◌, ap, arith}
use Rattle.std.proofs.lemmas.List.{length-drop, drop_min}
use Rattle.cm_record_layout.specs.Packing.{bytes_of, word_from, packed}
use Rattle.cm_record_layout.specs.Packing.{run_words}
pub use Rattle.cm_words.proofs.{length-packed_into, word_same, word_back}

pub packed_len : (bytes : List ℕ) → length (packed bytes) ≡ run_words (length bytes)
packed_len bytes = length-packed_into (run_words (length bytes)) bytes

-- the run of some bytes is the word of the first eight, and the run of the others
pub packed_more : (bytes : List ℕ) (n : ℕ) → n ≡ min (length bytes) 8 → 0 < length bytes
    → packed bytes ≡ word_from bytes ∷ packed (drop n bytes)
packed_more bytes n e some =
    let others : drop n bytes ≡ drop 8 bytes = ap
    (λ k. drop k bytes) (e ∙ omega arith) ∙ drop_min 8 bytes in
    let count : run_words (length bytes) ≡ suc (run_words (length (drop n bytes))) =
    omega (arith, length-drop n bytes) in
    rw (count, others) refl

pub length-bytes_of : (word : ℕ) → length (bytes_of word) ≡ 8
unfolding bytes_of
length-bytes_of word = refl
