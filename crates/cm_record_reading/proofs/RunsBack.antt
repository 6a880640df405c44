-- A run is read back.
-- For `is_record`, `layout_determines_class`, `spell_class` and others.
use Rattle.std.proofs.Common.{◌≡◌, ◌-◌, ℕ, zero, suc, true, List, [], ◌∷◌, ◌++◌, length, take, drop}
use Rattle.std.proofs.Common.{Some, refl, sym, ap, arith}
use Rattle.std.specs.Prelude.{◌==◌}
use Rattle.std.proofs.lemmas.List.{length-drop, take-append-drop}
use Rattle.std.proofs.lemmas.Bool.{eq-eqb}
use Rattle.cm_class.specs.Spelling.{AreBytes}
use Rattle.cm_record_layout.specs.Packing.{word_from, packed_into, packed, run_words}
use Rattle.cm_record_layout.proofs.{front_back, front_word}
use Rattle.cm_record_reading.specs.Reading.{front_of, run_from, run_at}

pub front_again : (bytes : List ℕ) → AreBytes bytes
    → front_of (length bytes) (word_from bytes) ≡ Some (take 8 bytes)
front_again bytes are =
    let test : (word_from (take 8 bytes) == word_from bytes) ≡ true =
    eq-eqb (word_from (take 8 bytes)) (word_from bytes) (front_word bytes) in
    rw (front_back bytes are, test) refl

drop_bytes : (n : ℕ) (bytes : List ℕ) → AreBytes bytes → AreBytes (drop n bytes)
drop_bytes zero bytes are = are
drop_bytes (suc n) [] are = tt
drop_bytes (suc n) (b ∷ bytes) are = drop_bytes n bytes are.1

run_from_again : (n : ℕ) (bytes rest : List ℕ) → run_words (length bytes) ≡ n → AreBytes bytes
    → run_from n (length bytes) (packed_into n bytes ++ rest) ≡ Some (bytes, rest)
unfolding run_from
run_from_again zero [] rest e are = refl
run_from_again zero (b ∷ bytes) rest e are = absurd (omega arith)
run_from_again (suc n) bytes rest e are =
    let size : length bytes - 8 ≡ length (drop 8 bytes) = sym (length-drop 8 bytes) in
    let fewer : run_words (length (drop 8 bytes)) ≡ n = omega (arith, length-drop 8 bytes) in
    let others = run_from_again n (drop 8 bytes) rest fewer (drop_bytes 8 bytes are) in
    rw (front_again bytes are, size, others) (ap (λ xs. Some (xs, rest)) (take-append-drop 8 bytes))

-- a run is read back, whatever follows it
pub run_again : (bytes rest : List ℕ) → AreBytes bytes
    → run_at (length bytes) (packed bytes ++ rest) ≡ Some (bytes, rest)
run_again bytes rest are = run_from_again (run_words (length bytes)) bytes rest refl are
