-- The bytes of a run, one by one.
-- For `cmp_run_to`, `cmp_runs`, `code_in_run`, `u2`.
use Rattle.std.proofs.Common.{◌≡◌, ◌<◌, ◌≤◌, ◌+◌, ◌*◌, ◌/◌, ◌%◌, ℕ, zero, suc, List, length, drop}
use Rattle.std.proofs.Common.{get_or, refl, sym, ◌∙◌, ap, arith, length-drop, drop-drop}
use Rattle.std.proofs.Common.{get_or-take, get_or-drop}
use Rattle.std.proofs.lemmas.List.{get_or_append_left}
use Rattle.cm_class.specs.Spelling.{AreBytes}
use Rattle.cm_class.proofs.{AreBytes-at}
use Rattle.cm_record_layout.specs.Packing.{bytes_of, word_from, packed_into, packed, run_words}
use Rattle.cm_record.specs.declared.run.Run.{Run}
use Rattle.cm_record.specs.Runs.{IsRunOf}
use Rattle.cm_record_layout.proofs.{packed_len, bytes_from, front_back}
use Rattle.cm_record.proofs.RunPlaces.{run_words_there}

packed_at : (n k : ℕ) (bytes : List ℕ) → k < n
    → get_or (packed_into n bytes) k 0 ≡ word_from (drop (8 * k) bytes)
packed_at zero k bytes h = absurd (omega arith)
packed_at (suc n) zero bytes h = refl
packed_at (suc n) (suc k) bytes h =
    let more : 8 + 8 * k ≡ 8 * suc k = omega arith in
    packed_at n k (drop 8 bytes) (omega arith) ∙ ap word_from (drop-drop (8 * k) 8 bytes ∙ ap
    (λ m. drop m bytes) more)

word_byte : (xs : List ℕ) → AreBytes xs → (j : ℕ) → j < 8 → j < length xs
    → get_or (bytes_of (word_from xs)) j 0 ≡ get_or xs j 0
word_byte xs are j lt within =
    sym (get_or-take (length xs) (bytes_of (word_from xs)) j 0 within) ∙ (ap
    (λ l. get_or l j 0) (front_back xs are) ∙ get_or-take 8 xs j 0 lt)

drop_fits : (n : ℕ) (bytes : List ℕ) → AreBytes bytes → AreBytes (drop n bytes)
drop_fits n bytes are = bytes_from (drop n bytes)
    (λ i lt. omega (arith, get_or-drop n bytes i 0, AreBytes-at bytes are (n + i)))

-- a run ends where its words end
pub run_fits : (words : List ℕ) (run : Run) (bytes : List ℕ) → IsRunOf words run bytes
    → 8 * run.at + run.len ≤ 8 * length words
run_fits words run bytes is =
    omega (arith, (run_words_there words run bytes is).0, length-drop run.at words, is.within)

-- byte i of a run
pub byte_there : (words : List ℕ) (run : Run) (bytes : List ℕ) → IsRunOf words run bytes
    → (i : ℕ) → i < run.len
    → get_or (bytes_of (get_or words (run.at + i / 8) 0)) (i % 8) 0 ≡ get_or bytes i 0
byte_there words run bytes is i lt =
    let k = i / 8 in
    let j = i % 8 in
    let whole : 8 * k + j ≡ i = omega arith in
    let size = packed_len bytes in
    let inside : k < length (packed bytes) = omega (arith, size, is.count) in
    let word : get_or words (run.at + k) 0 ≡ word_from (drop (8 * k) bytes) =
    sym (get_or-drop run.at words k 0) ∙ (ap
    (λ w. get_or w k 0) is.split
    ∙ (get_or_append_left (packed bytes) is.rest 0 k inside
    ∙ packed_at (run_words (length bytes)) k bytes (omega (arith, size)))) in
    ap (λ w. get_or (bytes_of w) j 0) word
    ∙ (word_byte (drop (8 * k) bytes) (drop_fits (8 * k) bytes is.fits) j (omega arith)
    (omega (arith, length-drop (8 * k) bytes, is.count, whole))
    ∙ (get_or-drop (8 * k) bytes j 0 ∙ ap (λ n. get_or bytes n 0) whole))

-- if the first words of two runs are the same, so are their bytes
pub same_in_runs : (words others : List ℕ) (run other : Run) (xs ys : List ℕ)
    → IsRunOf words run xs → IsRunOf others other ys
    → (n : ℕ) → 8 * n ≤ run.len → 8 * n ≤ other.len
    → ((k : ℕ) → k < n → get_or (drop run.at words) k 0 ≡ get_or (drop other.at others) k 0)
    → (i : ℕ) → i < 8 * n → get_or xs i 0 ≡ get_or ys i 0
same_in_runs words others run other xs ys of_xs of_ys n le also same i lt =
    let k = i / 8 in
    let word : get_or words (run.at + k) 0 ≡ get_or others (other.at + k) 0 =
    sym (get_or-drop run.at words k 0) ∙ (same k (omega arith) ∙ get_or-drop other.at others k 0) in
    sym (byte_there words run xs of_xs i (omega arith))
    ∙ (ap (λ w. get_or (bytes_of w) (i % 8) 0) word
    ∙ byte_there others other ys of_ys i (omega arith))

-- if the first words of a run are made from these bytes, its bytes are these
pub same_in_run : (words : List ℕ) (run : Run) (xs ys : List ℕ) → IsRunOf words run xs → AreBytes ys
    → (n : ℕ) → 8 * n ≤ run.len → 8 * n ≤ length ys
    → ((k : ℕ) → k < n → get_or (drop run.at words) k 0 ≡ word_from (drop (8 * k) ys))
    → (i : ℕ) → i < 8 * n → get_or xs i 0 ≡ get_or ys i 0
same_in_run words run xs ys of_xs are n le also same i lt =
    let k = i / 8 in
    let j = i % 8 in
    let whole : 8 * k + j ≡ i = omega arith in
    let word : get_or words (run.at + k) 0 ≡ word_from (drop (8 * k) ys) =
    sym (get_or-drop run.at words k 0) ∙ same k (omega arith) in
    sym (byte_there words run xs of_xs i (omega arith))
    ∙ (ap (λ w. get_or (bytes_of w) j 0) word
    ∙ (word_byte (drop (8 * k) ys) (drop_fits (8 * k) ys are) j (omega arith)
    (omega (arith, length-drop (8 * k) ys, whole))
    ∙ (get_or-drop (8 * k) ys j 0 ∙ ap (λ m. get_or ys m 0) whole)))
