-- What is read piece by piece.
-- For `read_run`.
use Rattle.std.proofs.Common.{◌≡◌, ◌<◌, ◌≤◌, ◌*◌, ◌-◌, ◌^◌, ℕ, zero, suc, true, false, List}
use Rattle.std.proofs.Common.{[], ◌∷◌, ◌++◌}
use Rattle.std.proofs.Common.{length, take, drop, get_or, min, Option, Some, None, refl, sym, ◌∙◌}
use Rattle.std.proofs.Common.{ap, arith, append_assoc, Fits, w64}
use Rattle.std.specs.Prelude.{◌==◌}
use Rattle.std.proofs.lemmas.List.{take_min, take_all, append-nil}
use Rattle.std.proofs.lemmas.Bool.{eq-eqb, ne_eqb}
use Rattle.cm_record_layout.specs.Packing.{word_from, bytes_of, word_bytes, run_words}
use Rattle.cm_record_reading.specs.Reading.{◌>>=◌, run_from, run_at, with_front}
use Rattle.cm_record_layout.proofs.{length-bytes_of, word_back}

pub with_front-nil : {A B : Type 0} (read : Option (List A × B)) → with_front [] read ≡ read
with_front-nil None = refl
with_front-nil (Some read) = refl

pub with_front-append : {A B : Type 0} (xs ys : List A) (read : Option (List A × B))
    → with_front (xs ++ ys) read ≡ with_front xs (with_front ys read)
with_front-append xs ys None = refl
with_front-append xs ys (Some read) = ap (λ w. Some (w, read.1)) (append_assoc xs ys read.0)

-- reading continues as `do` says
pub go_on : (front : List ℕ) (read : Option (List ℕ × List ℕ))
    → (read >>= λ others. Some (front ++ others.0, others.1)) ≡ with_front front read
go_on front None = refl
go_on front (Some read) = refl

one_more : (left : ℕ) → 0 < left → run_words left ≡ suc (run_words (left - 8))
one_more left some = omega arith

pub run_none : (left : ℕ) → 0 < left → run_at left [] ≡ None
unfolding run_from
run_none left some = rw (one_more left some) refl

whole_front : (left word : ℕ) (front : List ℕ) → front ≡ take (min left 8) (bytes_of word)
    → take left (bytes_of word) ≡ front
whole_front left word front e = sym (e ∙ (ap
    (λ n. take (min left n) (bytes_of word)) (sym (length-bytes_of word))
    ∙ take_min left (bytes_of word)))

pub run_bad : (left word : ℕ) (rest front : List ℕ) → 0 < left
    → front ≡ take (min left 8) (bytes_of word) → (word_from front ≡ word → ⊥)
    → run_at left (word ∷ rest) ≡ None
unfolding run_from
run_bad left word rest front some e other =
    let test : (word_from front == word) ≡ false = ne_eqb (word_from front) word other in
    rw (one_more left some, whole_front left word front e, test) refl

pub run_good : (left word : ℕ) (rest front : List ℕ) → 0 < left
    → front ≡ take (min left 8) (bytes_of word) → word_from front ≡ word
    → run_at left (word ∷ rest) ≡ with_front front (run_at (left - 8) rest)
unfolding run_from
run_good left word rest front some e same =
    let test : (word_from front == word) ≡ true = eq-eqb (word_from front) word same in
    rw (one_more left some, whole_front left word front e, test)
    (go_on front (run_at (left - 8) rest))

-- a whole word may be any
run_whole : (left word : ℕ) (rest : List ℕ) → 8 ≤ left → word < 2 ^ 64
    → run_at left (word ∷ rest) ≡ with_front (bytes_of word) (run_at (left - 8) rest)
run_whole left word rest enough small =
    let all : bytes_of word ≡ take (min left 8) (bytes_of word) =
    sym (take_all (min left 8) (bytes_of word) (omega (arith, length-bytes_of word, enough))) in
    run_good left word rest (bytes_of word) (omega (arith, enough)) all (word_back word small)

-- these are all words of 64 bits
abbrev pub AreSmall : List ℕ → Type 0
AreSmall words = (i : ℕ) → Fits w64 (get_or words i 0)

-- whole words first
pub run_words_first : (n left : ℕ) (words : List ℕ) → n ≤ length words → 8 * n ≤ left
    → AreSmall words
    → run_at left words
    ≡ with_front (word_bytes (take n words)) (run_at (left - 8 * n) (drop n words))
run_words_first zero left words within few small =
    let all : left ≡ left - 8 * 0 = omega arith in
    ap (λ (k : ℕ). run_at k words) all ∙ sym (with_front-nil (run_at (left - 8 * 0) words))
run_words_first (suc n) left [] within few small = absurd (omega (arith, within))
run_words_first (suc n) left (word ∷ words) within few small =
    let rest = run_words_first n (left - 8) words (omega (arith, within)) (omega (arith, few))
    (λ i. small (suc i)) in
    let less : left - 8 - 8 * n ≡ left - 8 * suc n = omega (arith, few) in
    run_whole left word words (omega (arith, few)) (omega (arith, small 0))
    ∙ (ap (with_front (bytes_of word)) rest
    ∙ (sym (with_front-append (bytes_of word) (word_bytes (take n words))
    (run_at (left - 8 - 8 * n) (drop n words)))
    ∙ ap (λ (k : ℕ). with_front (bytes_of word ++ word_bytes (take n words))
    (run_at k (drop n words))) less))

-- too few words
pub run_too_long : (n left : ℕ) (words : List ℕ) → length words < n → 8 * n ≤ left
    → AreSmall words → run_at left words ≡ None
run_too_long zero left words short few small = absurd (omega (arith, short))
run_too_long (suc n) left [] short few small = run_none left (omega (arith, few))
run_too_long (suc n) left (word ∷ words) short few small =
    run_whole left word words (omega (arith, few)) (omega (arith, small 0))
    ∙ ap (with_front (bytes_of word))
    (run_too_long n (left - 8) words (omega (arith, short)) (omega (arith, few))
    (λ i. small (suc i)))

-- ---- the end of a run: none of its bytes are left, or fewer than a word has

pub run_done : (words : List ℕ) → run_at 0 words ≡ Some ([], words)
unfolding run_from
run_done words = refl

abbrev pub behind_first : List ℕ → List ℕ
behind_first words = take (length words - 1) (drop 1 words)

pub run_ends : (left found : ℕ) (words eight : List ℕ) → 0 < left → left < 8 → 1 ≤ length words
    → eight ≡ bytes_of (get_or words 0 0) → found ≡ word_from (take left eight)
    → found ≡ get_or words 0 0
    → run_at left words ≡ Some (take left eight, behind_first words)
run_ends left found [] eight some few long ee ef same = absurd (omega (arith, long))
run_ends left found (w ∷ rest) eight some few long ee ef same =
    let front : take left eight ≡ take (min left 8) (bytes_of w) =
    rw ee (ap (λ (n : ℕ). take n (bytes_of w)) (omega (arith, few))) in
    let none : left - 8 ≡ 0 = omega (arith, few) in
    let behind : behind_first (w ∷ rest) ≡ rest =
    take_all (length (w ∷ rest) - 1) rest (omega arith) in
    run_good left w rest (take left eight) some front (sym ef ∙ same)
    ∙ (ap (λ (n : ℕ). with_front (take left eight) (run_at n rest)) none
    ∙ (ap (with_front (take left eight)) (run_done rest)
    ∙ (λ i. Some (append-nil (take left eight) i, sym behind i))))

pub run_breaks : (left found : ℕ) (words eight : List ℕ) → 0 < left → left < 8 → 1 ≤ length words
    → eight ≡ bytes_of (get_or words 0 0) → found ≡ word_from (take left eight)
    → (found ≡ get_or words 0 0 → ⊥) → run_at left words ≡ None
run_breaks left found [] eight some few long ee ef other = absurd (omega (arith, long))
run_breaks left found (w ∷ rest) eight some few long ee ef other =
    let front : take left eight ≡ take (min left 8) (bytes_of w) =
    rw ee (ap (λ (n : ℕ). take n (bytes_of w)) (omega (arith, few))) in
    run_bad left w rest (take left eight) some front (λ same. other (ef ∙ same))

pub run_stops : (left : ℕ) (words : List ℕ) → 0 < left → length words < 1
    → run_at left words ≡ None
run_stops left [] some short = run_none left some
run_stops left (w ∷ rest) some short = absurd (omega (arith, short))
