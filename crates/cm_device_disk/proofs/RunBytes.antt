-- Words that were read are those of the contents that they are put into, one run after another.
-- For `History::of_opened`, `OpenedDevice::read_words`, `read_runs`.
use Rattle.std.proofs.Common.{Bool, false, get_or}
use Rattle.std.proofs.Common.{◌≡◌, ◌<◌, ◌≤◌, ◌+◌, ◌-◌, ◌*◌, ◌^◌, ℕ, zero, suc, List, [], ◌∷◌, ◌++◌}
use Rattle.std.proofs.Common.{length, take, drop, map, true, Option, Some, None}
use Rattle.std.proofs.Common.{refl, sym, ◌∙◌, ap, subst, arith, length-append, length-drop}
use Rattle.std.proofs.Common.{⊎_elim, ◌⊎◌, inl, inr}
use Rattle.std.specs.Prelude.{nat_le}
use Rattle.std.specs.List.{All, AllByRecursion}
use Rattle.std.proofs.lemmas.Bool.{and_parts, cases_lt, leb-true, le-leb, lt-leb}
use Rattle.std.proofs.lemmas.List.{take-take, drop-take, get_or_append_left}
use Rattle.std.proofs.lemmas.List.{get_or-take, get_or-drop, length-take, map-append}
use Rattle.std.proofs.Math.Seq.{drop-cons, get_or-append_right, take-suc}
use Rattle.std.proofs.Math.Numerals.{add-one}
use Rattle.cm_words.specs.Words.{Words, words_of}
use Rattle.cm_words.specs.Bytes.{bytes_of, word_bytes, packed_into}
use Rattle.cm_words.proofs.{length-word_bytes}
use Rattle.cm_disk.specs.Disk.{IsBytes}
use Rattle.cm_disk.specs.Calls.{overwritten, words_in, IsTorn}
use Rattle.cm_disk.specs.declared.disk.WordRange.{WordRange}
use Rattle.cm_device_disk.specs.declared.word_run.WordRun.{WordRun}
use Rattle.cm_device_disk.specs.Runs.{run_count, range_of, are_ranges, IsFull, IsOf, TellsWords}
use Rattle.cm_device_disk.specs.Runs.{EndsInLimit, InOrder}
use Rattle.cm_device_disk.specs.Runs.{with_words, with_runs}

-- ---- bytes

pub both_bytes : (front back : List ℕ) → IsBytes front → IsBytes back → IsBytes (front ++ back)
both_bytes front back one two i lt =
    ⊎_elim
    (λ inside. subst (λ (b : ℕ). b < 256) (sym (get_or_append_left front back 0 i inside))
    (one i inside))
    (λ past. subst (λ (b : ℕ). b < 256)
    (sym (get_or-append_right front back i 0 past))
    (two (i - length front) (omega (arith, length-append front back))))
    (cases_lt i (length front))

word_small : (word : ℕ) → IsBytes (bytes_of word)
unfolding bytes_of
word_small word zero lt = omega arith
word_small word (suc zero) lt = omega arith
word_small word (suc (suc zero)) lt = omega arith
word_small word (suc (suc (suc zero))) lt = omega arith
word_small word (suc (suc (suc (suc zero)))) lt = omega arith
word_small word (suc (suc (suc (suc (suc zero))))) lt = omega arith
word_small word (suc (suc (suc (suc (suc (suc zero)))))) lt = omega arith
word_small word (suc (suc (suc (suc (suc (suc (suc zero))))))) lt = omega arith
word_small word (suc (suc (suc (suc (suc (suc (suc (suc i)))))))) lt = absurd (omega arith)

words_small : (words : List ℕ) → IsBytes (word_bytes words)
words_small [] i lt = absurd (omega arith)
words_small (w ∷ words) i lt =
    both_bytes (bytes_of w) (word_bytes words) (word_small w) (words_small words) i lt

taken_bytes : (n : ℕ) (old : List ℕ) → IsBytes old → IsBytes (take n old)
taken_bytes n old are i lt =
    let few : i < n = omega (arith, lt, length-take n old) in
    let within : i < length old = omega (arith, lt, length-take n old) in
    subst (λ (b : ℕ). b < 256) (sym (get_or-take n old i 0 few)) (are i within)

dropped_bytes : (n : ℕ) (old : List ℕ) → IsBytes old → IsBytes (drop n old)
dropped_bytes n old are i lt =
    subst (λ (b : ℕ). b < 256) (sym (get_or-drop n old i 0))
    (are (n + i) (omega (arith, lt, length-drop n old)))

overwritten_bytes : (at : ℕ) (bytes old : List ℕ) → IsBytes bytes → IsBytes old
    → IsBytes (overwritten at bytes old)
overwritten_bytes at bytes old one two =
    both_bytes (take at old ++ bytes) (drop (at + length bytes) old)
    (both_bytes (take at old) bytes (taken_bytes at old two) one)
    (dropped_bytes (at + length bytes) old two)

-- ---- ranges

pub ranges_end : (from len : ℕ) (ranges : List WordRange) → are_ranges from len ranges ≡ true
    → from ≤ len
ranges_end from len [] e = leb-true from len e
ranges_end from len (r ∷ ranges) e =
    let h = and_parts (nat_le from r.at) (are_ranges (r.at + 8 * r.count) len ranges) e in
    omega (arith, leb-true from r.at h.0, ranges_end (r.at + 8 * r.count) len ranges h.1)

ranges_begin : (from len : ℕ) (runs : List WordRun)
    → are_ranges from len (map range_of runs) ≡ true
    → (j : ℕ) (d : WordRun) → j < length runs → from ≤ (get_or runs j d).at
ranges_begin from len [] e j d lt = absurd (omega arith)
ranges_begin from len (r ∷ runs) e zero d lt =
    let end = r.at + 8 * run_count r.words in
    let h = and_parts (nat_le from r.at) (are_ranges end len (map range_of runs)) e in
    leb-true from r.at h.0
ranges_begin from len (r ∷ runs) e (suc j) d lt =
    let end = r.at + 8 * run_count r.words in
    let h = and_parts (nat_le from r.at) (are_ranges end len (map range_of runs)) e in
    omega (
      arith,
      leb-true from r.at h.0,
      ranges_begin end len runs h.1 j d (omega arith),
    )

-- ranges that lie one after another are in the order of their places
pub ranges_in_order : (from len : ℕ) (runs : List WordRun)
    → are_ranges from len (map range_of runs) ≡ true → InOrder runs
ranges_in_order from len [] e i j d le lt = absurd (omega arith)
ranges_in_order from len (r ∷ runs) e zero zero d le lt = omega arith
ranges_in_order from len (r ∷ runs) e zero (suc j) d le lt =
    let end = r.at + 8 * run_count r.words in
    let h = and_parts (nat_le from r.at) (are_ranges end len (map range_of runs)) e in
    omega (arith, ranges_begin end len runs h.1 j d (omega arith))
ranges_in_order from len (r ∷ runs) e (suc i) zero d le lt = absurd (omega arith)
ranges_in_order from len (r ∷ runs) e (suc i) (suc j) d le lt =
    let end = r.at + 8 * run_count r.words in
    let h = and_parts (nat_le from r.at) (are_ranges end len (map range_of runs)) e in
    ranges_in_order end len runs h.1 i j d (omega arith) (omega arith)

-- ---- one run

abbrev pub ReadsBack : Type 0
ReadsBack = (at : ℕ) (bytes old : List ℕ) → at ≤ length old
    → (take (length bytes) (drop at (overwritten at bytes old)) ≡ bytes)
    × IsTorn at (length bytes) old (overwritten at bytes old)

record IsPut (at : ℕ) (run : Option Words) (old new : List ℕ) : Type 0 where
  pub size : length new ≡ length old
  pub bytes : IsBytes new
  pub front : take at new ≡ take at old
  pub words : (later : List ℕ)
      → take (at + 8 * run_count run) later ≡ take (at + 8 * run_count run) new
      → IsOf later (record { at = at; words = run })

put : ReadsBack → (at : ℕ) (words : Option Words) (old : List ℕ)
    → at + 8 * run_count words ≤ length old → IsBytes old
    → IsFull (record { at = at; words = words })
    → TellsWords (record { at = at; words = words })
    → IsPut at words old (with_words at words old)
put back at None old fits are full tells = record {
  size = refl;
  bytes = are;
  front = refl;
  words = λ later same w e. absurd (cc);
}
put back at (Some w) old fits are full tells =
    let bytes = word_bytes w.words in
    let new = overwritten at bytes old in
    let n = length w.words in
    let long : length bytes ≡ 8 * n = length-word_bytes w.words in
    let b = back at bytes old (omega (arith, fits)) in
    let torn = b.1 in
    record {
      size = omega (arith, torn.no_shorter, torn.no_longer, long, fits);
      bytes = overwritten_bytes at bytes old (words_small w.words) are;
      front = torn.before;
      words = λ later same v e.
          let is : v ≡ w = cc in
          let there : take (8 * n) (drop at later) ≡ bytes =
          sym (drop-take at (8 * n) later)
          ∙ (ap (drop at) same
          ∙ (drop-take at (8 * n) new
          ∙ (ap (λ (k : ℕ). take k (drop at new)) (sym long) ∙ b.0))) in
          let words : words_in at n later ≡ w.words =
          ap (packed_into n) there ∙ tells w refl in
          subst (λ (u : Words). u ≡ words_of (words_in at (length u.words) later) (length u.words))
          (sym is) (full w refl ∙ ap (λ (l : List ℕ). words_of l n) (sym words));
    }

-- ---- all runs

pub record ArePut (from : ℕ) (runs : List WordRun) (old new : List ℕ) : Type 0 where
  pub size : length new ≡ length old
  pub bytes : IsBytes new
  pub front : take from new ≡ take from old
  pub words : AllByRecursion (IsOf new) runs

pub runs_put : ReadsBack → (from : ℕ) (runs : List WordRun) (old : List ℕ)
    → are_ranges from (length old) (map range_of runs) ≡ true → IsBytes old
    → AllByRecursion IsFull runs → AllByRecursion TellsWords runs
    → ArePut from runs old (with_runs runs old)
runs_put back from [] old ranges are full tells = record {
  size = refl;
  bytes = are;
  front = refl;
  words = tt;
}
runs_put back from (r ∷ runs) old ranges are full tells =
    let n = run_count r.words in
    let end = r.at + 8 * n in
    let others = map range_of runs in
    let h = and_parts (nat_le from r.at) (are_ranges end (length old) others) ranges in
    let before : from ≤ r.at = leb-true from r.at h.0 in
    let p = put back r.at r.words old (ranges_end end (length old) others h.1) are full.0 tells.0 in
    let one = with_words r.at r.words old in
    let new = with_runs runs one in
    let rest = runs_put back end runs one
    (subst (λ (k : ℕ). are_ranges end k others ≡ true) (sym p.size) h.1) p.bytes full.1 tells.1 in
    record {
      size = rest.size ∙ p.size;
      bytes = rest.bytes;
      front = sym (take-take from end new (omega (arith, before)))
          ∙ (ap (take from) rest.front
          ∙ (take-take from end one (omega (arith, before))
          ∙ (sym (take-take from r.at one before)
          ∙ (ap (take from) p.front ∙ take-take from r.at old before))));
      words = (p.words new rest.front, rest.words);
    }

-- ---- ranges

-- each range of a file ends where the file may
pub ranges_within : (from len : ℕ) (ranges : List WordRange) → are_ranges from len ranges ≡ true
    → len ≤ 2 ^ 40 → AllByRecursion EndsInLimit ranges
ranges_within from len [] e short = tt
ranges_within from len (r ∷ ranges) e short =
    let h = and_parts (nat_le from r.at) (are_ranges (r.at + 8 * r.count) len ranges) e in
    let end = ranges_end (r.at + 8 * r.count) len ranges h.1 in
    (omega (arith, end, short), ranges_within (r.at + 8 * r.count) len ranges h.1 short)

-- where no words were read
pub none_read : (from len : ℕ) (runs : List WordRun) → runs ≡ [] → from ≤ len
    → (are_ranges from len (map range_of runs) ≡ true) × All IsFull runs
none_read from len runs none le = (
  ap (λ (l : List WordRun). are_ranges from len (map range_of l)) none ∙ le-leb from len le,
  subst (All IsFull) (sym none) (λ k d lt. absurd (omega arith)),
)

not_true : (b : Bool) → (b ≡ true → ⊥) → b ≡ false
not_true true none = absurd (none refl)
not_true false none = refl

-- one range more is in order, or isn't
pub ranges_on : (from len : ℕ) (r : WordRange) (ranges : List WordRange) → from ≤ r.at
    → are_ranges from len (r ∷ ranges) ≡ are_ranges (r.at + 8 * r.count) len ranges
ranges_on from len r ranges le = rw (le-leb from r.at le) refl

pub ranges_end_here : (from len : ℕ) (r : WordRange) (ranges : List WordRange)
    → (r.at < from) ⊎ (len < r.at + 8 * r.count) → are_ranges from len (r ∷ ranges) ≡ false
ranges_end_here from len r ranges (inl early) = rw (lt-leb from r.at early) refl
ranges_end_here from len r ranges (inr past) =
    not_true (are_ranges from len (r ∷ ranges)) (λ e.
    let h = and_parts (nat_le from r.at) (are_ranges (r.at + 8 * r.count) len ranges) e in
    omega (arith, past, ranges_end (r.at + 8 * r.count) len ranges h.1))

-- the same of the ranges from an index on
pub ends_here : (ranges : List WordRange) (i from len : ℕ) (d : WordRange) → i < length ranges
    → ((get_or ranges i d).at < from)
    ⊎ (len < (get_or ranges i d).at + 8 * (get_or ranges i d).count)
    → are_ranges from len (drop i ranges) ≡ false
ends_here ranges i from len d lt ends =
    ap (are_ranges from len) (drop-cons ranges i d lt)
    ∙ ranges_end_here from len (get_or ranges i d) (drop (suc i) ranges) ends

-- ---- reading one run after another

pub one_more_run : (runs : List WordRun) (ranges : List WordRange) (i : ℕ) (run : WordRun)
    (d : WordRange) → i < length ranges → map range_of runs ≡ take i ranges
    → range_of run ≡ get_or ranges i d
    → map range_of (runs ++ run ∷ []) ≡ take (i + 1) ranges
one_more_run runs ranges i run d within read same =
    map-append range_of runs (run ∷ [])
    ∙ ap (λ (l : List WordRange). l ++ range_of run ∷ []) read
    ∙ ap (λ (r : WordRange). take i ranges ++ r ∷ []) same
    ∙ sym (take-suc ranges i d within)
    ∙ ap (λ (n : ℕ). take n ranges) (sym (add-one i))
