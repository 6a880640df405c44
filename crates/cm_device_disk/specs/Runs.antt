-- Words that were read from a device, besides its beginning.
use Rattle.std.specs.Prelude.{◌≡◌, ◌≤◌, ◌+◌, ◌*◌, ◌^◌, ℕ, List, [], ◌∷◌, length, Option, Some, None}
use Rattle.std.specs.Prelude.{Bool, false, nat_le, nat_lt, nat_eq, ◌&&◌, if◌then◌else◌}
use Rattle.std.specs.Option.{ForSome}
use Rattle.std.specs.List.Sorted.{IsNonDecreasingBy}
use Rattle.cm_words.specs.Words.{Words, words_of}
use Rattle.cm_words.specs.Bytes.{word_bytes, packed_into}
use Rattle.cm_disk.specs.declared.disk.WordRange.{WordRange}
use Rattle.cm_disk.specs.Calls.{overwritten, words_in}
use Rattle.cm_device_disk.specs.declared.word_run.WordRun.{WordRun}

abbrev pub run_count : Option Words → ℕ
run_count None = 0
run_count (Some w) = length w.words

-- where its words are; once they are taken it has none
abbrev pub range_of : WordRun → WordRange
range_of run = record { at = run.at; count = run_count run.words }

-- ranges that lie one after another in a device of this length, from a place on
abbrev pub are_ranges : ℕ → ℕ → List WordRange → Bool
are_ranges from len [] = nat_le from len
are_ranges from len (r ∷ ranges) =
    nat_le from r.at && are_ranges (r.at + 8 * r.count) len ranges

-- the runs are in the order of their places
abbrev pub InOrder : List WordRun → Type 0
InOrder runs = IsNonDecreasingBy (λ (run : WordRun). run.at) runs

-- it still has words, and as many as this
abbrev pub has_count : ℕ → Option Words → Bool
has_count count None = false
has_count count (Some w) = nat_eq (length w.words) count

abbrev pub is_run : ℕ → ℕ → WordRun → Bool
is_run at count run = nat_eq run.at at && has_count count run.words

-- the words of a range are still there as one run: the first one that doesn't begin before it
abbrev pub has_words : ℕ → ℕ → List WordRun → Bool
has_words at count [] = false
has_words at count (run ∷ runs) =
    if nat_lt run.at at then has_words at count runs else is_run at count run

-- the words of a run were taken
abbrev pub emptied : WordRun → WordRun
emptied run = record run { words = None }

-- the same runs, after the words of the first one that doesn't begin before a place were taken
abbrev pub without : ℕ → List WordRun → List WordRun
without at [] = []
without at (run ∷ runs) = if nat_lt run.at at then run ∷ without at runs else emptied run ∷ runs

-- its words fill their buffer
abbrev pub IsFull : WordRun → Type 0
IsFull run = ForSome run.words (λ w. w ≡ words_of w.words (length w.words))

-- its words are those that these contents have at its place
abbrev pub IsOf : List ℕ → WordRun → Type 0
IsOf contents run =
    ForSome run.words (λ w. w ≡ words_of (words_in run.at (length w.words) contents)
    (length w.words))

-- the contents with the words of a run at their place
abbrev pub with_words : ℕ → Option Words → List ℕ → List ℕ
with_words at None contents = contents
with_words at (Some w) contents = overwritten at (word_bytes w.words) contents

abbrev pub with_runs : List WordRun → List ℕ → List ℕ
with_runs [] contents = contents
with_runs (r ∷ runs) contents = with_runs runs (with_words r.at r.words contents)

-- its words are determined by their bytes
abbrev pub TellsWords : WordRun → Type 0
TellsWords run =
    ForSome run.words (λ w. packed_into (length w.words) (word_bytes w.words) ≡ w.words)

-- the range ends within the longest disk
abbrev pub EndsInLimit : WordRange → Type 0
EndsInLimit r = r.at + 8 * r.count ≤ 2 ^ 40

-- words that were read, if they were, are as many as this and fill their buffer
abbrev pub HaveCount : ℕ → Option Words → Type 0
HaveCount count read = ForSome read (λ w. (length w.words ≡ count) × (w.capacity ≡ count))
