-- What is read from a record's words: the record, if its class keeps the class rules.
use Rattle.std.specs.Prelude.{◌≡◌, ℕ, List, Option, Some, None, is_some, true, false}
use Rattle.cm_verdict.specs.Verdict.{class_kept}

abbrev pub IsKeptRecord : List ℕ → Option (List ℕ) → Type 0
IsKeptRecord words None = is_some (class_kept words) ≡ false
IsKeptRecord words (Some record_words) =
    (record_words ≡ words) × (is_some (class_kept words) ≡ true)
