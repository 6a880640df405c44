use Rattle.std.proofs.Common.{◌≡◌, ℕ, List, ◌++◌, drop, length}
use Rattle.sha2.specs.Hashers.{Holds256}
use Rattle.cm_tag.specs.Texts.{jar_text, entries_text}
use Rattle.cm_tag.proofs.jar_text.with_entries.Given as goal

-- what was hashed so far, and the entries that are left, make up the whole
abbrev pub invariant-loop-entry : goal.invariant-loop-entry
invariant-loop-entry l =
    (m : List ℕ) × Holds256 l.hasher m
    × (m ++ entries_text (drop l.entry-index l.entries) ≡ l.fn.digest ++ jar_text l.entries)
