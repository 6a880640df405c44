-- What is wrong with a file, in the order of the checks: the first fault is the one that is
-- reported.
use Rattle.std.specs.Prelude.{ℕ, Result, Ok, Err}
use Rattle.cm_layout.specs.declared.entry_rule.EntryRule.{EntryRule}
use Rattle.cm_layout.specs.declared.entry_rule.EntryRule.TheVariants.{OnRows, OnChunks}
use Rattle.cm_verdict.specs.declared.fault.Damage.{Damage}
use Rattle.cm_verdict.specs.declared.fault.Damage.TheVariants as damage
use Rattle.cm_verdict.specs.declared.fault.FileFault.{FileFault}
use Rattle.cm_verdict.specs.declared.fault.FileFault.TheVariants.{Damaged}

abbrev pub damage_number : Damage → ℕ
damage_number damage.Superblock = 1
damage_number damage.Length = 2
damage_number damage.Halves = 3
damage_number damage.Head = 4
damage_number damage.Slot = 5
damage_number damage.Rows = 6
damage_number damage.Chunks = 7
damage_number damage.Record = 8
damage_number damage.ClassTwice = 9

-- the damage that an entry is which breaks this rule
abbrev pub damage_of : EntryRule → Damage
damage_of OnRows = damage.Rows
damage_of OnChunks = damage.Chunks

-- the first fault wins
infixl 10 ◌>>=◌
abbrev pub ◌>>=◌ : {A B : Type 0} → Result A FileFault → (A → Result B FileFault)
    → Result B FileFault
(Ok x) >>= f = f x
(Err e) >>= f = Err e

-- a damage, with the slot where it was found
abbrev pub at_slot : {A : Type 0} → ℕ → Result A Damage → Result A FileFault
at_slot slot (Ok x) = Ok x
at_slot slot (Err what) = Err (Damaged what slot)
