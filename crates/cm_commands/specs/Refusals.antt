-- The numbers by which replies name the causes of refusals.
use Rattle.std.specs.Prelude.{ℕ}
use Rattle.cm_commands.specs.declared.refusal.Refusal.{Refusal}
use Rattle.cm_commands.specs.declared.refusal.Refusal.TheVariants as refusal
use Rattle.cm_state.specs.Step.{Cause, BadName, NumbersSpent, LoaderExists, NoLoader, ClassExists}
use Rattle.cm_state.specs.Step.{RecordTooLong, JournalFull, BadList}

-- any fault of a class file is 14
abbrev pub refusal_number : Refusal → ℕ
refusal_number refusal.BadName = 1
refusal_number refusal.LoaderExists = 2
refusal_number refusal.NoLoader = 3
refusal_number refusal.ClassExists = 4
refusal_number refusal.RecordTooLong = 5
refusal_number refusal.RegionFull = 6
refusal_number refusal.JournalFull = 7
refusal_number refusal.NoMove = 8
refusal_number refusal.NoMemory = 9
refusal_number refusal.Broken = 10
refusal_number refusal.Closed = 11
refusal_number refusal.NumbersSpent = 12
refusal_number (refusal.Unsure n) = 13
refusal_number (refusal.BadClass bad) = 14
refusal_number refusal.BadLine = 15
refusal_number refusal.BadList = 16

-- the refusal for a cause against a step of the cache
abbrev pub refusal_of : Cause → Refusal
refusal_of BadName = refusal.BadName
refusal_of NumbersSpent = refusal.NumbersSpent
refusal_of LoaderExists = refusal.LoaderExists
refusal_of NoLoader = refusal.NoLoader
refusal_of ClassExists = refusal.ClassExists
refusal_of RecordTooLong = refusal.RecordTooLong
refusal_of JournalFull = refusal.JournalFull
refusal_of BadList = refusal.BadList
