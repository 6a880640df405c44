-- The numbers that C is told, and what they say.
use Rattle.std.specs.Prelude.{ℕ, ℤ, pos, Result, Ok, Err}
use Rattle.cm_verdict.specs.declared.fault.FileFault.TheVariants.{NotACache, Damaged}
use Rattle.cm_verdict.specs.declared.fault.OpenFault.{OpenFault}
use Rattle.cm_verdict.specs.declared.fault.OpenFault.TheVariants as fault
use Rattle.cm_commands.specs.declared.refusal.Refusal.{Refusal}
use Rattle.cm_commands.specs.Refusals.{refusal_number}
use Rattle.cm_stepped.specs.declared.from_bytes.BytesFault.{BytesFault}
use Rattle.cm_stepped.specs.declared.from_bytes.BytesFault.TheVariants as unopened
use Rattle.cm_stepped.specs.declared.step.Step.{Step}
use Rattle.cm_stepped.specs.declared.step.Step.TheVariants.{Idle, Call, Stored}
use Rattle.cm_stepped.specs.declared.step.Broken.{Broken}

-- ---- a command

abbrev pub accept_status : Result ℕ Refusal → ℤ
accept_status (Ok number) = pos 0
accept_status (Err refusal) = pos (refusal_number refusal)

-- the number that is told; it was this before
abbrev pub number_told : ℕ → Result ℕ Refusal → ℕ
number_told before (Ok number) = number
number_told before (Err refusal) = before

-- ---- a step

abbrev pub step_status : Result Step Broken → ℤ
step_status (Ok step) = pos 0
step_status (Err broken) = pos 10

-- the number up to which commands are reported as stored
abbrev pub stored_told : ℕ → Result Step Broken → ℕ
stored_told before (Ok Idle) = before
stored_told before (Ok Call) = before
stored_told before (Ok (Stored number)) = number
stored_told before (Err broken) = before

-- ---- opening

abbrev pub open_status : OpenFault → ℤ
open_status (fault.File NotACache) = pos 21
open_status (fault.File (Damaged what slot)) = pos 22
open_status fault.Device = pos 26
open_status fault.NoMemory = pos 9

abbrev pub bytes_status : BytesFault → ℤ
bytes_status (unopened.Fault fault) = open_status fault
bytes_status unopened.Older = pos 23
