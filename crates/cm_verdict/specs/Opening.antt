-- The result of opening a file is what the verdict's definitions say of its contents, unless the
-- device or an allocation failed.
use Rattle.std.specs.Prelude.{◌≡◌, ◌==◌, ℕ, Bool, List, take, get_or, Result, Ok, Err}
use Rattle.cm_pool.specs.Geometry.{Sizes}
use Rattle.cm_layout.specs.declared.half.Half.{Half}
use Rattle.cm_layout.specs.declared.half.Half.TheVariants.{Zero, One}
use Rattle.cm_layout.specs.Offsets.{slot_size, half_at}
use Rattle.cm_layout.specs.Slots.{open_gate}
use Rattle.cm_layout.specs.Framing.{other_half}
use Rattle.cm_verdict.specs.declared.fault.FileFault.{FileFault}
use Rattle.cm_verdict.specs.Faults.{◌>>=◌}
use Rattle.cm_verdict.specs.Found.{Found, counting_half, walk_through, found_walked}
use Rattle.cm_verdict.specs.Walking.{walked}
use Rattle.cm_verdict.specs.declared.fault.OpenFault.{OpenFault}
use Rattle.cm_verdict.specs.declared.fault.OpenFault.TheVariants as open_fault
use Rattle.cm_verdict.specs.declared.reading.FoundFile.{FoundFile}

-- the fault is that of the verdict, or the device or an allocation failed
abbrev pub IsFaultIn : {B : Type 0} → OpenFault → Result B FileFault → Type 0
IsFaultIn (open_fault.File fault) verdict = verdict ≡ Err fault
IsFaultIn open_fault.Device verdict = Unit {0}
IsFaultIn open_fault.NoMemory verdict = Unit {0}

-- the result is what the verdict says, where `seen` maps a value to the verdict's
abbrev pub IsAnswer : {A B : Type 0} → (A → B) → Result A OpenFault → Result B FileFault → Type 0
IsAnswer seen (Ok value) verdict = verdict ≡ Ok (seen value)
IsAnswer seen (Err fault) verdict = IsFaultIn fault verdict

-- ---- both halves of the journal

abbrev pub half_of : Half → List ℕ → List ℕ → List ℕ
half_of Zero zero one = zero
half_of One zero one = one

-- whether the gate of the other half is open
abbrev pub other_is_open : Sizes → Half → List ℕ → Bool
other_is_open sizes half contents =
    get_or contents (half_at sizes (other_half half)) 0 == open_gate

-- what is found in them
abbrev pub found_in_halves : Sizes → List ℕ → List ℕ → Result Found FileFault
found_in_halves sizes zero one = do
  c ← counting_half sizes (take slot_size zero) (take slot_size one)
  w ← walk_through sizes c (half_of c.half zero one)
  Ok (found_walked sizes c w)

-- what was found in a file, as a value in memory
abbrev pub found_of : FoundFile → Found
found_of file = found_walked file.geometry file.counts (walked file.walk)
