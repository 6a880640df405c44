-- What is found in a file's bytes without its records.
use Rattle.std.specs.Prelude.{List, ℕ, Result, Ok}
use Rattle.cm_pool.specs.Geometry.{Sizes}
use Rattle.cm_layout.specs.declared.half.Half.TheVariants.{Zero, One}
use Rattle.cm_verdict.specs.declared.fault.FileFault.{FileFault}
use Rattle.cm_verdict.specs.Faults.{◌>>=◌}
use Rattle.cm_verdict.specs.Found.{Found, head_in, half_in, counting_half, walk_through}
use Rattle.cm_verdict.specs.Found.{found_walked}
use Rattle.cm_verdict.specs.Walking.{walked}
use Rattle.cm_view.specs.declared.walking.WalkedFile.{WalkedFile}

-- what was found in a file, as a value in memory
abbrev pub found_of : WalkedFile → Found
found_of file = found_walked file.geometry file.counts (walked file.walk)

-- what is found in contents of these sizes
abbrev pub found_after_sizes : List ℕ → Sizes → Result Found FileFault
found_after_sizes contents sizes = do
  c ← counting_half sizes (head_in sizes contents Zero) (head_in sizes contents One)
  w ← walk_through sizes c (half_in sizes contents c.half)
  Ok (found_walked sizes c w)
