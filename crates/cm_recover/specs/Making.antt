-- A file that is being made.
use Rattle.std.specs.Prelude.{◌≡◌, ◌≢◌, ◌<◌, ◌≤◌, ◌⊎◌, ℕ, zero, suc, max, Bool, true, false}
use Rattle.std.specs.Prelude.{List, length, get_or, Result, Err, IsErr}
use Rattle.cm_pool.specs.Geometry.{Sizes, IsGeometry}
use Rattle.cm_layout.specs.Offsets.{roots_at}
use Rattle.cm_layout.specs.Slots.{open_gate}
use Rattle.cm_disk.specs.Disk.{View, Unsynced, IsBytes, IsDurable}
use Rattle.cm_guards.specs.Calls.{LeavesOnly}
use Rattle.cm_recover.specs.declared.fault.FormatFault.{FormatFault}
use Rattle.cm_recover.specs.declared.fault.FormatFault.TheVariants as fault
use Rattle.cm_recover.specs.declared.new_file.NewFile.{NewFile}
use Rattle.cm_recover.specs.NewFile.{gate_at, shut_bytes, IsNoCache, IsNoneOrEmpty}

-- the file of these sizes, still shut
pub record IsNewFile (sizes : Sizes) (file : NewFile) : Type 0 where
  pub lawful : IsGeometry sizes
  pub geometry : file.geometry ≡ sizes
  pub bytes : file.bytes.items ≡ shut_bytes sizes

-- a device fault is returned only if the device failed
pub record HasFormatCause (before now : ℕ) (result : Result (Unit {0}) FormatFault) : Type 0 where
  pub later : before ≤ now
  pub fault : result ≡ Err fault.Device → before < now

-- ---- its moments

-- What a crash may leave until all but the gate of the superblock is durable, given what was
-- unsynced before the file was begun: no more bytes than the file has, or than might have been left
-- before; and no cache, unless those bytes include an open gate, though it was written shut.
pub record IsUnfinished (sizes : Sizes) (before : Unsynced) (image : List ℕ) : Type 0 where
  pub bytes : IsBytes image
  pub no_longer : length image ≤ max before.greatest (roots_at sizes)
  pub no_cache : get_or image gate_at 0 ≢ open_gate → IsNoCache image

-- At most `n` calls of the device lead from one disk to the other, and none but the last failed.
abbrev pub CallsAtMost : {D : Type 0} → (D → D → Bool → Type 0) → ℕ → D → D → Type 0
CallsAtMost called zero old new = new ≡ old
CallsAtMost {D = D} called (suc n) old new =
    (new ≡ old) ⊎ (called old new false
    ⊎ ((next : D) × called old next true × CallsAtMost called n next new))

-- A fault came before all but the gate was durable. The first three calls are the length, a write
-- and a sync.
pub record EndsUnfinished {T E D : Type 0} (view : View D) (called : D → D → Bool → Type 0)
    (sizes : Sizes)
    (old new : D) (result : Result T E) : Type 0 where
  pub faulted : IsErr result
  pub calls : CallsAtMost called 3 old new
  pub images : LeavesOnly view old new (IsUnfinished sizes (view.unsynced old))

-- After the first sync all but the gate is durable. Until then the file was unfinished; from then
-- on each image is no cache or the empty one. The last two calls are a write and a sync.
pub record PassesShut {D : Type 0} (view : View D) (called : D → D → Bool → Type 0)
    (sizes : Sizes) (old new : D) : Type 0 where
  pub between : D
  pub shut : view.contents between ≡ shut_bytes sizes
  pub stored : IsDurable (view.contents between) (view.unsynced between)
  pub first_calls : CallsAtMost called 3 old between
  pub before : LeavesOnly view old between (IsUnfinished sizes (view.unsynced old))
  pub last_calls : CallsAtMost called 2 between new
  pub after : LeavesOnly view between new (IsNoneOrEmpty sizes)

-- what holds at the moments of a call that makes a file of these sizes and returns this result
pub record FormatsThrough {T E D : Type 0} (view : View D) (called : D → D → Bool → Type 0)
    (sizes : Sizes) (old new : D) (result : Result T E) : Type 0 where
  pub course : EndsUnfinished view called sizes old new result
      ⊎ PassesShut view called sizes old new
