-- What a stepped session is that was just opened.
use Rattle.std.specs.Prelude.{◌≡◌, List, ℕ, false, None, Result, Ok, Err, nat_lt}
use Rattle.cm_layout.specs.Frames.{entry_version}
use Rattle.cm_verdict.specs.Found.{Found, found_in}
use Rattle.cm_pool.specs.Geometry.{Sizes}
use Rattle.cm_disk.specs.Disk.{View, IsDurable}
use Rattle.cm_state.specs.Stands.{Arenas, Stands}
use Rattle.cm_recover.specs.declared.opening.NotOpened.{NotOpened}
use Rattle.cm_verdict.specs.declared.fault.OpenFault.TheVariants as open_fault
use Rattle.cm_commands.specs.Machine.{Base, Machine, machine_from}
use Rattle.cm_session.specs.Moves.{ReachesMachine, Reopening}
use Rattle.cm_stepped.specs.declared.stepped.SteppedSession.{SteppedSession}
use Rattle.cm_stepped.specs.Stepping.{SteppedMatches}

-- nothing is asked for, and nothing has failed
pub record IsFresh {D : Type 0} (s : SteppedSession D) : Type 0 where
  pub asked : s.asked ≡ None
  pub works : s.is_broken ≡ false

-- the session of these contents; all that its disk holds is durable
pub record Opened {D : Type 0} (view : View D) (sizes : Sizes) (bytes : List ℕ) (k : Machine)
    (s : SteppedSession D) : Type 0 where
  pub reaches : ReachesMachine (Reopening sizes k bytes) (λ next. SteppedMatches next s)
  pub sizes_are : s.session.committer.sizes ≡ sizes
  pub durable : IsDurable (view.contents s.session.committer.disk)
      (view.unsynced s.session.committer.disk)

-- the rows of the contents are not of version 1
abbrev pub IsUpToDate : List ℕ → Type 0
IsUpToDate contents =
    (f : Found) → found_in contents ≡ Ok f → nat_lt f.head.version entry_version ≡ false

-- The contents stand for a cache, and the session matches the machine that begins with it.
pub record Begins {D : Type 0} (bytes : List ℕ) (s : SteppedSession D) : Type 0 where
  pub base : Base
  pub arenas : Arenas
  pub stands : Stands s.session.committer.sizes bytes base.state arenas base.number
  pub matches : SteppedMatches (machine_from base) s
  pub fresh : IsFresh s

-- the disk after it was opened, or handed back
abbrev pub disk_of : {D : Type 0} → Result (SteppedSession D) (NotOpened D) → D
disk_of (Ok s) = s.session.committer.disk
disk_of (Err not_opened) = not_opened.disk

abbrev pub MeetsDevice : {D : Type 0} → Result (SteppedSession D) (NotOpened D) → Type 0
MeetsDevice (Ok s) = ⊥
MeetsDevice (Err not_opened) = not_opened.fault ≡ open_fault.Device
