-- Writing the journal anew when nothing is under way: when it can be done, and when it fails.
use Rattle.std.specs.Prelude.{◌≡◌, ◌<◌, ◌≤◌, ◌+◌, ℕ, List, Result, Err, length}
use Rattle.cm_disk.specs.Disk.{Unsynced}
use Rattle.cm_layout.specs.declared.row.Row.{Row}
use Rattle.cm_commit.specs.declared.journal_end.JournalEnd.{JournalEnd}
use Rattle.cm_commit.specs.declared.renewal.RenewFault.{RenewFault}
use Rattle.cm_commit.specs.declared.renewal.RenewFault.TheVariants as fault
use Rattle.cm_commit.specs.GroupPlans.{whole_roots}
use Rattle.cm_commit.specs.Keeps.{IsHeld}

-- Contents hold the cache of these rows, in halves of any version that can be read, and their epoch
-- is at most one above the number, so that it may rise without a command.
pub record MayRenew (contents : List ℕ) (unsynced : Unsynced) (journal : JournalEnd)
    (rows : List (Row (List ℕ))) : Type 0 where
  pub version : ℕ
  pub held : IsHeld contents unsynced journal rows
      (whole_roots journal.geometry (length contents)) version
  pub epoch : journal.epoch ≤ journal.number + 1

-- the result is a device fault exactly if the device failed
pub record RenewCause {T : Type 0} (before now : ℕ) (result : Result T RenewFault) : Type 0 where
  pub later : before ≤ now
  pub cause : result ≡ Err fault.Device → before < now
  pub no_cause : (result ≡ Err fault.Device → ⊥) → now ≡ before
