-- What a file is opened to, for use by one thread, and what opening does to its disk.
use Rattle.std.specs.Prelude.{◌≡◌, None, Result, IfOk, IfErr}
use Rattle.cm_pool.specs.Geometry.{Sizes}
use Rattle.cm_disk.specs.Disk.{View}
use Rattle.cm_verdict.specs.Verdict.{verdict}
use Rattle.cm_recover.specs.declared.opening.NotOpened.{NotOpened}
use Rattle.cm_verdict.specs.Opening.{IsFaultIn}
use Rattle.cm_recover.specs.Opened.{OpensThrough}
use Rattle.cm_commands.specs.Machine.{Machine}
use Rattle.cm_session.specs.declared.session.Session.{Session}
use Rattle.cm_session.specs.Images.{StandsForSome}
use Rattle.cm_session.specs.Moves.{Opened, SessionBegins, IsOutside, disk_of, MeetsDevice}
use Rattle.cm_session.specs.Moves.{HasPast, just_learnt}

-- The session begins with the cache that the contents stand for; if they stand for some of a
-- machine's commands, it continues from these, and the file isn't opened only if the device or an
-- allocation failed. Otherwise the fault is that of the contents, or the device or an allocation
-- failed.
pub record OpensSession {D : Type 0} (view : View D) (disk : D)
    (result : Result (Session D) (NotOpened D)) : Type 0 where
  pub opened : (sizes : Sizes) (k : Machine) → StandsForSome sizes k (view.contents disk)
      → IfOk result (Opened view sizes (view.contents disk) k)
  pub begins : IfOk result (SessionBegins (view.contents disk))
  pub past : IfOk result (λ s. HasPast (just_learnt s) s)
  pub idle : IfOk result (λ s. s.committer.underway ≡ None)
  pub stands : (sizes : Sizes) (k : Machine) → StandsForSome sizes k (view.contents disk)
      → IfErr result (λ e. IsOutside e.fault)
  pub fault : IfErr result (λ e. IsFaultIn e.fault (verdict (view.contents disk)))
  pub run : OpensThrough view disk (disk_of result) (MeetsDevice result)
