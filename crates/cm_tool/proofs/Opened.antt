-- A script that is run on the cache of a disk that was opened.
-- For `run_opened`.
use Rattle.std.proofs.Common.{◌≡◌, Result, Ok, sym, ap, subst}
use Rattle.cm_pool.specs.Geometry.{Sizes}
use Rattle.cm_disk.specs.Disk.{View}
use Rattle.cm_guards.specs.Guards.{EachImage}
use Rattle.cm_guards.specs.Calls.{LeavesOnly}
use Rattle.cm_commands.specs.Machine.{Machine, machine_from}
use Rattle.cm_session.specs.declared.session.Session.{Session}
use Rattle.cm_session.specs.Images.{StandsForSome}
use Rattle.cm_session.specs.Moves.{SessionMatches}
use Rattle.cm_session.specs.Opening.{OpensSession}
use Rattle.cm_lines.specs.declared.fault.LineFault.{LineFault}
use Rattle.cm_lines.specs.Streams.{Io}
use Rattle.cm_tool.specs.declared.script.Outcome.{Outcome}
use Rattle.cm_tool.specs.Answers.{served, pause}
use Rattle.cm_tool.specs.Runs.{IsRun}
use Rattle.cm_tool.specs.Serving.{ServesFrom, medium}
use Rattle.cm_tool.specs.Applied.{RunsFromOpened}
use Rattle.cm_tool.proofs.Running.{ready_from}

module _ {D : Type 0} (view : View D) (disk : D) (io : Io) (s new : Session D) (left : D)
    (result : Result Outcome LineFault) where
  pub opened_run : OpensSession view disk (Ok s)
      → ServesFrom view (IsRun (LeavesOnly view) s.committer.sizes io result)
      (λ k next. SessionMatches next new) s new
      → new.committer.sizes ≡ s.committer.sizes
      → ((k : Machine) → SessionMatches k new → EachImage (view.contents new.committer.disk)
      (view.unsynced new.committer.disk) (StandsForSome new.committer.sizes k))
      → left ≡ new.committer.disk
      → RunsFromOpened (LeavesOnly view) disk left (medium view disk) (medium view left)
      (λ sizes old now. IsRun (LeavesOnly view) sizes io result old now)
  opened_run o serves sizes_are images left_is =
      let begins = o.begins in
      let failures = view.failures s.committer.disk in
      let led = serves (machine_from begins.base) begins.matches (ready_from begins.base) in
      let new_is = served led.next (view.failures new.committer.disk) in
      let now = subst (λ (z : Sizes). EachImage (view.contents new.committer.disk)
      (view.unsynced new.committer.disk) (StandsForSome z led.next)) sizes_are
      (images led.next led.matches) in
      record {
        sizes = s.committer.sizes;
        base = begins.base;
        arenas = begins.arenas;
        stands = begins.stands;
        opened = s.committer.disk;
        opening = record {
          alone = λ newest. (o.run.reads_alone newest).images;
          either = o.run.images;
        };
        failures = failures;
        later = o.run.later;
        new = new_is;
        came = subst (λ (d : D). IsRun (LeavesOnly view) s.committer.sizes io result
            (pause (served (machine_from begins.base) failures) s.committer.disk)
            (pause new_is d)) (sym left_is) led.does;
        leaves = record {
          failures_are = ap view.failures (sym left_is);
          images = subst (λ (d : D). EachImage (view.contents d) (view.unsynced d)
              (StandsForSome s.committer.sizes led.next)) (sym left_is) now;
        };
      }
