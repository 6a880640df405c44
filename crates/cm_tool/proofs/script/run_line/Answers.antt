use Rattle.std.proofs.Common.{subst}
use Rattle.cm_pool.specs.Geometry.{Sizes}
use Rattle.cm_guards.specs.Guards.{EachImage}
use Rattle.cm_session.specs.Images.{StandsForSome}
use Rattle.cm_tool.proofs.Moments.{moments_of}
use Rattle.cm_tool.proofs.script.run_line.Goals as goal

pub returns-clause-machine : goal.returns-clause-machine
returns-clause-machine g c =
    let disk = g.D.Disk in
    let old = c.args.session.now in
    let call = c.take_line-turned in
    let new = call.new.session in
    λ k matches ready.
    let led = call.ensures.machine k matches ready in
    let images = subst (λ (z : Sizes). EachImage (disk.view.contents new.committer.disk)
    (disk.view.unsynced new.committer.disk) (StandsForSome z led.next)) call.ensures.sizes
    (c.images.ensures led.next led.matches.matches) in
    record {
      next = led.next;
      does = led.does;
      matches = record {
        matches = led.matches.matches;
        moments = moments_of disk.view
            g.met.D.Disk.only_now k led.next old new images led.matches;
      };
    }
