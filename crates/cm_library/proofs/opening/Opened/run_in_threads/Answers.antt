use Rattle.std.specs.Prelude.{vec_len}
use Rattle.cm_library.specs.Running.{KeepsWorks, passes_for}
use Rattle.cm_library.proofs.Ran.{runs}
use Rattle.cm_library.proofs.opening.Opened.run_in_threads.Goals as goal

pub returns-in-Ok-clause-ran : goal.returns-in-Ok-clause-ran
returns-in-Ok-clause-ran g c =
    runs g.D.Disk.view c.self.inside.storage c.args.self c.self.view_is
    (passes_for (vec_len c.args.works)) (KeepsWorks g.W.Work.keeps c.args.works)
    c.run_each.result c.run_each.ensures.ran
