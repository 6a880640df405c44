use Rattle.cm_library.specs.Running.{KeepsAlone}
use Rattle.cm_library.proofs.Ran.{runs}
use Rattle.cm_library.proofs.opening.Opened.run.Goals as goal

pub returns-in-Ok-clause-ran : goal.returns-in-Ok-clause-ran
returns-in-Ok-clause-ran g c =
    runs g.D.Disk.view c.self.inside.storage c.args.self c.self.view_is 1
    (λ output passes. KeepsAlone (g.W.Work.keeps c.args.work) output passes) c.run_alone.result
    c.run_alone.ensures.ran
