use Rattle.std.proofs.Common.{ap, ◌∙◌}
use Rattle.cm_cache.specs.Flushing.{EndedState}
use Rattle.cm_cache.proofs.Flushed.{dropped, drops_one, end_came_late}
use Rattle.cm_cache.proofs.flushing.Ended.drop_one.Goals as goal

pub invariant_of-self : goal.invariant_of-self
invariant_of-self g c =
    dropped _ _ _ _ _ _ c.self.invariant
    (ap (λ (e : EndedState g.row.D.Denot). e.committer.broken) c.self.view_is ∙ c.requires.broken)
    (ap (λ (e : EndedState g.row.D.Denot). e.over) c.self.view_is ∙ c.requires.going)
    c.in-Group.ensures.received

pub invariant_of-self-in-End : goal.invariant_of-self-in-End
invariant_of-self-in-End g c = end_came_late _ _ _ _ _ c.self.invariant c.in-End.ensures.received

pub returns-in-Group-clause-received : goal.returns-in-Group-clause-received
returns-in-Group-clause-received g c =
    drops_one _ _ _ _ c.self.view_is c.in-Group.ensures.received

pub returns-in-End-clause-received : goal.returns-in-End-clause-received
returns-in-End-clause-received g c =
    drops_one _ _ _ _ c.self.view_is c.in-End.ensures.received
