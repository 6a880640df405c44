use Rattle.std.proofs.Common.{refl, sym, ap, ◌∙◌}
use Rattle.cm_cache.specs.Flushing.{FlushingState}
use Rattle.cm_cache.proofs.Flushed.{fetched, end_came, receives_one}
use Rattle.cm_cache.proofs.flushing.Flushing.fetch.Goals as goal
use Rattle.cm_cache.proofs.flushing.Flushing.fetch.Goals.{in-Some-2, in-None-2}

pub invariant_of-self-in-Group-2 : goal.invariant_of-self-in-Group-2
invariant_of-self-in-Group-2 g c =
    fetched _ _ _ _ _ _ c.self.invariant (sym c.is_some.ensures ∙ c.if-is_some.false)
    (sym c.is_some-2.ensures ∙ c.if-is_some-2.false) c.if-self.false c.in-Group.ensures.received
    c.in-Group.ensures.may

pub invariant_of-self-in-End : goal.invariant_of-self-in-End
invariant_of-self-in-End g c = end_came _ _ _ _ _ c.self.invariant c.in-End.ensures.received

pub returns-in-Group : goal.returns-in-Group
returns-in-Group g c =
    elim c.match-self.branch [
      | in-Some-2 w ↦
          receives_one _ _ _ _ c.self.view_is
          (ap (λ (f : FlushingState g.row.D.Denot). f.committer) w.self-is)
          (ap (λ (f : FlushingState g.row.D.Denot). f.posted) w.self-is)
          (ap (λ (f : FlushingState g.row.D.Denot). f.received) w.self-is
          ∙ c.in-Group.ensures.received)
      | in-None-2 w ↦
          receives_one _ _ _ _ c.self.view_is
          (ap (λ (f : FlushingState g.row.D.Denot). f.committer) w.self-is)
          (ap (λ (f : FlushingState g.row.D.Denot). f.posted) w.self-is)
          (ap (λ (f : FlushingState g.row.D.Denot). f.received) w.self-is
          ∙ c.in-Group.ensures.received)
    ]

pub returns-in-End : goal.returns-in-End
returns-in-End g c = receives_one _ _ _ _ c.self.view_is refl refl c.in-End.ensures.received
