use Rattle.std.proofs.Common.{[], ◌∷◌, ◌++◌, Some, refl, sym, ap, subst, ◌∙◌}
use Rattle.cm_group.specs.Groups.{Handed}
use Rattle.cm_cache.specs.Channel.{entries_of, MayBeSent}
use Rattle.cm_cache.specs.Flushing.{IsFlushing}
use Rattle.cm_cache.proofs.Flushed.{end_came_with, joined_on, kept_behind, receives_one}
use Rattle.cm_cache.proofs.flushing.Flushing.join_one.Goals as goal

pub invariant_of-self-in-Some-End : goal.invariant_of-self-in-Some-End
invariant_of-self-in-Some-End g c =
    end_came_with _ _ _ _ _ _ c.self.invariant (sym c.take.ensures.value ∙ c.in-Some.is)
    (c.in-Some-End.ensures.received
    ∙ ap (λ m. c.self.inside.incoming ++ m ∷ []) c.in-Some-End.field-0-is)

pub invariant_of-self-in-Ok : goal.invariant_of-self-in-Ok
invariant_of-self-in-Ok g c =
    joined_on _ _ _ c.groups_may_follow.ensures.joined _ _ _ _ _ c.self.invariant
    (sym c.take.ensures.value ∙ c.in-Some.is) (sym c.is_some.ensures ∙ c.if-is_some.false)
    c.if-self.false
    (c.in-Some-Group.ensures.received
    ∙ ap (λ m. c.self.inside.incoming ++ m ∷ []) c.in-Some-Group.field-0-is)
    (subst (MayBeSent g.K.Naming.base (entries_of c.self.inside.incoming))
    c.in-Some-Group.field-0-is c.in-Some-Group.ensures.may)
    (c.in-Ok.ensures.goes_on.0 refl) c.in-Ok.ensures.ok

pub invariant_of-self-in-Err : goal.invariant_of-self-in-Err
invariant_of-self-in-Err g c =
    subst
    (λ (x : Handed × Handed). IsFlushing g.K.Naming.base g.K.Naming.failed g.D.Disk.view.failures
    (record {
      committer = c.self.inside.storage;
      received = c.receive_now.new.self;
      posted = c.self.inside.poster;
      next = Some x.0;
      behind = Some x.1;
      over = c.self.inside.over;
    }))
    (λ i. (sym c.in-Err.ensures.err.1 i, sym c.in-Err.ensures.err.0 i))
    (kept_behind _ _ _ _ _ _ _ c.self.invariant (sym c.take.ensures.value ∙ c.in-Some.is)
    (sym c.is_some.ensures ∙ c.if-is_some.false) c.if-self.false
    (c.in-Some-Group.ensures.received
    ∙ ap (λ m. c.self.inside.incoming ++ m ∷ []) c.in-Some-Group.field-0-is)
    (subst (MayBeSent g.K.Naming.base (entries_of c.self.inside.incoming))
    c.in-Some-Group.field-0-is c.in-Some-Group.ensures.may))

pub returns-in-Some-End : goal.returns-in-Some-End
returns-in-Some-End g c =
    receives_one _ _ _ _ c.self.view_is refl refl c.in-Some-End.ensures.received

pub returns-in-Ok : goal.returns-in-Ok
returns-in-Ok g c =
    receives_one _ _ _ _ c.self.view_is refl refl c.in-Some-Group.ensures.received

pub returns-in-Err : goal.returns-in-Err
returns-in-Err g c =
    receives_one _ _ _ _ c.self.view_is refl refl c.in-Some-Group.ensures.received
