use Rattle.std.proofs.Common.{◌≡◌, ◌+◌, ◌≤◌, ◌++◌, length, map, vec_capacity}
use Rattle.cm_commands.specs.Machine.{Machine}
use Rattle.cm_session.specs.Moves.{SessionMatches, ReachesMachine}
use Rattle.cm_importing.specs.declared.named.NamedClass.{NamedClass}
use Rattle.cm_importing.specs.Groups.{TakesEach, defines}
use Rattle.cm_importing.proofs.group.define_each.Given as goal

abbrev pub invariant-classes : goal.invariant-classes
invariant-classes g l =
    (l.session.committer ≡ l.fn.session.committer)
    × (length l.outcomes.items + length l.class-iterator.rest.items ≤ vec_capacity l.outcomes)
    × (map (λ (n : NamedClass). n.class) (l.yielded ++ l.class-iterator.rest.items)
    ≡ l.fn.classes.items)
    × ((k : Machine) → SessionMatches k l.fn.session
    → ReachesMachine
    (TakesEach l.fn.session.committer.sizes k
    (defines l.fn.loader (map (λ (n : NamedClass). n.class) l.yielded)) l.outcomes.items)
    (λ next. SessionMatches next l.session))
