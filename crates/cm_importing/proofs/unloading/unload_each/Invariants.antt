use Rattle.std.proofs.Common.{◌≡◌, ◌+◌, ◌≤◌, ◌++◌, length, vec_capacity}
use Rattle.cm_commands.specs.Machine.{Machine}
use Rattle.cm_session.specs.Moves.{SessionMatches, ReachesMachine}
use Rattle.cm_importing.specs.Groups.{TakesEach}
use Rattle.cm_importing.specs.Unloading.{unloads}
use Rattle.cm_importing.proofs.unloading.unload_each.Given as goal

abbrev pub invariant-loaders : goal.invariant-loaders
invariant-loaders g l =
    (l.session.committer ≡ l.fn.session.committer)
    × (length l.outcomes.items + length l.loader-iterator.rest.items ≤ vec_capacity l.outcomes)
    × (l.yielded ++ l.loader-iterator.rest.items ≡ l.fn.loaders.items)
    × ((k : Machine) → SessionMatches k l.fn.session
    → ReachesMachine
    (TakesEach l.fn.session.committer.sizes k (unloads l.yielded) l.outcomes.items)
    (λ next. SessionMatches next l.session))
