use Rattle.std.proofs.Common.{◌≡◌, Bor, List, ℕ, map, drop}
use Rattle.cm_state.specs.Step.{names_differ}
use Rattle.cm_front.proofs.name_list.names_differ.Given as goal

abbrev pub invariant-loop-at : goal.invariant-loop-at
invariant-loop-at l =
    names_differ (map (λ (name : Bor (List ℕ)). name.now) (drop l.at l.names))
    ≡ names_differ (map (λ (name : Bor (List ℕ)). name.now) l.names)
