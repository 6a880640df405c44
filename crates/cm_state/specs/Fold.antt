-- Changes one after another, each numbered one above the one before.
use Rattle.std.specs.Prelude.{ℕ, ◌+◌, List, [], ◌∷◌, Option, Some, None, Ok, Err}
use Rattle.std.specs.FinMap as map
use Rattle.cm_pool.specs.Geometry.{Sizes}
use Rattle.cm_state.specs.State.{Loaders, Shows}
use Rattle.cm_state.specs.Step.{Change, step}

-- the state that they lead to and the number of the last; none if there is a cause against one of
-- them
abbrev pub fold : {A : Type 0} → Shows A → Sizes → Loaders A → ℕ → List (Change A)
    → Option (Loaders A × ℕ)
fold shows sizes m n [] = Some (m, n)
fold shows sizes m n (change ∷ changes) =
    elim (step shows sizes m n change)
    [ Ok next ↦ fold shows sizes next (n + 1) changes | Err cause ↦ None ]

-- the same from the empty cache on
abbrev pub fold_from_empty : {A : Type 0} → Shows A → Sizes → List (Change A)
    → Option (Loaders A × ℕ)
fold_from_empty shows sizes changes = fold shows sizes map.empty 0 changes
