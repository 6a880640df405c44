-- The state after what was handed over is the fold of the changes that its entries make.
use Rattle.std.specs.Prelude.{◌≡◌, ℕ, ◌+◌, ◌^◌, ◌≤◌, List, [], ◌∷◌, length, Option, Some}
use Rattle.std.specs.Option.{option_map, option_and_then}
use Rattle.cm_pool.specs.Geometry.{Sizes}
use Rattle.cm_layout.specs.declared.row.Row.{Row}
use Rattle.cm_layout.specs.Rows.{rows_after}
use Rattle.cm_group.specs.Groups.{Carried}
use Rattle.cm_state.specs.State.{Loaders, state_of, words_show}
use Rattle.cm_state.specs.Step.{Change}
use Rattle.cm_state.specs.Fold.{fold}
use Rattle.cm_state.specs.Entries.{AreCacheRows, change_of}
use Rattle.cm_commit.specs.Offers.{filled, rows_after_group}
use Rattle.cm_handover.specs.Ahead.{AllFollow}

-- the changes that entries make, each on the rows after the entries before it
abbrev pub changes_made : List (Row (List ℕ)) → List Carried → Option (List (Change (List ℕ)))
changes_made rows [] = Some []
changes_made rows (c ∷ carried) =
    option_and_then
    (λ change. option_map (λ changes. change ∷ changes)
    (changes_made (rows_after rows (filled c)) carried))
    (change_of rows (filled c))

-- The entries make changes, and these lead from the state of the rows to this one: no cause stands
-- against any of them.
pub record LeadTo (sizes : Sizes) (rows : List (Row (List ℕ))) (number : ℕ)
    (carried : List Carried) (state : Loaders (List ℕ)) : Type 0 where
  pub changes : List (Change (List ℕ))
  pub made : changes_made rows carried ≡ Some changes
  pub folds : fold words_show sizes (state_of words_show rows) number changes
      ≡ Some (state, number + length carried)

-- Entries that follow rows of a cache lead to the state of the rows after them.
abbrev pub FollowersLeadOn : Type 0
FollowersLeadOn =
    (sizes : Sizes) (rows : List (Row (List ℕ))) (number : ℕ) (carried : List Carried)
    → AreCacheRows words_show sizes number rows → AllFollow sizes rows number carried
    → number + length carried ≤ 2 ^ 63
    → LeadTo sizes rows number carried (state_of words_show (rows_after_group rows carried))
