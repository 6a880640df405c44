-- Entries that follow lead from one state to the next, by the changes that they make.
-- For `handed_changes_lead_on`.
use Rattle.std.proofs.Common.{◌≡◌, ℕ, ◌+◌, ◌^◌, ◌≤◌, List, [], ◌∷◌, length, Some, None, Ok, Err}
use Rattle.std.proofs.Common.{Result, refl, ap, ◌∙◌, arith}
use Rattle.std.specs.Option.{option_map, option_and_then}
use Rattle.cm_pool.specs.Geometry.{Sizes}
use Rattle.cm_layout.specs.declared.row.Row.{Row}
use Rattle.cm_layout.specs.Rows.{rows_after}
use Rattle.cm_group.specs.Groups.{Carried}
use Rattle.cm_state.specs.State.{Loaders, state_of, words_show}
use Rattle.cm_state.specs.Step.{Cause}
use Rattle.cm_state.specs.Fold.{fold}
use Rattle.cm_state.specs.Laws.{EntriesAreSteps}
use Rattle.cm_commit.specs.Offers.{filled, rows_after_group}
use Rattle.cm_handover.specs.Folding.{changes_made, FollowersLeadOn}

pub lead_on : EntriesAreSteps (List ℕ) → FollowersLeadOn
lead_on steps sizes rows number [] are follow to = record {
  changes = [];
  made = refl;
  folds = ap (λ n. Some (state_of words_show rows, n)) (omega arith);
}
lead_on steps sizes rows number (c ∷ carried) are follow to =
    let one = steps words_show sizes number rows (filled c) are follow.0 (omega (arith, to)) in
    let rest = lead_on steps sizes (rows_after rows (filled c)) (number + 1) carried one.rows_are
    follow.2 (omega (arith, to)) in
    record {
      changes = one.change ∷ rest.changes;
      made =
          ap (option_and_then (λ change. option_map (λ changes. change ∷ changes)
          (changes_made (rows_after rows (filled c)) carried))) one.change_is
          ∙ ap (option_map (λ changes. one.change ∷ changes)) rest.made;
      folds =
          ap (λ (r : Result (Loaders (List ℕ)) Cause). elim r [
            | Ok m ↦ fold words_show sizes m (number + 1) rest.changes
            | Err cause ↦ None
          ]) one.next
          ∙ (rest.folds ∙ ap (λ n. Some (
            state_of words_show
                (rows_after_group (rows_after rows (filled c)) carried),
            n,
          )) (omega arith));
    }
