use Rattle.std.proofs.Common.{ℕ, ◌+◌, ◌<◌, get_or}
use Rattle.cm_view_index.specs.declared.row.ViewRow.{ViewRow}
use Rattle.cm_view_index.specs.Index.{AreAlike}
use Rattle.cm_view_index.proofs.index.first_twin.Given as goal

-- none of the rows so far is like the one before it
abbrev pub invariant-loop-at : goal.invariant-loop-at
invariant-loop-at l = (k : ℕ) (d : ViewRow) → k + 1 < l.at
    → AreAlike l.bytes (get_or l.rows k d) (get_or l.rows (k + 1) d) → ⊥
