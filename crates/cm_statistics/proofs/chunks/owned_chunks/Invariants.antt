use Rattle.std.proofs.Common.{◌≡◌, ◌++◌, length, map, filter}
use Rattle.std.specs.List.{AllByRecursion}
use Rattle.cm_layout.specs.Rows.{classes_in}
use Rattle.cm_statistics.specs.Usage.{owned_chunks, owned_chunk, begins, IsSmallRow}
use Rattle.cm_statistics.proofs.chunks.owned_chunks.Given as goal

-- the list and what is left make the whole list
abbrev pub invariant-loop-row : goal.invariant-loop-row
invariant-loop-row l = record {
  made : l.list.items
      ++ map (owned_chunk (classes_in l.rows.rows)) (filter begins (classes_in l.left))
      ≡ owned_chunks (classes_in l.rows.rows);
  small : AllByRecursion IsSmallRow (classes_in l.left);
}

abbrev pub decreases-loop-row : goal.decreases-loop-row
decreases-loop-row l = length l.left
