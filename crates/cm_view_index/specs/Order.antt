-- The order of rows: by mark, then by loader, then by the bytes of the name that is shown.
use Rattle.std.specs.Prelude.{ℕ, List}
use Rattle.std.specs.Ordering.{nat_cmp, ordering_then}
use Rattle.std.specs.declared.cmp.Ordering.{Ordering}
use Rattle.std.specs.Cmp.Lexicographic.{slice_cmp}
use Rattle.cm_view_index.specs.declared.row.ViewRow.{ViewRow}
use Rattle.cm_view_index.specs.Rows.{name_of}

-- what a row is sorted by
pub record RowKey : Type 0 where
  pub mark : ℕ
  pub loader : ℕ
  pub name : List ℕ

abbrev pub key_of : List ℕ → ViewRow → RowKey
key_of bytes row = record { mark = row.mark; loader = row.loader; name = name_of bytes row }

abbrev pub cmp_keys : RowKey → RowKey → Ordering
cmp_keys a b =
    ordering_then (ordering_then (nat_cmp a.mark b.mark) (nat_cmp a.loader b.loader))
    (slice_cmp nat_cmp a.name b.name)
