use Rattle.std.proofs.Common.{◌≡◌, ℕ, arith, rules, ap, subst, sym, ◌∙◌, get_or}
use Rattle.std.proofs.lemmas.List.{get_or_default}
use Rattle.std.proofs.lemmas.List.Sorted.{IsPartitionPoint-from_clause}
use Rattle.cm_view_index.specs.declared.row.ViewRow.{ViewRow}
use Rattle.cm_view_index.specs.Rows.{ShowsName}
use Rattle.cm_view_index.specs.Order.{RowKey, key_of}
use Rattle.cm_view_index.proofs.Searching.{is_early, parted, found_there}
use Rattle.cm_view_index.proofs.Orders.{keys_total, same_key}
use Rattle.cm_view_index.proofs.Twins.{keyed_so}
use Rattle.cm_view_index.proofs.index.find_at.Goals as goal
use Rattle.cm_view_index.proofs.index.find_at.Goals.{else-at-rows-via-then-at-rows+else-is_for}
use Rattle.cm_view_index.proofs.index.find_at.Goals.{else-at-rows-via-else-at-rows}

no_row : ViewRow
no_row = record { loader = 0; at = 0; words = 0; slot = 0; mark = 0 }

pub returns-else-at-rows-clause-none : goal.returns-else-at-rows-clause-none
unfolding no_row
returns-else-at-rows-clause-none c index k d lt owner shown =
    let bytes = c.args.bytes.now in
    let rows = c.args.rows.now in
    let loader = c.args.loader in
    let name = c.args.name.now in
    let at = c.partition_point-at.result in
    let wanted : RowKey = record { mark = c.mark_of-mark.result; loader = loader; name = name } in
    let read : get_or rows k d ≡ get_or rows k no_row = get_or_default rows k d no_row lt in
    let key : key_of bytes (get_or rows k no_row) ≡ wanted =
    keyed_so bytes rows index k no_row loader name lt
    (ap (λ (r : ViewRow). r.loader) (sym read) ∙ owner)
    (subst (λ (r : ViewRow). ShowsName bytes r name) read shown)
    ∙ ap (λ (m : ℕ). record { mark = m; loader = loader; name = name }) (sym c.mark_of-mark.ensures)
    in
    let point =
    IsPartitionPoint-from_clause (is_early keys_total (key_of bytes) rows index.sorted wanted) rows
    at c.partition_point-at.ensures.partitioned
    (parted keys_total (key_of bytes) rows index.sorted wanted) (λ a r q k. search rules) in
    let there =
    found_there keys_total (key_of bytes) rows index.sorted wanted at point k no_row lt key in
    let same = same_key (key_of bytes (get_or rows at no_row)) wanted there.1 in
    elim c.else-at-rows.branch [
      | else-at-rows-via-then-at-rows+else-is_for w ↦
          let yes_is = w.is_for.ensures.no same.loader same.name in
          let no_is = w.if-is_for.false in absurd (cc)
      | else-at-rows-via-else-at-rows w ↦
          let inside = there.0 in
          let past = w.if-at-rows.false in absurd (omega arith)
    ]
