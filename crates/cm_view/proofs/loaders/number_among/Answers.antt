use Rattle.std.proofs.Common.{◌≡◌, arith, rules, ap, sym, ◌∙◌, get_or}
use Rattle.std.proofs.lemmas.Cmp.{nat_list_cmp_total}
use Rattle.std.proofs.lemmas.List.{get_or_default}
use Rattle.std.proofs.lemmas.List.Sorted.{IsPartitionPoint-from_clause}
use Rattle.cm_layout.specs.declared.loader_row.LoaderRow.{LoaderRow}
use Rattle.cm_view_index.proofs.{is_early, parted, found_there, names_same}
use Rattle.cm_view.proofs.loaders.number_among.Goals as goal
use Rattle.cm_view.proofs.loaders.number_among.Goals.{else-at-rows-via-then-at-rows+else-is_named}
use Rattle.cm_view.proofs.loaders.number_among.Goals.{else-at-rows-via-else-at-rows}

pub returns-else-at-rows-clause-none : goal.returns-else-at-rows-clause-none
returns-else-at-rows-clause-none c sorted k d lt named =
    let loaders = c.args.rows.now in
    let name = c.args.name.now in
    let at = c.partition_point-at.result in
    let key = λ (r : LoaderRow). r.name in
    let point =
    IsPartitionPoint-from_clause (is_early nat_list_cmp_total key loaders sorted name) loaders at
    c.partition_point-at.ensures.partitioned (parted nat_list_cmp_total key loaders sorted name)
    (λ a r q k. search rules) in
    let there =
    found_there nat_list_cmp_total key loaders sorted name at point k d lt named in
    elim c.else-at-rows.branch [
      | else-at-rows-via-then-at-rows+else-is_named w ↦
          let one = w.index-rows-at.result in
          let read : get_or loaders at d ≡ one =
          get_or_default loaders at d one there.0 ∙ sym w.index-rows-at.is in
          let same : one.name ≡ name =
          ap (λ (r : LoaderRow). r.name) (sym read)
          ∙ names_same (get_or loaders at d).name name there.1
          in
          let yes_is = w.is_named.ensures.1 same in
          let no_is = w.if-is_named.false in absurd (cc)
      | else-at-rows-via-else-at-rows w ↦
          let inside = there.0 in
          let past = w.if-at-rows.false in absurd (omega arith)
    ]
