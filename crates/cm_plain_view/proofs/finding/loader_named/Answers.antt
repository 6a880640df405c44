use Rattle.std.proofs.Common.{◌≡◌, arith, rules, ap, sym, ◌∙◌, get_or}
use Rattle.std.proofs.lemmas.Cmp.{nat_list_cmp_total}
use Rattle.std.proofs.lemmas.List.{get_or_default}
use Rattle.std.proofs.lemmas.List.Sorted.{IsPartitionPoint-from_clause}
use Rattle.cm_view_index.proofs.{is_early, parted, found_there, names_same}
use Rattle.cm_plain_view.specs.Loaders.{loader_name}
use Rattle.cm_plain_view.proofs.finding.loader_named.Goals as goal

pub returns-else-at-loaders-clause-none : goal.returns-else-at-loaders-clause-none
returns-else-at-loaders-clause-none c sorted k d lt named =
    let loaders = c.args.loaders.now in
    let name = c.args.name.now in
    let at = c.partition_point-at.result in
    let point =
    IsPartitionPoint-from_clause (is_early nat_list_cmp_total loader_name loaders sorted name)
    loaders at c.partition_point-at.ensures.partitioned
    (parted nat_list_cmp_total loader_name loaders sorted name) (λ a r q k. search rules) in
    let there =
    found_there nat_list_cmp_total loader_name loaders sorted name at point k d lt named in
    elim c.else-at-loaders.branch [
      | goal.else-at-loaders-via-then-at-loaders+else-is_named w ↦
          let yes_is = w.is_named.ensures.1
          (ap loader_name (sym (get_or_default loaders at d _ there.0))
          ∙ names_same (loader_name (get_or loaders at d)) name there.1) in
          let no_is = w.if-is_named.false in absurd (cc)
      | goal.else-at-loaders-via-else-at-loaders w ↦
          let inside = there.0 in
          let past = w.if-at-loaders.false in absurd (omega arith)
    ]
