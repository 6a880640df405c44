use Rattle.std.proofs.Common.{ap, sym, ◌∙◌}
use Rattle.std.specs.Ordering.{nat_cmp, ordering_reverse}
use Rattle.std.specs.Cmp.Lexicographic.{slice_cmp}
use Rattle.std.proofs.lemmas.Cmp.{nat_list_cmp_total}
use Rattle.cm_index.proofs.search.cmp_names.Goals as goal

pub returns-in-Loader-Of : goal.returns-in-Loader-Of
returns-in-Loader-Of g c =
    let name = g.P.Kept.name c.in-Loader-Of.class.now in
    rw (c.in-Loader-Of.is-0, c.in-Loader-Of.is-1)
    (c.reverse.ensures ∙ ap ordering_reverse
    (c.cmp_name_to.ensures ∙ ap (slice_cmp nat_cmp name) c.as_bytes-in-Loader-Of.ensures.value)
    ∙ sym (nat_list_cmp_total.antisymm c.in-Loader-Of.row.name name))
