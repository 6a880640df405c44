use Rattle.std.proofs.Common.{List, ℕ, ap, sym, ◌∙◌}
use Rattle.std.specs.Ordering.{nat_cmp}
use Rattle.std.specs.Cmp.Lexicographic.{slice_cmp}
use Rattle.cm_index.proofs.records.cmp_record_to.Goals as goal

pub returns : goal.returns
returns c =
    let is = c.invariant_holds.ensures.laid in
    c.cmp_name_to.ensures is.0 is.1
    ∙ ap (λ (x : List ℕ). slice_cmp nat_cmp x c.args.bytes.now)
    (sym (c.words_tell_name.ensures is.0 c.args.class.now is.1))
