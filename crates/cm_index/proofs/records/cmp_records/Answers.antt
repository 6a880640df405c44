use Rattle.std.proofs.Common.{List, ℕ, ap, sym, ◌∙◌}
use Rattle.std.specs.Ordering.{nat_cmp}
use Rattle.std.specs.Cmp.Lexicographic.{slice_cmp}
use Rattle.cm_record.specs.Names.{class_name_of, class_name_in}
use Rattle.cm_index.proofs.records.cmp_records.Goals as goal

pub returns : goal.returns
returns c =
    let one = c.invariant_holds.ensures.laid in
    let two = c.invariant_holds-2.ensures.laid in
    c.cmp_name.ensures one.0 two.0 one.1 two.1
    ∙ ap (λ (x : List ℕ). slice_cmp nat_cmp x (class_name_of two.0))
    (sym (c.words_tell_name.ensures one.0 c.args.one.now one.1))
    ∙ ap (λ (x : List ℕ). slice_cmp nat_cmp (class_name_in c.args.one.now) x)
    (sym (c.words_tell_name.ensures two.0 c.args.other.now two.1))
