use Rattle.std.proofs.Common.{◌≡◌, ◌∙◌, ℕ, Bool, false, Some, None, ap, subst, sym}
use Rattle.std.specs.Prelude.{◌==◌, if◌then◌else◌}
use Rattle.std.proofs.lemmas.Bool.{ne_eqb}
use Rattle.cm_class.specs.Names.{class_name as class_name_at}
use Rattle.cm_record_layout.specs.Packing.{third_of}
use Rattle.cm_record_parts.specs.Places.{LieAt, MayLieAt}
use Rattle.cm_record_parts.proofs.Heads.{super_read}
use Rattle.cm_record_parts.proofs.class_parts.super_name.Goals as goal

pub returns-then-index-eq0 : goal.returns-then-index-eq0
returns-then-index-eq0 c = λ d is.
    let none : d.super_class ≡ 0 =
    sym (c.third-index.ensures ∙ (ap third_of c.word_at.ensures
    ∙ super_read d c.args.words.now is)) ∙ c.if-index-eq0.true in
    subst (λ (n : ℕ). MayLieAt c.args.words.now None
    (if n == 0 then None else Some (class_name_at d n))) (sym none) tt

pub returns : goal.returns
returns c = λ d is.
    let one : c.third-index.result ≡ d.super_class =
    c.third-index.ensures ∙ (ap third_of c.word_at.ensures
    ∙ super_read d c.args.words.now is) in
    let some : (d.super_class == 0) ≡ false =
    ne_eqb d.super_class 0 (λ e. c.if-index-eq0.false (one ∙ e)) in
    subst (λ (b : Bool). MayLieAt c.args.words.now (Some c.name_place.result)
    (if b then None else Some (class_name_at d d.super_class))) (sym some)
    (subst (λ (n : ℕ). LieAt c.args.words.now c.name_place.result (class_name_at d n)) one
    (c.name_place.ensures d is))
