use Rattle.std.proofs.Common.{◌≡◌, ◌∙◌, ℕ, ap, subst}
use Rattle.cm_class.specs.Names.{class_name as class_name_at}
use Rattle.cm_record_layout.specs.Packing.{second_of}
use Rattle.cm_record_parts.specs.Places.{LieAt}
use Rattle.cm_record_parts.proofs.Heads.{this_read}
use Rattle.cm_record_parts.proofs.class_parts.class_name.Goals as goal

pub returns : goal.returns
returns c = λ d is.
    let this : c.second.result ≡ d.this_class =
    c.second.ensures ∙ (ap second_of c.word_at.ensures ∙ this_read d c.args.words.now is) in
    subst (λ (n : ℕ). LieAt c.args.words.now c.name_place.result (class_name_at d n)) this
    (c.name_place.ensures d is)
