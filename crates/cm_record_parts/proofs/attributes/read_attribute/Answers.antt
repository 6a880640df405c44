use Rattle.std.proofs.Common.{◌∙◌, ℕ, ap, subst, arith}
use Rattle.cm_class.specs.Names.{utf8}
use Rattle.cm_record_layout.specs.Packing.{first_of, upper_of}
use Rattle.cm_record_parts.specs.Places.{LieAt}
use Rattle.cm_record_parts.proofs.PartPlaces.{attribute_there}
use Rattle.cm_record_parts.proofs.attributes.read_attribute.Goals as goal

pub returns : goal.returns
returns c = λ d k own is there ep.
    let words = c.args.words.now in
    let a = attribute_there d words is k own c.args.at there ep in
    let word = c.word_at-word.ensures in
    let small = a.small in
    record {
      name =
          subst (λ (n : ℕ). LieAt words c.utf8_place.result (utf8 d n))
          (c.first.ensures ∙ (ap first_of word ∙ a.name)) (c.utf8_place.ensures d is);
      content =
          a.content _ (omega (arith, c.offset_at.ensures, small))
          (c.upper.ensures ∙ (ap upper_of word ∙ a.len));
    }
