use Rattle.std.proofs.Common.{◌∙◌, ℕ, ap, subst}
use Rattle.cm_class.specs.Names.{utf8}
use Rattle.cm_record_layout.specs.Packing.{first_of, second_of, third_of, fourth_of}
use Rattle.cm_record_parts.specs.Places.{LieAt}
use Rattle.cm_record_parts.proofs.PartPlaces.{member_there}
use Rattle.cm_record_parts.proofs.members.member_at.Goals as goal

pub returns : goal.returns
returns c = λ d own is there.
    let words = c.args.words.now in
    let n = (member_there d words is c.args.index own c.member_place.result there
    c.member_place.ensures).0 in
    let word = c.word_at-word.ensures in
    record {
      flags = c.first.ensures ∙ (ap first_of word ∙ n.flags);
      name =
          subst (λ (k : ℕ). LieAt words c.utf8_place.result (utf8 d k))
          (c.second.ensures ∙ (ap second_of word ∙ n.name)) (c.utf8_place.ensures d is);
      descriptor =
          subst (λ (k : ℕ). LieAt words c.utf8_place-2.result (utf8 d k))
          (c.third.ensures ∙ (ap third_of word ∙ n.descriptor)) (c.utf8_place-2.ensures d is);
      attributes = c.fourth.ensures ∙ (ap fourth_of word ∙ n.count);
    }
