use Rattle.std.proofs.Common.{◌∙◌, ◌++◌, length, take, ap, arith, length-append}
use Rattle.cm_record_layout.specs.Layout.{member_attributes, all_members}
use Rattle.cm_record_layout.specs.Packing.{fourth_of}
use Rattle.cm_record_parts.proofs.Heads.{whole}
use Rattle.cm_record_parts.proofs.PartPlaces.{among_all, member_there}
use Rattle.cm_record_parts.proofs.attributes.attributes_of_member.Goals as goal

pub returns : goal.returns
returns c = λ d own is there.
    let words = c.args.words.now in
    let before = member_attributes (take c.args.index (all_members d)) in
    let split = among_all d c.args.index own there in
    let found = member_there d words is c.args.index own c.member_place-place.result there
    c.member_place-place.ensures in
    record {
      before = before;
      after = split.0;
      all = split.1;
      at =
          omega (
            arith,
            c.offset_at.ensures,
            found.1,
            whole d words is,
            is.short,
            ap length split.1,
            length-append before (own.attributes ++ split.0),
          );
      count = c.fourth.ensures ∙ (ap fourth_of c.word_at.ensures ∙ found.0.count);
    }
