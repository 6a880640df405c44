use Rattle.std.proofs.Common.{◌∙◌, ◌≡◌, [], ◌++◌, length, ap, sym, arith, length-append}
use Rattle.std.proofs.lemmas.List.{append-nil}
use Rattle.cm_record_layout.specs.Layout.{member_attributes, all_members}
use Rattle.cm_record_layout.specs.Packing.{fourth_of}
use Rattle.cm_record_parts.proofs.Heads.{own_read, runs_offset}
use Rattle.cm_record_parts.proofs.PartPlaces.{all_of_members}
use Rattle.cm_record_parts.proofs.attributes.attributes_of_class.Goals as goal

pub returns : goal.returns
returns c = λ d is.
    let before = member_attributes (all_members d) in
    let count : c.fourth-count.result ≡ length d.attributes =
    c.fourth-count.ensures ∙ (ap fourth_of c.word_at.ensures ∙ own_read d c.args.words.now is) in
    record {
      before = before;
      after = [];
      all = all_of_members d ∙ ap (λ w. before ++ w) (sym (append-nil d.attributes));
      at =
          omega (
            arith,
            c.saturating_sub.ensures,
            c.from.ensures,
            count,
            c.offset_at.ensures ∙ runs_offset d c.args.words.now is,
            ap length (all_of_members d),
            length-append before d.attributes,
          );
      count = count;
    }
