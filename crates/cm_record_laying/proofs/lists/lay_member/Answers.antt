use Rattle.std.proofs.Common.{◌≡◌, ◌∷◌, [], ◌++◌, refl, ap, ◌∙◌}
use Rattle.std.proofs.lemmas.Option.{IfSome_then}
use Rattle.cm_class.specs.Spelling.{u2}
use Rattle.cm_record_layout.specs.Packing.{four_numbers}
use Rattle.cm_record_laying.specs.Laying.{next_attribute}
use Rattle.cm_record_laying.proofs.Steps.{adds_then, adds_as}
use Rattle.cm_record_laying.proofs.ConstantsLaid.{both_spelled}
use Rattle.cm_record_laying.proofs.Joins.{member_laid}
use Rattle.cm_record_laying.proofs.lists.lay_member.Goals as goal

pub returns : goal.returns
returns c =
    let s = c.args.sections.now in
    let bytes = c.args.bytes.now in
    let flags = c.in_ok-flags.flags in
    let name = c.in_ok-name.name in
    let descriptor = c.in_ok-descriptor.descriptor in
    let count = c.in_ok-count.count in
    let one = c.in_ok-flags.ensures {u = tt} in
    let two = c.in_ok-name.ensures {u = tt} in
    let three = c.in_ok-descriptor.ensures {u = tt} in
    let four = c.in_ok-count.ensures {u = tt} in
    let first : c.four_numbers.result ≡ four_numbers flags name descriptor count =
    c.four_numbers.ensures in
    let second : c.in_ok-at.at ≡ next_attribute s = c.in_ok-at.ensures {u = tt} in
    IfSome_then c.lay_attributes.result c.lay_attributes.ensures (λ rest those.
    member_laid flags name descriptor count bytes c.in_ok-count.rest.now rest.now s
    c.push_word-2.new.self c.lay_attributes.new.sections one.1 two.1 three.1 four.1
    (both_spelled bytes (u2 flags ++ u2 name ++ u2 descriptor) c.in_ok-descriptor.rest.now
    (u2 count) c.in_ok-count.rest.now
    (both_spelled bytes (u2 flags ++ u2 name) c.in_ok-name.rest.now (u2 descriptor)
    c.in_ok-descriptor.rest.now
    (both_spelled bytes (u2 flags) c.in_ok-flags.rest.now (u2 name) c.in_ok-name.rest.now one.0
    two.0) three.0) four.0)
    (adds_as s c.push_word-2.new.self _ [] []
    (adds_then s c.push_word.new.self (c.four_numbers.result ∷ []) [] []
    (c.in_ok-push_word.ensures {u = tt}) c.push_word-2.new.self (c.in_ok-at.at ∷ []) [] []
    (c.in_ok-push_word-2.ensures {u = tt}))
    (four_numbers flags name descriptor count ∷ next_attribute s ∷ []) [] []
    (λ i. first i ∷ second i ∷ []) refl refl)
    those)
