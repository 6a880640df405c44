use Rattle.std.proofs.Common.{◌∙◌, Some, None, ap, sym}
use Rattle.cm_class.specs.Names.{utf8}
use Rattle.cm_record_parts.specs.Places.{text_place}
use Rattle.cm_record_parts.proofs.TextPlaces.{named_by, text_lies}
use Rattle.cm_record_parts.proofs.texts.is_utf8.Goals as goal

pub returns-in-Some : goal.returns-in-Some
returns-in-Some c = λ d is.
    let found = c.text_place.ensures ∙ ap text_place c.constant_at_index.ensures in
    c.lies_at.ensures (utf8 d c.args.index)
    (text_lies d c.args.words.now is c.args.index c.in-Some.place (sym found ∙ c.in-Some.is))
    ∙ sym (named_by d c.args.words.now is c.args.index (Some c.in-Some.place)
    (sym c.in-Some.is ∙ found) c.args.bytes.now)

pub returns-in-None : goal.returns-in-None
returns-in-None c = λ d is.
    let found = c.text_place.ensures ∙ ap text_place c.constant_at_index.ensures in
    sym (named_by d c.args.words.now is c.args.index None (sym c.in-None.is ∙ found)
    c.args.bytes.now)
