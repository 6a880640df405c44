use Rattle.std.proofs.Common.{◌∙◌, ap, subst, sym}
use Rattle.cm_class.specs.Names.{utf8}
use Rattle.cm_record_parts.specs.declared.places.Place.{Place}
use Rattle.cm_record_parts.specs.Places.{LieAt, place_of_utf8}
use Rattle.cm_record_parts.proofs.TextPlaces.{utf8_lies}
use Rattle.cm_record_parts.proofs.places.utf8_place.Goals as goal

pub returns : goal.returns
returns c = λ d is.
    subst (λ (p : Place). LieAt c.args.words.now p (utf8 d c.args.index))
    (sym (c.place_of_utf8.ensures ∙ ap place_of_utf8 c.constant_at_index.ensures))
    (utf8_lies d c.args.words.now is c.args.index)
