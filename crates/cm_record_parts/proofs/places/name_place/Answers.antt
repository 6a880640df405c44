use Rattle.std.proofs.Common.{◌∙◌, ap, subst, sym}
use Rattle.cm_class.specs.Names.{class_name}
use Rattle.cm_record.specs.Constants.{constant_at_index}
use Rattle.cm_record.specs.Runs.{class_link}
use Rattle.cm_record_parts.specs.declared.places.Place.{Place}
use Rattle.cm_record_parts.specs.Places.{LieAt, place_of_utf8}
use Rattle.cm_record_parts.proofs.TextPlaces.{name_lies}
use Rattle.cm_record_parts.proofs.places.name_place.Goals as goal

pub returns : goal.returns
returns c = λ d is.
    subst (λ (p : Place). LieAt c.args.words.now p (class_name d c.args.index))
    (sym (c.place_of_utf8.ensures ∙ ap place_of_utf8 (c.constant_at_index-2.ensures
    ∙ ap (λ n. constant_at_index c.args.words.now n) (c.class_link-name.ensures
    ∙ ap class_link c.constant_at_index.ensures))))
    (name_lies d c.args.words.now is c.args.index)
