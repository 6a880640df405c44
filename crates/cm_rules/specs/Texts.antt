-- The text of what is wrong with a class: its shape, or a rule with the spot at which it breaks it.
use Rattle.std.specs.Prelude.{ℕ, List, ◌++◌, codes}
use Rattle.std.specs.Fmt.{decimal}
use Rattle.cm_rules.specs.declared.rule.Spot.{Spot}
use Rattle.cm_rules.specs.declared.rule.Spot.TheVariants as spot
use Rattle.cm_rules.specs.declared.rule.Broken.{Broken}
use Rattle.cm_rules.specs.declared.fault.BadClass.{BadClass}
use Rattle.cm_rules.specs.declared.fault.BadClass.TheVariants as bad
use Rattle.cm_rules.specs.Fault.{number}

abbrev pub spot_text : Spot → List ℕ
spot_text (spot.Pool index) = codes "pool " ++ decimal index
spot_text spot.This = codes "this"
spot_text spot.Super = codes "super"
spot_text (spot.Interface at) = codes "interface " ++ decimal at
spot_text (spot.Field at) = codes "field " ++ decimal at
spot_text (spot.Method at) = codes "method " ++ decimal at
spot_text (spot.Attribute at) = codes "attribute " ++ decimal at

abbrev pub broken_text : Broken → List ℕ
broken_text b = codes "V" ++ decimal (number b.rule) ++ codes " " ++ spot_text b.spot

abbrev pub bad_class_text : BadClass → List ℕ
bad_class_text bad.Truncated = codes "truncated"
bad_class_text (bad.Trailing at) = codes "trailing " ++ decimal at
bad_class_text (bad.Malformed at) = codes "malformed " ++ decimal at
bad_class_text (bad.Rule broken) = broken_text broken
