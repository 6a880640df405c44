-- What is determined once for each Utf8, however many constants and members name it.
use Rattle.std.specs.Prelude.{ℕ, List, []}
use Rattle.cm_class.specs.declared.constant.Slot.{Slot}
use Rattle.cm_class.specs.declared.constant.Slot.TheVariants.{Usable, Unusable}
use Rattle.cm_class.specs.Names.{utf8_in}
use Rattle.cm_descriptors.specs.declared.judgement.Judgement.{Judgement}
use Rattle.cm_descriptors.specs.Judgement.{judgement}

abbrev pub slot_utf8 : Slot → List ℕ
slot_utf8 (Usable c) = utf8_in c
slot_utf8 Unusable = []

-- what is determined for the Utf8 in a slot; if there is none, the result for no bytes
abbrev pub judgement_in : Slot → Judgement
judgement_in slot = judgement (slot_utf8 slot)
