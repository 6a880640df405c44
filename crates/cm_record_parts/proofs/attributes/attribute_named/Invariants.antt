use Rattle.std.proofs.Common.{◌≡◌, ◌<◌, ◌+◌, ◌*◌, ℕ, false, get_or}
use Rattle.cm_class.specs.declared.class_file.ClassFile.{ClassFile}
use Rattle.cm_record_layout.specs.Layout.{IsRecordOf}
use Rattle.cm_record_layout.specs.Packing.{first_of}
use Rattle.cm_class.specs.Names.{names_utf8}
use Rattle.cm_record_parts.proofs.attributes.attribute_named.Given as goal

abbrev pub invariant-loop-index : goal.invariant-loop-index
invariant-loop-index l = (c : ClassFile) → IsRecordOf c l.words → (k : ℕ) → k < l.index
    → names_utf8 c (first_of (get_or l.words (l.those.at + 2 * k) 0)) l.name ≡ false
