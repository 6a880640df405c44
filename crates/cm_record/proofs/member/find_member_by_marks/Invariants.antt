use Rattle.std.proofs.Common.{◌≡◌, ◌<◌, ◌+◌, ◌*◌, ℕ, false, get_or}
use Rattle.cm_class.specs.declared.class_file.ClassFile.{ClassFile}
use Rattle.cm_record_layout.specs.Layout.{IsRecordOf}
use Rattle.cm_record_layout.specs.Packing.{second_of, third_of}
use Rattle.cm_record.specs.Members.{leads_to}
use Rattle.cm_record.proofs.member.find_member_by_marks.Given as goal

abbrev pub invariant-loop-index : goal.invariant-loop-index
invariant-loop-index l = (c : ClassFile) → IsRecordOf c l.words → (k : ℕ) → k < l.index
    → leads_to c l.name l.descriptor (second_of (get_or l.words (l.at + 2 * k) 0))
    (third_of (get_or l.words (l.at + 2 * k) 0)) ≡ false
