use Rattle.std.proofs.Common.{◌≡◌, ◌≤◌, ◌<◌, ◌+◌, ◌^◌, ℕ, false, length, get_or}
use Rattle.cm_class.specs.declared.class_file.ClassFile.{ClassFile}
use Rattle.cm_class.specs.Names.{names_utf8}
use Rattle.cm_record_layout.specs.Layout.{IsRecordOf}
use Rattle.cm_record.specs.Constants.{is_second_word}
use Rattle.cm_record.proofs.marks.Marks.of.Given as goal

abbrev pub invariant-loop-index : goal.invariant-loop-index
invariant-loop-index l = record {
  long : length l.leads ≡ 2 ^ 16;
  second : l.is_second ≡ is_second_word l.words (8 + l.index);
  marked : (c : ClassFile) → IsRecordOf c l.words → (k : ℕ) → k < l.index → get_or l.leads k false
      ≡ names_utf8 c k l.bytes;
  rest : (k : ℕ) → l.index ≤ k → k < 2 ^ 16 → get_or l.leads k false ≡ false;
}
