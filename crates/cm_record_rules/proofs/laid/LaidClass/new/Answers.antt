use Rattle.cm_record_rules.proofs.Whole.{class_in_is_of}
use Rattle.cm_record_rules.proofs.laid.LaidClass.new.Goals as goal

pub invariant_of-result : goal.invariant_of-result
invariant_of-result c = record {
  record_of = class_in_is_of c.args.words.now c.requires.record;
  bytes_are = c.requires.bytes;
  tags_are = c.requires.tags;
}
