use Rattle.std.proofs.Common.{◌∙◌, ap}
use Rattle.cm_record_layout.specs.Packing.{second_of}
use Rattle.cm_record_parts.proofs.Heads.{fields_read}
use Rattle.cm_record_parts.proofs.class_parts.field_count.Goals as goal

pub returns : goal.returns
returns c = λ d is. c.second.ensures ∙ (ap second_of c.word_at.ensures
    ∙ fields_read d c.args.words.now is)
