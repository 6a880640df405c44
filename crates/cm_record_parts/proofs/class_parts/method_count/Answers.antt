use Rattle.std.proofs.Common.{◌∙◌, ap}
use Rattle.cm_record_layout.specs.Packing.{third_of}
use Rattle.cm_record_parts.proofs.Heads.{methods_read}
use Rattle.cm_record_parts.proofs.class_parts.method_count.Goals as goal

pub returns : goal.returns
returns c = λ d is. c.third.ensures ∙ (ap third_of c.word_at.ensures
    ∙ methods_read d c.args.words.now is)
