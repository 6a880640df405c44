use Rattle.std.proofs.Common.{◌∙◌, ap}
use Rattle.cm_record_layout.specs.Packing.{fourth_of}
use Rattle.cm_record_parts.proofs.Heads.{interfaces_read}
use Rattle.cm_record_parts.proofs.class_parts.interface_count.Goals as goal

pub returns : goal.returns
returns c = λ d is. c.fourth.ensures ∙ (ap fourth_of c.word_at.ensures
    ∙ interfaces_read d c.args.words.now is)
