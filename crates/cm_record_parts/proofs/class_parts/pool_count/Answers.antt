use Rattle.std.proofs.Common.{◌∙◌, ap}
use Rattle.cm_record_layout.specs.Packing.{first_of}
use Rattle.cm_record_parts.proofs.Heads.{count_read}
use Rattle.cm_record_parts.proofs.class_parts.pool_count.Goals as goal

pub returns : goal.returns
returns c = λ d is. c.first.ensures ∙ (ap first_of c.word_at.ensures
    ∙ count_read d c.args.words.now is)
