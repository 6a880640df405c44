use Rattle.std.proofs.Common.{◌∙◌, ap, get_or}
use Rattle.cm_record_layout.specs.Packing.{first_of}
use Rattle.cm_record_layout.proofs.{flags_read}
use Rattle.cm_record.proofs.record.Record.flags.Goals as goal

pub returns : goal.returns
returns c = λ d is. c.first.ensures ∙ (ap
    (λ w. first_of (get_or w 1 0)) c.as_slice.ensures.words ∙ flags_read d c.args.self.now is)
