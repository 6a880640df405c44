use Rattle.std.proofs.Common.{◌∙◌, ap}
use Rattle.cm_record.specs.Constants.{constant_at_index}
use Rattle.cm_record.proofs.Constants.{constant_is}
use Rattle.cm_record_layout.proofs.{lay_short}
use Rattle.cm_record.proofs.record.Record.constant.Goals as goal

pub returns : goal.returns
returns c = λ d is.
    c.constant_at_index.ensures
    ∙ (ap (λ w. constant_at_index w c.args.index) (c.as_slice.ensures.words ∙ is.laid)
    ∙ constant_is d is.spelled (lay_short d c.args.self.now is) c.args.index)
