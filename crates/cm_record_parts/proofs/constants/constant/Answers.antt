use Rattle.std.proofs.Common.{◌∙◌}
use Rattle.cm_record_parts.proofs.PoolConstants.{constant_read}
use Rattle.cm_record_parts.proofs.constants.constant.Goals as goal

pub returns : goal.returns
returns c = λ d is. c.constant_at_index.ensures ∙ constant_read d c.args.words.now is c.args.index
