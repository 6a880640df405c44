use Rattle.cm_rules.proofs.OneAnswer.{only_reading}
use Rattle.cm_rules.proofs.read.read_class.Goals as goal

pub returns-clause-only : goal.returns-clause-only
returns-clause-only c =
    only_reading c.args.bytes.now c.read_and_judge.result c.read_and_judge.ensures
