use Rattle.cm_verdict.proofs.Heads.{good_counts}
use Rattle.cm_verdict.proofs.counting.counting_half.Goals as goal

pub returns-clause-good : goal.returns-clause-good
returns-clause-good c =
    good_counts c.args.geometry c.args.head_0.now c.args.head_1.now c.chosen_half.result
    c.chosen_half.ensures
