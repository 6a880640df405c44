use Rattle.std.proofs.Common.{[]}
use Rattle.cm_commit.proofs.move_records.is_alone.Goals as goal

pub returns-in-None : goal.returns-in-None
returns-in-None c = (λ t. absurd (cc), λ e. absurd (c.in-None.ensures [] e))
