use Rattle.cm_commit.proofs.Guards.{guarded, guard_bounded}
use Rattle.cm_commit.proofs.laws.committed_is_guarded.Goals as goal

pub returns : goal.returns
returns g = λ c right. record { guards = guarded c right; bounded = guard_bounded c right }
