use Rattle.std.specs.Prelude.{IsErr}
use Rattle.cm_guards.proofs.Left.{one_read, reads_on}
use Rattle.cm_guards.proofs.laws.reads_change_nothing.Goals as goal

pub returns-clause-one : goal.returns-clause-one
returns-clause-one g c = λ old new r look.
    one_read g.D.Disk.view old new r g.met.D.Disk.only_now look

pub returns-clause-join : goal.returns-clause-join
returns-clause-join g c = λ a b d r s first second.
    reads_on g.D.Disk.view a b d (IsErr r) (IsErr s) first second
