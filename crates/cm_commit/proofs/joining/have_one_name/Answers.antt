use Rattle.cm_commit.proofs.Testing.{one_name}
use Rattle.cm_commit.proofs.joining.have_one_name.Goals as goal

pub returns : goal.returns
returns c =
    one_name c.args.one.now c.args.other.now c.same_name.result c.words_tell_name.ensures
    c.invariant_holds.ensures.laid c.invariant_holds-2.ensures.laid c.same_name.ensures
