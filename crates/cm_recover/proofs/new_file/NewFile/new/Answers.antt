use Rattle.std.proofs.Common.{ap, length, arith}
use Rattle.cm_recover.proofs.Empty.{gate_inside}
use Rattle.cm_recover.proofs.new_file.NewFile.new.Goals as goal

pub index_mut-requires : goal.index_mut-requires
index_mut-requires c =
    let inside = gate_inside c.args.geometry c.invariant_holds.ensures in
    omega (arith, inside, ap length c.in_ok-bytes.ensures)
