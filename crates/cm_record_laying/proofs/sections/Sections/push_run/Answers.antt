use Rattle.std.proofs.Common.{arith}
use Rattle.cm_record_layout.proofs.{packed_len}
use Rattle.cm_record_laying.proofs.Steps.{some_there}
use Rattle.cm_record_laying.proofs.sections.Sections.push_run.Goals as goal

pub push_run-requires : goal.push_run-requires
push_run-requires c =
    omega (
      arith,
      packed_len c.args.bytes.now,
      some_there c.args.bytes.now (c.if-is_empty.ensures {u = tt}),
    )
