use Rattle.cm_record_laying.proofs.Fronts.{front_8}
use Rattle.cm_record_laying.proofs.numbers.read_u64.Goals as goal

pub returns : goal.returns
returns c =
    let parts = c.in_ok-eight.ensures.cases in (
      front_8 c.args.bytes.now c.in_ok-eight.eight.now c.in_ok-eight.rest.now
          c.from_be_bytes.result parts.0 parts.1 parts.2 c.type_inv.bytes c.from_be_bytes.ensures,
      c.from_be_bytes.type_inv,
    )
