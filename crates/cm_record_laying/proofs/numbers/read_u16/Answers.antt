use Rattle.cm_record_laying.proofs.Fronts.{front_2}
use Rattle.cm_record_laying.proofs.numbers.read_u16.Goals as goal

pub returns : goal.returns
returns c =
    let parts = c.in_ok-two.ensures.cases in (
      front_2 c.args.bytes.now c.in_ok-two.two.now c.in_ok-two.rest.now
          c.from_be_bytes.result parts.0 parts.1 parts.2 c.type_inv.bytes c.from_be_bytes.ensures,
      c.from_be_bytes.type_inv,
    )
