use Rattle.std.proofs.Common.{length, ap, arith}
use Rattle.cm_class.specs.Reading.{attribute_at}
use Rattle.cm_class.proofs.InPlace.{counts}
use Rattle.cm_class.proofs.attributes.Attributes.len.Goals as goal

pub returns : goal.returns
returns c =
    omega (
      arith,
      c.from.ensures,
      counts attribute_at c.self.inside.count c.self.inside.bytes.now c.self.invariant,
      ap length c.self.view_is,
    )
