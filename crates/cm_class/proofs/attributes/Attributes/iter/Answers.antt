use Rattle.std.proofs.Common.{arith}
use Rattle.cm_class.specs.Reading.{attribute_at}
use Rattle.cm_class.proofs.InPlace.{counts}
use Rattle.cm_class.proofs.attributes.Attributes.iter.Goals as goal

pub returns-clause-short : goal.returns-clause-short
returns-clause-short c =
    omega (
      arith,
      counts attribute_at c.self.inside.count c.self.inside.bytes.now c.self.invariant,
      c.self.ranges,
    )
