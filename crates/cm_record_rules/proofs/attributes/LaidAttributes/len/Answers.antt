use Rattle.std.proofs.Common.{length, ap, arith}
use Rattle.cm_record_rules.proofs.Iterators.{attributes_count}
use Rattle.cm_record_rules.proofs.attributes.LaidAttributes.len.Goals as goal

pub returns-clause-len : goal.returns-clause-len
returns-clause-len c =
    omega (
      arith,
      c.from.ensures,
      c.min.ensures,
      attributes_count c.self.inside.bytes.now c.self.inside.count c.self.inside.rest.now,
      ap length c.self.view_is,
    )

pub returns-clause-short : goal.returns-clause-short
returns-clause-short c =
    omega (
      arith,
      attributes_count c.self.inside.bytes.now c.self.inside.count c.self.inside.rest.now,
      ap length c.self.view_is,
    )
