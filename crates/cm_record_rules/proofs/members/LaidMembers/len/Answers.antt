use Rattle.std.proofs.Common.{length, ap, arith}
use Rattle.cm_record_rules.proofs.Iterators.{members_count}
use Rattle.cm_record_rules.proofs.members.LaidMembers.len.Goals as goal

pub returns-clause-len : goal.returns-clause-len
returns-clause-len c =
    omega (
      arith,
      c.from.ensures,
      c.min.ensures,
      members_count c.self.inside.all.now c.self.inside.bytes.now c.self.inside.count
          c.self.inside.rest.now,
      ap length c.self.view_is,
    )

pub returns-clause-short : goal.returns-clause-short
returns-clause-short c =
    omega (
      arith,
      members_count c.self.inside.all.now c.self.inside.bytes.now c.self.inside.count
          c.self.inside.rest.now,
      ap length c.self.view_is,
    )
