use Rattle.std.proofs.Common.{arith}
use Rattle.cm_record_rules.proofs.Iterators.{attributes_count}
use Rattle.cm_record_rules.proofs.attributes.LaidAttributes.new.Goals as goal

pub returns-clause-short : goal.returns-clause-short
returns-clause-short c =
    omega (
      arith,
      c.ranges.count,
      attributes_count c.args.bytes.now c.args.count c.words_from.result.now,
    )
