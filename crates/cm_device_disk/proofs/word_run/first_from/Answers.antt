use Rattle.std.proofs.Common.{rules, nat_lt}
use Rattle.std.proofs.lemmas.List.Sorted.{IsPartitionPoint-from_clause, IsPartitionedBy-ltb}
use Rattle.cm_device_disk.specs.declared.word_run.WordRun.{WordRun}
use Rattle.cm_device_disk.proofs.word_run.first_from.Goals as goal

pub returns-clause-first : goal.returns-clause-first
returns-clause-first c ordered =
    IsPartitionPoint-from_clause (λ (r : WordRun). nat_lt r.at c.args.at) c.args.runs.now
    c.partition_point.result c.partition_point.ensures.partitioned
    (IsPartitionedBy-ltb (λ (r : WordRun). r.at) c.args.runs.now c.args.at ordered)
    (λ a r f k. search rules)
