use Rattle.std.proofs.Common.{arith}
use Rattle.cm_record.proofs.RunBytes.{run_fits}
use Rattle.cm_record.proofs.code.code_in_run.Goals as goal

pub overflow_add-result-3 : goal.overflow_add-result-3
overflow_add-result-3 c =
    record {
      fits =
          omega (
            arith,
            run_fits c.args.words.now c.args.run c.requires.run.0 c.requires.run.1,
            c.requires.short,
            c.if-run-before.false,
          );
    }
