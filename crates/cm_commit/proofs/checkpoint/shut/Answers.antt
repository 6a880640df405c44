use Rattle.std.proofs.Common.{[]}
use Rattle.cm_commit.specs.Steps.{half_gate, renewed_half}
use Rattle.cm_commit.proofs.CheckpointCalls.{shut_takes}
use Rattle.cm_commit.proofs.checkpoint.shut.Goals as goal

pub write_gate-requires : goal.write_gate-requires
write_gate-requires g c =
    let j = c.args.journal.now in
    record {
      fits = shut_takes j.other_open (half_gate j) (renewed_half j []) _ c.if-journal.true
          (c.requires.fits []);
    }
