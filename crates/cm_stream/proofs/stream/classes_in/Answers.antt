use Rattle.cm_stream.proofs.Streams.{answered}
use Rattle.std.proofs.Common.{map}
use Rattle.cm_stream.proofs.stream.classes_in.Goals as goal

pub returns-clause-only : goal.returns-clause-only
returns-clause-only c =
    answered (λ v. map (λ class. class.now) v.items) c.args.bytes.now c.split.result
    c.split.ensures.ok c.split.ensures.fault
