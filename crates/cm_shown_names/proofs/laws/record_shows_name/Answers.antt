use Rattle.std.proofs.Common.{arith}
use Rattle.cm_record_layout.proofs.{bytes_from}
use Rattle.cm_shown_names.proofs.Shows.{shows}
use Rattle.cm_shown_names.proofs.laws.record_shows_name.Goals as goal

pub returns : goal.returns
returns c n k long is itself =
    shows n c.args.bytes.now k
    (bytes_from c.args.bytes.now (λ i lt. omega (arith, c.type_inv.bytes i))) long is itself
