use Rattle.std.proofs.Common.{refl}
use Rattle.cm_jar.specs.Crc.{shifts, are_shifts_from}
use Rattle.cm_jar.proofs.crc.shifted.Goals as goal

pub at_byte-requires : goal.at_byte-requires
unfolding shifts are_shifts_from
at_byte-requires c = refl
