use Rattle.std.proofs.Common.{◌<◌, ◌∙◌, length, ap, arith, zero-add}
use Rattle.cm_jar.specs.Crc.{shifts}
use Rattle.cm_jar.proofs.CrcLaws.{shifts_in_table}
use Rattle.cm_jar.proofs.crc.at_byte.Goals as goal

pub returns : goal.returns
returns c =
    let within : c.from.result < length c.args.table.now = omega arith in
    shifts_in_table c.args.table.now 0 c.from.result c.requires within
    ∙ ap (shifts 8) (zero-add c.from.result ∙ c.from.ensures)
