use Rattle.std.proofs.Common.{◌≡◌, ◌-◌, length, get_or, Some, rules}
use Rattle.cm_record_reading.specs.declared.entry.DirectoryEntry.TheVariants as entry
use Rattle.cm_record_reading.specs.Reading.{entry_of}
use Rattle.cm_record_reading.proofs.Taken.{entry_taken}
use Rattle.cm_record_reading.proofs.spelling.spell_constant.Goals as goal

pub put_constant-requires : goal.put_constant-requires
put_constant-requires c =
    let at = c.args.total - length c.args.runs.now in
    let word = get_or c.args.main.now 0 0 in
    let found : entry_of at word ≡ Some (entry.Whole c.in-Whole.constant) = search rules in
    (entry_taken at word (entry.Whole c.in-Whole.constant) found).fits.other
