use Rattle.std.proofs.Common.{List, subst, sym}
use Rattle.cm_disk.specs.declared.disk.WordRange.{WordRange}
use Rattle.cm_region_disk.specs.Opening.{IsWithoutRecords}
use Rattle.cm_region_disk.proofs.Begun.{records_read}
use Rattle.cm_region_disk.proofs.opening.disk_of.Goals as goal

pub returns-clause-read : goal.returns-clause-read
returns-clause-read g c =
    let e = c.read_words.ensures in
    records_read c.args.opened c.in_ok-disk.disk c.deref.result.now c.read_words.result
    (subst (λ (l : List WordRange). IsWithoutRecords c.args.opened c.in_ok-disk.disk l)
    (sym c.deref.ensures.value) (c.in_ok-disk.ensures {u = tt}).read)
    e.device e.len e.begins e.bytes e.words
