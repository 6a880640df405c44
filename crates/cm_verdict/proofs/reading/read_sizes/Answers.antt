use Rattle.std.proofs.Common.{ℕ, ap, sym, ◌∙◌, refl, length, take, arith}
use Rattle.cm_guards.proofs.{one_read}
use Rattle.cm_verdict.specs.Found.{sizes_found}
use Rattle.cm_verdict.proofs.Parts.{part_long}
use Rattle.cm_verdict.specs.declared.fault.OpenFault.TheVariants as open_fault
use Rattle.cm_verdict.proofs.Halves.{short_file}
use Rattle.cm_verdict.proofs.Readings.{then_reads, no_more, ok_no_fault, ok_no_err}
use Rattle.cm_verdict.proofs.reading.read_sizes.Goals as goal

pub returns-then-long-clause-sizes : goal.returns-then-long-clause-sizes
returns-then-long-clause-sizes g c =
    let contents = g.D.Disk.view.contents c.args.disk.now in
    short_file (length contents) (take 4096 contents) (omega (arith, c.in_ok-long.ensures.len))

pub find_sizes-requires : goal.find_sizes-requires
find_sizes-requires g c =
    let contents = g.D.Disk.view.contents c.len.new.self in
    let long = part_long 0 4096 contents
    (omega (arith, ap length c.len.ensures.looks.same, c.in_ok-long.ensures.len)) in
    omega (arith, ap length c.deref.ensures.value, ap length c.in_ok-block.ensures.bytes, long)

pub returns-clause-sizes : goal.returns-clause-sizes
returns-clause-sizes g c =
    let contents = g.D.Disk.view.contents c.args.disk.now in
    let block = c.deref.result.now in
    let same = c.deref.ensures.value
    ∙ (c.in_ok-block.ensures.bytes ∙ ap (take 4096) c.len.ensures.looks.same) in
    sym (c.in_ok-geometry.ensures {u = tt}
    ∙ (ap (λ (long : ℕ). sizes_found long block) c.in_ok-long.ensures.len
    ∙ ap (sizes_found (length contents)) same))

pub returns-clause-reads : goal.returns-clause-reads
returns-clause-reads g c =
    let disk = g.D.Disk in
    let len =
    one_read disk.view
    c.args.disk.now c.len.new.self c.len.result g.met.D.Disk.only_now c.len.ensures.looks in
    no_more disk.view c.args.disk.now
    c.read_part.new.disk _ _ (ok_no_fault _ _ open_fault.Device refl)
    (ok_no_fault _ _ open_fault.Device refl)
    (then_reads disk.view
    c.args.disk.now c.len.new.self c.read_part.new.disk _ _
    (ok_no_err c.len.result _ c.in_ok-long.was) len c.in_ok-block.ensures.reads)
