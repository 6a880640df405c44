use Rattle.std.proofs.Common.{◌∙◌, refl}
use Rattle.cm_layout.specs.declared.half.Half.TheVariants.{Zero, One}
use Rattle.cm_verdict.proofs.Halves.{sizes_told, half_inside, half_read, half_long, answered}
use Rattle.cm_verdict.proofs.Halves.{other_told}
use Rattle.cm_verdict.specs.declared.fault.OpenFault.TheVariants as open_fault
use Rattle.cm_verdict.proofs.Readings.{then_reads, no_more, ok_no_fault}
use Rattle.cm_verdict.proofs.reading.read_found.Goals as goal

pub returns-in_err-geometry-clause-found : goal.returns-in_err-geometry-clause-found
returns-in_err-geometry-clause-found g c =
    sizes_told c.from_residual.result c.in_err-geometry.field-0.0
    (g.D.Disk.view.contents c.args.disk.now) c.from_residual.ensures.1
    c.in_err-geometry.ensures.sizes

pub read_part-requires : goal.read_part-requires
read_part-requires g c =
    let sizes = c.in_ok-geometry.ensures in
    half_inside (g.D.Disk.view.contents c.args.disk.now) c.in_ok-geometry.geometry sizes.sizes Zero
    c.half_at.result c.slots.result (g.D.Disk.view.contents c.read_sizes.new.disk) c.half_at.ensures
    c.slots.ensures.value sizes.reads.contents_stay

pub read_part-requires-2 : goal.read_part-requires-2
read_part-requires-2 g c =
    let sizes = c.in_ok-geometry.ensures in
    half_inside (g.D.Disk.view.contents c.args.disk.now) c.in_ok-geometry.geometry sizes.sizes One
    c.half_at-2.result c.slots.result (g.D.Disk.view.contents c.read_part.new.disk)
    c.half_at-2.ensures
    c.slots.ensures.value (c.in_ok-zero.ensures.reads.contents_stay ∙ sizes.reads.contents_stay)

pub walk_halves-requires-clause-long_0 : goal.walk_halves-requires-clause-long_0
walk_halves-requires-clause-long_0 g c =
    let contents = g.D.Disk.view.contents c.args.disk.now in
    let sizes = c.in_ok-geometry.ensures in
    half_long contents c.in_ok-geometry.geometry sizes.sizes Zero c.deref.result.now
    (c.deref.ensures.value
    ∙ half_read contents c.in_ok-geometry.geometry sizes.sizes Zero c.half_at.result c.slots.result
    (g.D.Disk.view.contents c.read_sizes.new.disk) c.in_ok-zero.zero.items c.half_at.ensures
    c.slots.ensures.value sizes.reads.contents_stay c.in_ok-zero.ensures.bytes)

pub walk_halves-requires-clause-long_1 : goal.walk_halves-requires-clause-long_1
walk_halves-requires-clause-long_1 g c =
    let contents = g.D.Disk.view.contents c.args.disk.now in
    let sizes = c.in_ok-geometry.ensures in
    half_long contents c.in_ok-geometry.geometry sizes.sizes One c.deref-2.result.now
    (c.deref-2.ensures.value
    ∙ half_read contents c.in_ok-geometry.geometry sizes.sizes One c.half_at-2.result c.slots.result
    (g.D.Disk.view.contents c.read_part.new.disk) c.in_ok-one.one.items c.half_at-2.ensures
    c.slots.ensures.value (c.in_ok-zero.ensures.reads.contents_stay ∙ sizes.reads.contents_stay)
    c.in_ok-one.ensures.bytes)

pub returns-clause-found : goal.returns-clause-found
returns-clause-found g c =
    let contents = g.D.Disk.view.contents c.args.disk.now in
    let sizes = c.in_ok-geometry.ensures in
    answered contents c.in_ok-geometry.geometry sizes.sizes c.walk_halves.result
    c.deref.result.now c.deref-2.result.now
    (c.deref.ensures.value
    ∙ half_read contents c.in_ok-geometry.geometry sizes.sizes Zero c.half_at.result c.slots.result
    (g.D.Disk.view.contents c.read_sizes.new.disk) c.in_ok-zero.zero.items c.half_at.ensures
    c.slots.ensures.value sizes.reads.contents_stay c.in_ok-zero.ensures.bytes)
    (c.deref-2.ensures.value
    ∙ half_read contents c.in_ok-geometry.geometry sizes.sizes One c.half_at-2.result c.slots.result
    (g.D.Disk.view.contents c.read_part.new.disk) c.in_ok-one.one.items c.half_at-2.ensures
    c.slots.ensures.value (c.in_ok-zero.ensures.reads.contents_stay ∙ sizes.reads.contents_stay)
    c.in_ok-one.ensures.bytes)
    c.walk_halves.ensures.found

pub returns-clause-reads : goal.returns-clause-reads
returns-clause-reads g c =
    let disk = g.D.Disk in
    no_more disk.view c.args.disk.now
    c.read_part-2.new.disk _ _ c.walk_halves.ensures.in_memory
    (ok_no_fault _ _ open_fault.Device refl)
    (then_reads disk.view
    c.args.disk.now c.read_part.new.disk c.read_part-2.new.disk _ _
    (ok_no_fault _ _ open_fault.Device refl)
    (then_reads disk.view
    c.args.disk.now c.read_sizes.new.disk c.read_part.new.disk _ _
    (ok_no_fault _ _ open_fault.Device refl)
    c.in_ok-geometry.ensures.reads c.in_ok-zero.ensures.reads)
    c.in_ok-one.ensures.reads)

pub returns-clause-other : goal.returns-clause-other
returns-clause-other g c =
    let contents = g.D.Disk.view.contents c.args.disk.now in
    let sizes = c.in_ok-geometry.ensures in
    other_told contents c.in_ok-geometry.geometry sizes.sizes c.walk_halves.result
    c.deref.result.now c.deref-2.result.now
    (c.deref.ensures.value
    ∙ half_read contents c.in_ok-geometry.geometry sizes.sizes Zero c.half_at.result c.slots.result
    (g.D.Disk.view.contents c.read_sizes.new.disk) c.in_ok-zero.zero.items c.half_at.ensures
    c.slots.ensures.value sizes.reads.contents_stay c.in_ok-zero.ensures.bytes)
    (c.deref-2.ensures.value
    ∙ half_read contents c.in_ok-geometry.geometry sizes.sizes One c.half_at-2.result c.slots.result
    (g.D.Disk.view.contents c.read_part.new.disk) c.in_ok-one.one.items c.half_at-2.ensures
    c.slots.ensures.value (c.in_ok-zero.ensures.reads.contents_stay ∙ sizes.reads.contents_stay)
    c.in_ok-one.ensures.bytes)
    c.walk_halves.ensures.sizes c.walk_halves.ensures.other
