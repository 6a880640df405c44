use Rattle.std.proofs.Common.{◌≡◌, length, take, Ok, arith, ap, sym, subst, ◌∙◌}
use Rattle.cm_verdict.specs.Found.{sizes_found}
use Rattle.cm_verdict.specs.Opening.{IsAnswer}
use Rattle.cm_verdict.specs.declared.fault.FileFault.TheVariants.{NotACache}
use Rattle.cm_view.proofs.Walked.{short_file, has_halves, no_sizes, after_sizes, told}
use Rattle.cm_view.specs.Walking.{found_of}
use Rattle.cm_view.proofs.walking.walk_bytes.Goals as goal

pub returns-then-bytes-lt-SUPERBLOCK_BYTES : goal.returns-then-bytes-lt-SUPERBLOCK_BYTES
returns-then-bytes-lt-SUPERBLOCK_BYTES c =
    let bytes = c.args.bytes.now in
    no_sizes bytes NotACache (short_file (length bytes) (take 4096 bytes) (omega arith))

pub returns-in_err-geometry : goal.returns-in_err-geometry
returns-in_err-geometry c =
    let bytes = c.args.bytes.now in
    let f = c.in_err-geometry.field-0.0 in
    told bytes c.from_residual.result f c.from_residual.ensures.1
    (no_sizes bytes f
    (ap (sizes_found (length bytes)) (sym c.split_at.ensures.front)
    ∙ sym c.in_err-geometry.ensures))

pub walk_halves-requires : goal.walk_halves-requires
walk_halves-requires c =
    let bytes = c.args.bytes.now in
    has_halves (length bytes) c.split_at.result.0.now c.in_ok-geometry.geometry
    (sym c.in_ok-geometry.ensures)

pub returns : goal.returns
returns c =
    let bytes = c.args.bytes.now in
    let sizes = c.in_ok-geometry.geometry in
    let found : sizes_found (length bytes) (take 4096 bytes) ≡ Ok sizes =
    ap (sizes_found (length bytes)) (sym c.split_at.ensures.front) ∙ sym c.in_ok-geometry.ensures in
    subst (λ (r : _). IsAnswer found_of c.walk_halves.result r)
    (sym (after_sizes bytes sizes found)) c.walk_halves.ensures
