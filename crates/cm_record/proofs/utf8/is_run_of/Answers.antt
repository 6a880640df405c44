use Rattle.std.proofs.Common.{◌∙◌, ap, sym, arith}
use Rattle.cm_record_layout.specs.Packing.{packed}
use Rattle.cm_record_layout.proofs.{bytes_from}
use Rattle.cm_record.proofs.RunPlaces.{packed_same}
use Rattle.cm_record.proofs.utf8.is_run_of.Goals as goal

pub returns-then-run-bytes : goal.returns-then-run-bytes
returns-then-run-bytes c = λ xs of_xs.
    let one = c.run_slice.ensures xs of_xs in (
      λ yes. packed_same xs c.args.bytes.now of_xs.fits (bytes_from c.args.bytes.now
          (λ i lt. omega (arith, c.type_inv.bytes i))) (sym of_xs.count ∙ c.if-run-bytes.true)
          (sym one ∙ c.is_run.ensures.0 yes),
      λ e. c.is_run.ensures.1 (one ∙ ap packed e),
    )
