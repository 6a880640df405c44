use Rattle.std.proofs.Common.{◌∙◌, ap, sym}
use Rattle.std.proofs.lemmas.Bool.Decides.{Decides-eqb}
use Rattle.std.proofs.lemmas.Slice.Eq.{slice_eq-Decides}
use Rattle.cm_record_layout.specs.Packing.{packed}
use Rattle.cm_record.proofs.RunPlaces.{packed_same}
use Rattle.cm_record.proofs.run.is_same_run.Goals as goal

pub returns-then-run-other : goal.returns-then-run-other
returns-then-run-other c = λ xs ys of_xs of_ys.
    let one = c.run_slice.ensures xs of_xs in
    let two = c.run_slice-then-run-other.ensures ys of_ys in
    let same =
    slice_eq-Decides Decides-eqb c.run_slice.result.now c.run_slice-then-run-other.result.now
    c.eq.result c.eq.ensures in (
      λ yes. packed_same xs ys of_xs.fits of_ys.fits
          (sym of_xs.count ∙ (c.if-run-other.true ∙ of_ys.count)) (sym one ∙ (same.0 yes ∙ two)),
      λ e. same.1 (one ∙ (ap packed e ∙ sym two)),
    )
