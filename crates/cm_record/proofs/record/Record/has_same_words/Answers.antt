use Rattle.std.proofs.Common.{◌∙◌, sym}
use Rattle.std.proofs.lemmas.Bool.Decides.{Decides-eqb}
use Rattle.std.proofs.lemmas.Slice.Eq.{slice_eq-Decides}
use Rattle.cm_record.proofs.record.Record.has_same_words.Goals as goal

pub returns : goal.returns
returns c =
    let same =
    slice_eq-Decides Decides-eqb c.as_slice.result.now c.as_slice-2.result.now c.eq.result
    c.eq.ensures in (
      λ yes. sym c.as_slice.ensures.words ∙ (same.0 yes ∙ c.as_slice-2.ensures.words),
      λ e. same.1 (c.as_slice.ensures.words ∙ (e ∙ sym c.as_slice-2.ensures.words)),
    )
