use Rattle.std.proofs.Common.{◌≡◌, false, true, length, min, refl, ap, ap₂, sym, ◌∙◌, arith}
use Rattle.std.proofs.lemmas.Bool.{eq-eqb}
use Rattle.cm_record_layout.specs.Packing.{packed}
use Rattle.cm_record_layout.proofs.{packed_more}
use Rattle.cm_record.specs.Fingerprints.{further, folded}
use Rattle.cm_record.proofs.fingerprints.fold_bytes.Goals as goal

pub loop-left-preserved : goal.loop-left-preserved
loop-left-preserved c =
    let l = c.loop-left in
    let left = l.left.now in
    let some : length left ≡ 0
    → ⊥ = λ e. let both : false ≡ true =
    sym c.loop-left-test.true ∙ (c.is_empty.ensures ∙ eq-eqb (length left) 0 e) in cc in
    let more = packed_more left (min (length left) 8) refl (omega (arith, some)) in
    ap₂ folded (c.fold_word-number.ensures ∙ ap (further l.number) c.word_of.ensures)
    (ap packed c.skip_eight-left.ensures)
    ∙ (sym (ap (folded l.number) more) ∙ l.invariant)
