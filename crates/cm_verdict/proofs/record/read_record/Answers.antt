use Rattle.std.proofs.Common.{◌≡◌, true, sym, ◌∙◌, ap, subst, length, arith}
use Rattle.cm_record_layout.specs.Layout.{IsRecord}
use Rattle.cm_verdict.proofs.KeptRecords.{a_record}
use Rattle.cm_verdict.proofs.record.read_record.Goals as goal

pub of_words-requires : goal.of_words-requires
of_words-requires c =
    let is = c.in_ok-are_kept.ensures {u = tt} in
    let kept : c.in_ok-are_kept.field-0 ≡ true = let not_so = c.if-not-branch.false in cc in
    let same = c.as_slice.ensures in
    subst IsRecord same
    (a_record c.as_slice.result.now (omega (arith, ap length same, c.requires)) (sym is ∙ kept))
