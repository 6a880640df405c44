use Rattle.std.proofs.Common.{◌≡◌, ℕ, Some, ap, length, arith, sym, subst, ◌∙◌}
use Rattle.cm_words.specs.Words.{Words}
use Rattle.cm_record_layout.proofs.{length-packed_into}
use Rattle.cm_verdict.specs.Ranges.{range_of_row}
use Rattle.cm_verdict.proofs.RecordRanges.{range_is_short}
use Rattle.cm_verdict.proofs.RecordRows.{if_ok}
use Rattle.cm_verdict.proofs.second_pass.SecondPass.words_of.Goals as goal

pub new-requires : goal.new-requires
new-requires g c =
    let sizes = c.args.self.now.geometry in
    let contents = g.D.Disk.view.contents c.args.disk.now in
    let row = c.args.row.now in
    let range = c.in-Some.range in
    let there : range_of_row sizes (length contents) row ≡ Some range =
    subst (λ (n : ℕ). range_of_row sizes n row ≡ Some range) c.requires.long
    (sym c.range_of.ensures ∙ c.in-Some.is) in
    let is = if_ok c.in_ok-take_words.field-0 c.in_ok-words.words _ (c.in_ok-words.was {u = tt})
    c.in_ok-take_words.ensures.words in
    let long = ap (λ (w : Words). length w.words) is ∙ length-packed_into range.count _ in
    omega (arith, long, range_is_short sizes contents range row c.requires.place there)
