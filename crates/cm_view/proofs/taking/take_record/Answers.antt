use Rattle.std.proofs.Common.{◌≡◌, ◌*◌, ◌/◌, length, arith, ap, ◌∙◌}
use Rattle.cm_record_layout.specs.Packing.{packed_into}
use Rattle.cm_view.specs.Taking.{row_words}
use Rattle.cm_view.proofs.RowNames.{row_long}
use Rattle.cm_view.proofs.Takings.{taken_of}
use Rattle.cm_view.proofs.taking.take_record.Goals as goal

pub returns : goal.returns
returns c =
    let bytes = c.args.bytes.now in
    let row = c.args.row.now in
    let there = c.is_there.ensures.yes c.if-not-is_there.false in
    let part = c.row_bytes.result.now in
    let long : length part ≡ 8 * row.words =
    ap length c.row_bytes.ensures ∙ row_long bytes row there in
    let count : length part / 8 ≡ row.words = omega arith in
    let same : packed_into (length part / 8) part ≡ row_words bytes row =
    λ i. packed_into (count i) (c.row_bytes.ensures i) in
    taken_of bytes row there _ (ap (λ w. w.words) c.in_ok-words.ensures ∙ same) c.read_record.result
    c.read_record.ensures
