use Rattle.std.proofs.Common.{◌≡◌, ◌++◌, length, ap, sym, ◌∙◌, arith}
use Rattle.std.specs.Arc.{arc_value}
use Rattle.std.specs.List.{flat_map}
use Rattle.std.proofs.lemmas.List.{length-append}
use Rattle.cm_layout.specs.Slots.{row_slots}
use Rattle.cm_layout.specs.Rows.{bare, rows_with}
use Rattle.cm_commit.proofs.With.{slots-with}
use Rattle.cm_commit.proofs.bytes.add_rows.Goals as goal

pub loop-row-init : goal.loop-row-init
loop-row-init c = record {
  bytes = ap (λ l. c.args.buffer.now.items ++ l)
      (ap (flat_map row_slots) c.walk-left.ensures
      ∙ sym (slots-with arc_value c.args.rows.now.rows));
  room = omega arith;
}

pub unwrap-requires : goal.unwrap-requires
unwrap-requires c =
    let items = c.loop-row.buffer.items in
    let slot = row_slots c.in-Some.row.now in
    let rest = flat_map row_slots c.next.new.self in
    let all = flat_map row_slots (bare (rows_with arc_value c.args.rows.now.rows)) in
    let left : flat_map row_slots c.loop-row.left ≡ slot ++ rest =
    ap (flat_map row_slots) c.in-Some.ensures in
    c.extend_from_slice.ensures.succeeds (omega (
      arith,
      ap length left,
      ap length (c.as_bytes.ensures ∙ c.encode-slots.ensures),
      ap length c.loop-row.invariant.bytes,
      c.loop-row.invariant.room,
      length-append items (flat_map row_slots c.loop-row.left),
      length-append slot rest,
      length-append c.args.buffer.now.items all,
      c.requires,
      c.loop-row.buffer.ok.0,
    ))
