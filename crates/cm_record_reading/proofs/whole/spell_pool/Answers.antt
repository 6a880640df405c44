use Rattle.std.proofs.Common.{◌≡◌, ◌-◌, ◌++◌, false, length, drop, refl}
use Rattle.std.specs.List.{flat_map}
use Rattle.std.proofs.lemmas.Result.{err_from_is_err_and}
use Rattle.cm_class.specs.Spelling.{heading, u2, slot_bytes, counted}
use Rattle.cm_record_layout.specs.Layout.{head_class, head_counts, head_runs_at}
use Rattle.cm_record_layout.specs.Packing.{first_of, second_of, third_of, fourth_of}
use Rattle.cm_record_reading.specs.Reading.{slots_at, interfaces_from, pool_of, appended, behind3}
use Rattle.cm_record_reading.specs.Reading.{pool_behind}
use Rattle.cm_record_reading.proofs.Spelled.{slots_none, interfaces_none, pool_made}
use Rattle.cm_record_reading.proofs.Turns.{fails_through}
use Rattle.cm_record_reading.proofs.whole.spell_pool.Goals as goal

pub returns-in_err-main-clause-read : goal.returns-in_err-main-clause-read
returns-in_err-main-clause-read c =
    let words = c.args.words.now in
    let out = c.args.out.now.items in
    let begun : c.put_u16.new.out.items ≡ out ++ heading ++ u2 (first_of (head_counts words)) =
    rw (c.in_ok-put_u16.ensures, c.in_ok-extend_from_slice.ensures.items, c.first.ensures) refl in
    let p = err_from_is_err_and c.from_residual-in_err-main.result
    c.from_residual-in_err-main.ensures.1 in
    rw (p.1, p.2) (fails_through c.in_err-main.field-0.0
    (behind3 c.put_u16.new.out.items (flat_map slot_bytes)
    (slots_at (length words) false (first_of (head_counts words) - 1) (drop 9 words)
    (drop (head_runs_at words) words)))
    (pool_behind out words (pool_of words))
    (slots_none words out c.put_u16.new.out.items c.requires.slots begun)
    (rw (c.words_from.ensures, c.words_from-runs.ensures, c.from-count.ensures, c.first-2.ensures)
    at c.in_err-main.ensures.read))

pub returns-in_err-main-2-clause-read : goal.returns-in_err-main-2-clause-read
returns-in_err-main-2-clause-read c =
    let words = c.args.words.now in
    let out = c.args.out.now.items in
    let begun : c.put_u16.new.out.items ≡ out ++ heading ++ u2 (first_of (head_counts words)) =
    rw (c.in_ok-put_u16.ensures, c.in_ok-extend_from_slice.ensures.items, c.first.ensures) refl in
    let slots = rw
    (c.words_from.ensures, c.words_from-runs.ensures, c.from-count.ensures, c.first-2.ensures)
    at c.in_ok-main.ensures.read in
    let p = err_from_is_err_and c.from_residual-in_err-main-2.result
    c.from_residual-in_err-main-2.ensures.1 in
    rw (p.1, p.2) (fails_through c.in_err-main-2.field-0.0
    (appended c.put_u16-4.new.out.items (counted u2)
    (interfaces_from (fourth_of (head_class words)) c.in_ok-main.main.now))
    (pool_behind out words (pool_of words))
    (interfaces_none words out c.put_u16.new.out.items c.requires.slots begun
    c.spell_slots.new.out.items c.in_ok-main.main.now c.in_ok-main.runs.now slots
    c.put_u16-4.new.out.items)
    (rw c.fourth.ensures at c.in_err-main-2.ensures))

pub returns-clause-read : goal.returns-clause-read
returns-clause-read c =
    let words = c.args.words.now in
    let out = c.args.out.now.items in
    let begun : c.put_u16.new.out.items ≡ out ++ heading ++ u2 (first_of (head_counts words)) =
    rw (c.in_ok-put_u16.ensures, c.in_ok-extend_from_slice.ensures.items, c.first.ensures) refl in
    let slots = rw
    (c.words_from.ensures, c.words_from-runs.ensures, c.from-count.ensures, c.first-2.ensures)
    at c.in_ok-main.ensures.read in
    let put : c.put_u16-4.new.out.items
    ≡ c.spell_slots.new.out.items ++ u2 (first_of (head_class words))
    ++ u2 (second_of (head_class words)) ++ u2 (third_of (head_class words)) =
    rw (
      c.in_ok-put_u16-4.ensures,
      c.in_ok-put_u16-3.ensures,
      c.in_ok-put_u16-2.ensures,
      c.first-3.ensures,
      c.second.ensures,
      c.third.ensures,
    ) refl in
    pool_made words out c.put_u16.new.out.items c.requires.slots begun
    c.spell_slots.new.out.items c.in_ok-main.main.now c.in_ok-main.runs.now slots
    c.put_u16-4.new.out.items c.spell_interfaces.new.out.items c.in_ok-main-2.main.now put
    (rw c.fourth.ensures at c.in_ok-main-2.ensures)
