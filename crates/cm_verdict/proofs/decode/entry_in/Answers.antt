use Rattle.std.proofs.Common.{◌≡◌, ◌*◌, drop, length, Some, None, sym, ap, ◌∙◌, arith, length-take}
use Rattle.cm_layout.specs.Rows.{slots_of}
use Rattle.cm_layout.proofs.{slot_count, some_slots}
use Rattle.cm_verdict.specs.Decoding.{entry_in}
use Rattle.cm_verdict.proofs.Decoded.{BeginsWith, none_is, entry_spelled, entry_again}
use Rattle.cm_verdict.proofs.Decoded.{spelled_whole}
use Rattle.cm_verdict.proofs.decode.entry_in.Goals as goal

pub returns-in_err-entry-clause-value : goal.returns-in_err-entry-clause-value
returns-in_err-entry-clause-value c =
    let slots = c.args.slots.now in
    c.from_residual.ensures
    ∙ none_is (entry_in c.args.version slots) (λ x there.
    let s = entry_spelled c.args.version slots x there in
    let none : c.decode.result ≡ None = c.in_err-entry.was {u = tt} in
    let some : c.decode.result ≡ Some x =
    c.decode.ensures.only x (drop (64 * slots_of x) slots) s.fits s.of_version
    (spelled_whole c.args.version slots x s) in
    cc)

pub returns-clause-value : goal.returns-clause-value
returns-clause-value c =
    let slots = c.args.slots.now in
    let e = c.in_ok-entry.entry in
    let s : BeginsWith c.args.version slots e = record {
      here = c.in_ok-entry.ensures.found;
      fits = c.fits_entry.ensures;
      of_version = c.in_ok-entry.ensures.version;
    } in
    sym (ap (entry_in c.args.version) (spelled_whole c.args.version slots e s)
    ∙ entry_again c.args.version e (drop (64 * slots_of e) slots) s.fits s.of_version)

pub returns-clause-taken : goal.returns-clause-taken
returns-clause-taken c =
    let e = c.in_ok-entry.entry in
    record {
      some = some_slots e;
      few = omega (
        arith,
        ap length c.in_ok-entry.ensures.found,
        slot_count e c.fits_entry.ensures,
        length-take (64 * slots_of e) c.args.slots.now,
      );
    }
