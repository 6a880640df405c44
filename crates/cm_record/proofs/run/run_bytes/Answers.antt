use Rattle.std.proofs.Common.{◌≡◌, ◌∙◌, ap, sym, None, Some, List, ℕ}
use Rattle.cm_record_reading.specs.Reading.{run_at}
use Rattle.cm_record.proofs.RunPlaces.{run_read}
use Rattle.cm_record_reading.proofs.{some_same}
use Rattle.cm_record.proofs.run.run_bytes.Goals as goal

not_none : {A : Type 0} (x : A) → Some x ≡ None → ⊥
not_none x e = cc

pub words_from-requires : goal.words_from-requires
words_from-requires c = c.requires.1.within

pub unreachable-requires : goal.unreachable-requires
unreachable-requires c =
    let bytes = c.requires.0 in
    let is = c.requires.1 in
    let read : run_at c.args.run.len c.words_from.result.now ≡ Some (bytes, is.rest) =
    ap (run_at c.args.run.len) c.words_from.ensures
    ∙ run_read c.args.words.now c.args.run bytes is in
    let none : run_at c.args.run.len c.words_from.result.now ≡ None =
    rw c.in-Err-NotARecord.field-0-is at c.in-Err-NotARecord.ensures.read in
    not_none (bytes, is.rest) (sym read ∙ none)

pub returns-in-Ok : goal.returns-in-Ok
returns-in-Ok c = λ bytes is.
    let read : run_at c.args.run.len c.words_from.result.now ≡ Some (bytes, is.rest) =
    ap (run_at c.args.run.len) c.words_from.ensures
    ∙ run_read c.args.words.now c.args.run bytes is in
    let both =
    some_same (c.in-Ok.bytes.items, c.in-Ok.field-0-1.now) (bytes, is.rest)
    (sym c.in-Ok.ensures.read ∙ read) in
    ap (λ (p : List ℕ × List ℕ). p.0) both
