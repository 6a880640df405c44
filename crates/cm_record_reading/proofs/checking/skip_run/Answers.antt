use Rattle.std.proofs.Common.{◌≡◌, ◌⊎◌, inl, inr, ◌<◌, ◌≤◌, ◌*◌, ◌-◌, ◌/◌, ◌%◌, ℕ, List, length}
use Rattle.std.proofs.Common.{take, drop, sym, ap, ◌∙◌, arith}
use Rattle.std.proofs.lemmas.List.{take_rest}
use Rattle.cm_record_reading.specs.Reading.{run_at, left1}
use Rattle.cm_record_reading.proofs.Fronts.{AreSmall, run_too_long, run_done, run_ends, run_breaks}
use Rattle.cm_record_reading.proofs.Fronts.{run_stops}
use Rattle.cm_record_reading.proofs.Skips.{run_behind}
use Rattle.cm_record_reading.proofs.checking.skip_run.Goals as goal

-- what the run leaves is what its end leaves, after the whole words
ends : (count : ℕ) (words rest : List ℕ) → count / 8 ≤ length words → AreSmall words
    → rest ≡ take (length words - count / 8) (drop (count / 8) words)
    → left1 (run_at count words) ≡ left1 (run_at (count % 8) rest)
ends count words rest within small is =
    run_behind (count / 8) count words within (omega arith) small
    ∙ (λ i. left1 (run_at (left i) ((sym (take_rest words (count / 8)) ∙ sym is) i)))
  where
    left : count - 8 * (count / 8) ≡ count % 8
    left = omega arith

pub returns-in_err-rest-clause-left : goal.returns-in_err-rest-clause-left
returns-in_err-rest-clause-left c =
    let short = (c.in_err-rest.ensures {u = tt}).lookup.0 in
    rw c.from_residual.ensures
    (ap left1 (run_too_long (c.args.count / 8) c.args.count c.args.words.now (past short)
    (omega arith) c.type_inv.words))
  where
    past : (length c.args.words.now < c.args.count / 8)
        ⊎ (length c.args.words.now < length c.args.words.now)
        → length c.args.words.now < c.args.count / 8
    past (inl lt) = lt
    past (inr other) = absurd (omega (arith, other))

pub returns-then-left-eq0-clause-left : goal.returns-then-left-eq0-clause-left
returns-then-left-eq0-clause-left c =
    let found = (c.in_ok-rest.ensures {u = tt}).lookup.0 in
    let rest = c.in_ok-rest.rest.now in
    ends c.args.count c.args.words.now rest found.0 c.type_inv.words found.2
    ∙ (ap (λ (n : ℕ). left1 (run_at n rest)) c.if-left-eq0.true
    ∙ ap left1 (run_done rest))

pub returns-in_default-clause-left : goal.returns-in_default-clause-left
returns-in_default-clause-left c =
    let found = (c.in_ok-rest.ensures {u = tt}).lookup.0 in
    let rest = c.in_ok-rest.rest.now in
    ends c.args.count c.args.words.now rest found.0 c.type_inv.words found.2
    ∙ ap left1 (run_stops (c.args.count % 8) rest (omega (arith, c.if-left-eq0.false))
    c.in_default.len_below)

pub returns-then-word_of-word-clause-left : goal.returns-then-word_of-word-clause-left
returns-then-word_of-word-clause-left c =
    let found = (c.in_ok-rest.ensures {u = tt}).lookup.0 in
    let rest = c.in_ok-rest.rest.now in
    ends c.args.count c.args.words.now rest found.0 c.type_inv.words found.2
    ∙ ap left1 (run_breaks (c.args.count % 8) c.word_of.result rest c.bytes_of-eight.result
    (omega (arith, c.if-left-eq0.false)) (omega arith) c.in-len1-up.len_at_least
    c.bytes_of-eight.ensures c.word_of.ensures c.if-word_of-word.true)

pub returns-clause-left : goal.returns-clause-left
returns-clause-left c =
    let found = (c.in_ok-rest.ensures {u = tt}).lookup.0 in
    let rest = c.in_ok-rest.rest.now in
    ends c.args.count c.args.words.now rest found.0 c.type_inv.words found.2
    ∙ ap left1 (run_ends (c.args.count % 8) c.word_of.result rest c.bytes_of-eight.result
    (omega (arith, c.if-left-eq0.false)) (omega arith) c.in-len1-up.len_at_least
    c.bytes_of-eight.ensures c.word_of.ensures c.if-word_of-word.false)
