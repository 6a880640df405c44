use Rattle.std.proofs.Common.{◌≡◌, ◌⊎◌, inl, inr, ◌<◌, ◌≤◌, ◌*◌, ◌-◌, ◌/◌, ◌%◌, ◌++◌, ℕ, List}
use Rattle.std.proofs.Common.{length, take, drop, Option, Some, sym, ap, ◌∙◌, arith, append-nil}
use Rattle.std.proofs.lemmas.List.{take_rest}
use Rattle.cm_record_layout.specs.Packing.{word_bytes}
use Rattle.cm_record_reading.specs.Reading.{run_at, with_front}
use Rattle.cm_record_reading.proofs.Fronts.{AreSmall, run_words_first, run_too_long, run_done}
use Rattle.cm_record_reading.proofs.Fronts.{run_ends, run_breaks, run_stops, behind_first}
use Rattle.cm_record_reading.proofs.Fronts.{with_front-append}
use Rattle.cm_record_reading.proofs.spelling.spell_run.Goals as goal

-- the words after the whole ones
abbrev rest_of : ℕ → List ℕ → List ℕ
rest_of count words = take (length words - count / 8) (drop (count / 8) words)

abbrev found_so : List ℕ → List ℕ → Option (List ℕ × List ℕ)
found_so bytes rest = Some (bytes, rest)

-- once the whole words are appended, the end of the run is what is left
ends : (count : ℕ) (words old whole new : List ℕ) → count / 8 ≤ length words → AreSmall words
    → whole ≡ take (count / 8 - 0) (drop 0 words) → new ≡ old ++ word_bytes whole
    → with_front old (run_at count words)
    ≡ with_front new (run_at (count % 8) (rest_of count words))
ends count words old whole new within small is put =
    let n = count / 8 in
    let front : whole ≡ take n words = is ∙ ap (λ (k : ℕ). take k words) (omega arith) in
    let left : count - 8 * n ≡ count % 8 = omega arith in
    ap (with_front old) (run_words_first n count words within (omega arith) small)
    ∙ (sym (with_front-append old (word_bytes (take n words))
    (run_at (count - 8 * n) (drop n words)))
    ∙ (λ i. with_front ((ap (λ (l : List ℕ). old ++ word_bytes l) (sym front) ∙ sym put) i)
    (run_at (left i) (sym (take_rest words n) i))))

pub returns-in_default-clause-read : goal.returns-in_default-clause-read
returns-in_default-clause-read c =
    ap (with_front c.args.out.now.items) (run_too_long (c.args.count / 8) c.args.count
    c.args.words.now (past c.in_default.ensures.lookup.0) (omega arith) c.type_inv.words)
  where
    past : (c.args.count / 8 < 0) ⊎ (length c.args.words.now < c.args.count / 8)
        → length c.args.words.now < c.args.count / 8
    past (inl none) = absurd (omega (arith, none))
    past (inr lt) = lt

pub returns-then-left-eq0-clause-read : goal.returns-then-left-eq0-clause-read
returns-then-left-eq0-clause-read c =
    let found = (c.in-Some.ensures {u = tt}).lookup.0 in
    let words = c.args.words.now in
    let new = c.put_words.new.out.items in
    ends c.args.count words c.args.out.now.items c.in-Some.whole.now new found.1 c.type_inv.words
    found.2 c.in_ok-put_words.ensures
    ∙ (ap (λ (n : ℕ). with_front new (run_at n (rest_of c.args.count words))) c.if-left-eq0.true
    ∙ (ap (with_front new) (run_done (rest_of c.args.count words))
    ∙ ap (λ (l : List ℕ). found_so l (rest_of c.args.count words)) (append-nil new)))

pub returns-in_default-rest-clause-read : goal.returns-in_default-rest-clause-read
returns-in_default-rest-clause-read c =
    let found = (c.in-Some.ensures {u = tt}).lookup.0 in
    let words = c.args.words.now in
    let new = c.put_words.new.out.items in
    ends c.args.count words c.args.out.now.items c.in-Some.whole.now new found.1 c.type_inv.words
    found.2 c.in_ok-put_words.ensures
    ∙ ap (with_front new) (run_stops (c.args.count % 8) (rest_of c.args.count words)
    (omega (arith, c.if-left-eq0.false)) c.in_default-rest.len_below)

pub returns-then-word_of-word-clause-read : goal.returns-then-word_of-word-clause-read
returns-then-word_of-word-clause-read c =
    let found = (c.in-Some.ensures {u = tt}).lookup.0 in
    let words = c.args.words.now in
    let new = c.put_words.new.out.items in
    ends c.args.count words c.args.out.now.items c.in-Some.whole.now new found.1 c.type_inv.words
    found.2 c.in_ok-put_words.ensures
    ∙ ap (with_front new) (run_breaks (c.args.count % 8) c.word_of.result
    (rest_of c.args.count words) c.bytes_of-eight.result (omega (arith, c.if-left-eq0.false))
    (omega arith) c.in-len1-up.len_at_least c.bytes_of-eight.ensures c.word_of.ensures
    c.if-word_of-word.true)

pub returns-clause-read : goal.returns-clause-read
returns-clause-read c =
    let found = (c.in-Some.ensures {u = tt}).lookup.0 in
    let words = c.args.words.now in
    let new = c.put_words.new.out.items in
    let rest = rest_of c.args.count words in
    ends c.args.count words c.args.out.now.items c.in-Some.whole.now new found.1 c.type_inv.words
    found.2 c.in_ok-put_words.ensures
    ∙ (ap (with_front new) (run_ends (c.args.count % 8) c.word_of.result rest
    c.bytes_of-eight.result (omega (arith, c.if-left-eq0.false)) (omega arith)
    c.in-len1-up.len_at_least c.bytes_of-eight.ensures c.word_of.ensures c.if-word_of-word.false)
    ∙ ap (λ (l : List ℕ). found_so l (behind_first rest))
    (sym c.in_ok-extend_from_slice.ensures.items))
