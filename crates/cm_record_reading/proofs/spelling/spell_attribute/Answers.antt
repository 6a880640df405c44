use Rattle.std.proofs.Common.{◌≡◌, ◌-◌, ◌∙◌, ℕ, List, length, take, drop, get_or, ap, arith}
use Rattle.std.proofs.lemmas.Result.{err_from_is_err_and}
use Rattle.cm_class.specs.Spelling.{attribute_bytes}
use Rattle.cm_record_layout.specs.Packing.{first_of, upper_of}
use Rattle.cm_record_reading.specs.Reading.{attribute_word, attribute_at, run_at, appended, behind3}
use Rattle.cm_record_reading.specs.Reading.{content_bytes}
use Rattle.cm_record_reading.proofs.Counts.{attribute_spelled, with_rest}
use Rattle.cm_record_reading.proofs.Turns.{fails_through}
use Rattle.cm_record_reading.proofs.spelling.spell_attribute.Goals as goal

pub returns-in_err-runs-clause-read : goal.returns-in_err-runs-clause-read
returns-in_err-runs-clause-read c =
    let attrs = c.args.attributes.now in
    let runs = c.args.runs.now in
    let out = c.args.out.now.items in
    let w = get_or attrs 0 0 in
    let rest = take (length attrs - 2) (drop 2 attrs) in
    let word : attribute_word (first_of w) (upper_of w) ≡ w =
    omega (
      arith,
      c.first-name.ensures,
      c.upper-count.ensures,
      c.attribute_word.ensures,
      c.if-attribute_word-word.false,
    ) in
    let same =
    attribute_spelled c.args.total attrs runs out c.in-len2-up.len_at_least word
    c.if-at-total.false in
    let p = err_from_is_err_and c.from_residual.result c.from_residual.ensures.1 in
    rw (p.1, p.2) (fails_through c.in_err-runs.field-0.0
    (appended out (content_bytes (first_of w)) (run_at (upper_of w) runs))
    (behind3 out attribute_bytes (attribute_at c.args.total attrs runs))
    (λ none. same ∙ ap (with_rest {A = List ℕ} {B = List ℕ} {C = List ℕ} rest) none)
    (rw (c.first-name.ensures, c.upper-count.ensures) at c.in_err-runs.ensures.read))

pub returns-clause-read : goal.returns-clause-read
returns-clause-read c =
    let attrs = c.args.attributes.now in
    let w = get_or attrs 0 0 in
    let rest = take (length attrs - 2) (drop 2 attrs) in
    let word : attribute_word (first_of w) (upper_of w) ≡ w =
    omega (
      arith,
      c.first-name.ensures,
      c.upper-count.ensures,
      c.attribute_word.ensures,
      c.if-attribute_word-word.false,
    ) in
    attribute_spelled c.args.total attrs c.args.runs.now c.args.out.now.items
    c.in-len2-up.len_at_least word c.if-at-total.false
    ∙ ap (with_rest {A = List ℕ} {B = List ℕ} {C = List ℕ} rest)
    (rw (c.first-name.ensures, c.upper-count.ensures) at c.in_ok-runs.ensures.read)
