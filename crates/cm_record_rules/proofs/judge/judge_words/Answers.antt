use Rattle.std.proofs.Common.{◌≡◌, ◌*◌, ◌++◌, ◌∙◌, ap, take, drop, length, sym, arith}
use Rattle.std.proofs.Common.{List, ℕ}
use Rattle.std.proofs.Common.{length-append}
use Rattle.std.proofs.lemmas.List.{take_at, drop_at}
use Rattle.cm_record_layout.specs.Packing.{word_bytes}
use Rattle.cm_rules.specs.Fault.{fault}
use Rattle.cm_record_rules.specs.Laid.{laid_class, tags_of}
use Rattle.cm_record_rules.proofs.Filled.{length-word_bytes}
use Rattle.cm_record_rules.proofs.Whole.{class_in_is}
use Rattle.cm_record_rules.proofs.judge.judge_words.Goals as goal

-- the two parts of the content of the scratch
front_is : (words all front : List ℕ) → front ≡ take (8 * length words) all
    → all ≡ word_bytes words ++ tags_of (laid_class words) → front ≡ word_bytes words
front_is words all front taken filled =
    taken ∙ (ap (take (8 * length words)) filled
    ∙ take_at (word_bytes words) (tags_of (laid_class words)) (8 * length words)
    (length-word_bytes words))

back_is : (words all back : List ℕ) → back ≡ drop (8 * length words) all
    → all ≡ word_bytes words ++ tags_of (laid_class words) → back ≡ tags_of (laid_class words)
back_is words all back dropped filled =
    dropped ∙ (ap (drop (8 * length words)) filled
    ∙ drop_at (word_bytes words) (tags_of (laid_class words)) (8 * length words)
    (length-word_bytes words))

pub split_at-requires : goal.split_at-requires
split_at-requires c =
    let words = c.args.words.now in
    let all = ap length (c.deref.ensures.value ∙ c.in-Ok.ensures) in
    omega (
      arith,
      all,
      length-append (word_bytes words) (tags_of (laid_class words)),
      length-word_bytes words,
    )

pub new-requires-clause-bytes : goal.new-requires-clause-bytes
new-requires-clause-bytes c =
    front_is c.args.words.now c.deref.result.now c.split_at.result.0.now c.split_at.ensures.front
    (c.deref.ensures.value ∙ c.in-Ok.ensures)

pub new-requires-clause-tags : goal.new-requires-clause-tags
new-requires-clause-tags c =
    back_is c.args.words.now c.deref.result.now c.split_at.result.1.now c.split_at.ensures.back
    (c.deref.ensures.value ∙ c.in-Ok.ensures)

pub returns-in-Ok : goal.returns-in-Ok
returns-in-Ok c = λ kept d is.
    ap fault (sym (class_in_is d c.args.words.now is) ∙ sym c.new.ensures)
    ∙ c.keeps_rules.ensures kept
