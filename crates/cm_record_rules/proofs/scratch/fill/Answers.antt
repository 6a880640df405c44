use Rattle.std.proofs.Common.{◌≡◌, ◌-◌, ◌++◌, ◌∷◌, [], false, ◌∙◌, ap, take, drop, get_or}
use Rattle.std.proofs.Common.{append_assoc}
use Rattle.cm_record_layout.specs.Packing.{word_bytes, first_of}
use Rattle.cm_record_rules.specs.Laid.{tags_from, laid_class}
use Rattle.cm_record_rules.proofs.Whole.{class_in_is_of, tags_are}
use Rattle.cm_record_rules.proofs.scratch.fill.Goals as goal

pub returns : goal.returns
returns c =
    let words = c.args.words.now in
    let count : c.from.result ≡ first_of (get_or words 2 0) - 1 =
    c.from.ensures ∙ (c.saturating_sub-count.ensures ∙ (λ i. (c.first.ensures ∙ ap first_of
    c.word_at.ensures) i - 1)) in
    let directory : c.first_words-directory.result.now
    ≡ take (first_of (get_or words 2 0) - 1) (drop 9 words) =
    c.first_words-directory.ensures ∙ (λ i. take (count i) (c.words_from.ensures i)) in
    let front = c.in_ok-push.ensures.items
    ∙ ap (λ w. w ++ 0 ∷ []) c.in_ok-write_words.ensures in
    c.in_ok-write_tags.ensures
    ∙ ((λ i. front i ++ tags_from false (directory i))
    ∙ (append_assoc (word_bytes words) (0 ∷ [])
    (tags_from false (take (first_of (get_or words 2 0) - 1) (drop 9 words)))
    ∙ ap (λ ts. word_bytes words ++ ts)
    (tags_are (laid_class words) words (class_in_is_of words c.requires))))
