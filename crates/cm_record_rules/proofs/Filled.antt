-- Filling the scratch step by step.
-- For `copy_words`, `fill`, `write_tags`.
use Rattle.std.proofs.Common.{◌≡◌, ◌<◌, ◌≤◌, ◌+◌, ◌%◌, ◌^◌, ℕ, Bool, true, false, List, [], ◌∷◌}
use Rattle.std.proofs.Common.{◌++◌}
use Rattle.std.proofs.Common.{length, take, drop, get_or, cond, refl, sym, ◌∙◌, ap, arith}
use Rattle.std.proofs.Common.{append_assoc, length-append, ◌*◌}
use Rattle.std.proofs.lemmas.List.{take_more, drop_more, drop_all, append-nil, length-take-le}
use Rattle.std.proofs.lemmas.List.{take_at}
use Rattle.std.proofs.lemmas.List.{drop_at, drop-drop}
use Rattle.std.proofs.lemmas.Grind.{flat_map-append}
use Rattle.cm_record_layout.specs.Packing.{bytes_of, word_bytes}
use Rattle.cm_record_layout.proofs.{length-bytes_of}
use Rattle.cm_record_rules.specs.Laid.{tags_from, is_wide_tag}

pub length-word_bytes : (words : List ℕ) → length (word_bytes words) ≡ 8 * length words
length-word_bytes [] = refl
length-word_bytes (w ∷ words) =
    omega (
      arith,
      length-append (bytes_of w) (word_bytes words),
      length-bytes_of w,
      length-word_bytes words,
    )

-- one more word is written
pub write_step : (out start words : List ℕ) (i word : ℕ)
    → out ≡ word_bytes (take i words) ++ drop (8 * i) start → i < length words
    → word ≡ get_or words i 0
    → take (8 * i) out ++ bytes_of word ++ drop (8 * i + 8) out ≡ word_bytes (take (i + 1) words)
    ++ drop (8 * (i + 1)) start
write_step out start words i word e lt ew =
    let done = word_bytes (take i words) in
    let rest = drop (8 * i) start in
    let size : length done ≡ 8 * i = length-word_bytes (take i words) ∙ ap
    (λ n. 8 * n) (length-take-le i words (omega (arith, lt))) in
    let front : take (8 * i) out ≡ done = ap (take (8 * i)) e ∙ take_at done rest (8 * i) size in
    let back : drop (8 * i + 8) out ≡ drop (8 * (i + 1)) start =
    sym (drop-drop 8 (8 * i) out)
    ∙ (ap (drop 8) (ap (drop (8 * i)) e ∙ drop_at done rest (8 * i) size)
    ∙ (drop-drop 8 (8 * i) start ∙ ap (λ n. drop n start) (omega arith))) in
    let more : word_bytes (take (i + 1) words) ≡ done ++ bytes_of word =
    ap word_bytes (take_more words i 0 lt ∙ ap
    (λ w. take i words ++ w ∷ []) (sym ew))
    ∙ (flat_map-append bytes_of (take i words) (word ∷ [])
    ∙ ap (λ w. done ++ w) (append-nil (bytes_of word))) in
    rw (front, back, more) refl

one_tag : (second : Bool) (word : ℕ) (words : List ℕ)
    → tags_from second (word ∷ words)
    ≡ cond second 0 (word % 2 ^ 8) ∷ tags_from (is_wide_tag (cond second 0 (word % 2 ^ 8))) words
unfolding tags_from
one_tag true word words = refl
one_tag false word words = refl

-- one more tag
pub tags_more : (done : List ℕ) (second : Bool) (words : List ℕ) (i tag : ℕ) → i < length words
    → tag ≡ cond second 0 (get_or words i 0 % 2 ^ 8)
    → done ++ tags_from second (drop i words)
    ≡ (done ++ tag ∷ []) ++ tags_from (is_wide_tag tag) (drop (i + 1) words)
tags_more done second words i tag lt is =
    ap (λ ws. done ++ tags_from second ws) (drop_more words i 0 lt)
    ∙ (ap (λ ts. done ++ ts) (one_tag second (get_or words i 0) (drop (i + 1) words))
    ∙ (ap (λ t. done ++ t ∷ tags_from (is_wide_tag t) (drop (i + 1) words)) (sym is)
    ∙ sym (append_assoc done (tag ∷ []) (tags_from (is_wide_tag tag) (drop (i + 1) words)))))

pub tags_end : (done : List ℕ) (second : Bool) (words : List ℕ) (i : ℕ) → length words ≤ i
    → done ++ tags_from second (drop i words) ≡ done
unfolding tags_from
tags_end done second words i le =
    ap (λ ws. done ++ tags_from second ws) (drop_all i words le) ∙ append-nil done
