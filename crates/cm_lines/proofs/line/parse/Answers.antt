use Rattle.std.proofs.Common.{◌≡◌, arith, ℕ, Bool, true, false, cond, ◌&&◌, ◌≢◌, List, [], ◌∷◌}
use Rattle.std.proofs.Common.{◌++◌, All, Some, None, refl, sym, ap, ◌∙◌}
use Rattle.std.specs.Prelude.{codes}
use Rattle.std.specs.Str.{bytes_eq}
use Rattle.cm_lines.specs.Lines.{AsksUnloadAll, are_words, request_of_few, request_of_words}
use Rattle.cm_lines.specs.Lines.{request_in, pieces}
use Rattle.cm_lines.proofs.Cuts.{pieces_cut, pieces_none}
use Rattle.cm_lines.proofs.line.parse.Goals as goal
use Rattle.cm_lines.proofs.line.parse.Goals.{else-eq-via-then-eq+else-are_words}
use Rattle.cm_lines.proofs.line.parse.Goals.{else-eq-via-else-eq}

nothing_behind : (verb : List ℕ) → request_of_words (verb ∷ []) ≡ None
nothing_behind verb = chosen (bytes_eq verb (codes "unloadall"))
  where
    chosen : (t : Bool) → cond (t && false) (Some (AsksUnloadAll [])) None ≡ None
    chosen true = refl
    chosen false = refl

pub returns-in_err-verb : goal.returns-in_err-verb
returns-in_err-verb c =
    rw c.from_residual.ensures
    (sym (ap request_of_words (pieces_none 32 c.args.line.now c.in_err-verb.ensures.none)
    ∙ nothing_behind c.args.line.now))

-- whether all words after the verb are names
of_line : (line verb words : List ℕ) → line ≡ verb ++ 32 ∷ words → All (λ b. b ≢ 32) verb
    → (t : Bool) → (bytes_eq verb (codes "unloadall") && are_words (pieces 32 words)) ≡ t
    → request_in line
    ≡ cond t (Some (AsksUnloadAll (pieces 32 words))) (request_of_few verb (pieces 32 words))
of_line line verb words found first t is =
    let names = pieces 32 words in
    ap request_of_words (pieces_cut 32 line verb words found first)
    ∙ ap (λ t. cond t (Some (AsksUnloadAll names)) (request_of_few verb names)) is

pub returns-then-are_words : goal.returns-then-are_words
returns-then-are_words c =
    let verb = c.in_ok-verb.verb.now in
    let words = c.in_ok-verb.words.now in
    let names = pieces 32 words in
    let is : (bytes_eq verb (codes "unloadall") && are_words names) ≡ true =
    grind (arith, c.if-eq.ensures {u = tt}, c.as_slice.ensures, c.if-are_words.ensures {u = tt}) in
    sym
    (of_line c.args.line.now verb words c.in_ok-verb.ensures.found c.in_ok-verb.ensures.first
    true is)

pub returns-else-eq : goal.returns-else-eq
returns-else-eq c =
    let verb = c.in_ok-verb.verb.now in
    let words = c.in_ok-verb.words.now in
    let names = pieces 32 words in
    let not : (bytes_eq verb (codes "unloadall") && are_words names) ≡ false =
    elim c.else-eq.branch [
      | else-eq-via-then-eq+else-are_words w ↦ grind (arith, w.if-are_words.ensures {u = tt})
      | else-eq-via-else-eq w ↦ grind (arith, w.if-eq.ensures {u = tt}, c.as_slice.ensures)
    ] in
    c.of_few_words.ensures
    ∙ sym (of_line c.args.line.now verb words c.in_ok-verb.ensures.found c.in_ok-verb.ensures.first
    false not)
