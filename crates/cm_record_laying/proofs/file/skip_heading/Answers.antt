use Rattle.std.proofs.Common.{◌≡◌, ◌++◌, take, drop, sym, ap, ◌∙◌}
use Rattle.std.proofs.lemmas.List.{take-append-drop}
use Rattle.std.specs.Cmp.Lexicographic.{same_text}
use Rattle.cm_class.specs.Spelling.{heading}
use Rattle.cm_record_laying.proofs.file.skip_heading.Goals as goal

pub returns-then-eq : goal.returns-then-eq
returns-then-eq c =
    let bytes = c.args.bytes.now in
    let parts = c.in_ok-found.ensures.cases in
    let same : c.in_ok-found.found.now ≡ heading =
    same_text c.in_ok-found.found.now heading (c.if-eq.ensures {u = tt}) in
    sym (take-append-drop 8 bytes) ∙ (ap (λ l. l ++ drop 8 bytes) (sym parts.0 ∙ same)
    ∙ ap (λ l. heading ++ l) (sym parts.1))
