use Rattle.std.proofs.Common.{◌≡◌, true, false, cond, ◌&&◌, Some, arith, sym, ap, ◌∙◌}
use Rattle.std.specs.Prelude.{codes}
use Rattle.std.specs.Str.{bytes_eq}
use Rattle.cm_lines.specs.Lines.{pieces, are_words}
use Rattle.cm_events.specs.Asked.{AsksUnloadAll, asked_of_few}
use Rattle.cm_events.proofs.line.with_words.Goals as goal
use Rattle.cm_events.proofs.line.with_words.Goals.{else-eq-via-then-eq+else-are_words}
use Rattle.cm_events.proofs.line.with_words.Goals.{else-eq-via-else-eq}

pub returns-then-are_words : goal.returns-then-are_words
returns-then-are_words c =
    let verb = c.args.verb.now in
    let names = pieces 32 c.args.rest.now in
    let is : (bytes_eq verb (codes "unloadall") && are_words names) ≡ true =
    grind (arith, c.if-eq.ensures {u = tt}, c.as_slice.ensures, c.if-are_words.ensures {u = tt}) in
    sym (ap (λ t. cond t (Some (AsksUnloadAll names)) (asked_of_few verb names)) is)

pub returns-else-eq : goal.returns-else-eq
returns-else-eq c =
    let verb = c.args.verb.now in
    let names = pieces 32 c.args.rest.now in
    let not : (bytes_eq verb (codes "unloadall") && are_words names) ≡ false =
    elim c.else-eq.branch [
      | else-eq-via-then-eq+else-are_words w ↦ grind (arith, w.if-are_words.ensures {u = tt})
      | else-eq-via-else-eq w ↦ grind (arith, w.if-eq.ensures {u = tt}, c.as_slice.ensures)
    ] in
    c.with_few.ensures
    ∙ sym (ap (λ t. cond t (Some (AsksUnloadAll names)) (asked_of_few verb names)) not)
