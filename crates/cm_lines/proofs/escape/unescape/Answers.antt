use Rattle.std.proofs.Common.{◌≡◌, ◌+◌, Err, drop, sym, ap, ◌∙◌, arith}
use Rattle.std.proofs.lemmas.List.{drop_more}
use Rattle.cm_lines.specs.Escapes.{named_by, spelled_from}
use Rattle.cm_lines.specs.declared.escape.NameFault.TheVariants.{BadEscape}
use Rattle.cm_lines.proofs.escape.unescape.Goals as goal

pub returns-in-Err-clause-bad : goal.returns-in-Err-clause-bad
returns-in-Err-clause-bad c bad =
    let word = c.args.word.now in
    let i = c.loop-byte.byte-index in
    let same : c.in-Err.fault ≡ BadEscape = (cc) in
    let none = c.in-Err.ensures.bad (ap Err same) (drop (i + 1) word) in
    sym c.loop-byte.invariant.spelled
    ∙ ap (λ text. named_by c.loop-byte.name.items (spelled_from c.loop-byte.awaited text))
    (drop_more word i 0 (omega arith))
    ∙ ap (named_by c.loop-byte.name.items) none

pub loop-byte-preserved : goal.loop-byte-preserved
loop-byte-preserved c =
    let word = c.args.word.now in
    let i = c.loop-byte.byte-index in
    record {
      spelled = c.in-Ok.ensures.spelled (drop (i + 1) word)
          ∙ ap (λ text. named_by c.loop-byte.name.items (spelled_from c.loop-byte.awaited text))
          (sym (drop_more word i 0 (omega arith)))
          ∙ c.loop-byte.invariant.spelled;
      digit = c.in-Ok.ensures.digit;
    }
