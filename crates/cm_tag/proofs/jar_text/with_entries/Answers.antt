use Rattle.std.proofs.Common.{◌≡◌, ◌≤◌, ◌++◌, length, sym, ap, ◌∙◌, append_assoc, append-nil, arith}
use Rattle.sha2.specs.Sha256.{sha256}
use Rattle.cm_tag.proofs.TextLaws.{texts_drop, texts_end}
use Rattle.cm_tag.proofs.jar_text.with_entries.Goals as goal

pub loop-entry-preserved : goal.loop-entry-preserved
loop-entry-preserved c =
    let kept = c.loop-entry.invariant in
    let step = texts_drop c.args.entries.now c.loop-entry.entry-index _ c.loop-entry-test.true in (
      _,
      c.add_entry.ensures kept.0 kept.1,
      append_assoc kept.0 _ _ ∙ (ap (λ l. kept.0 ++ l) (sym step) ∙ kept.2),
    )

pub returns : goal.returns
returns c =
    let kept = c.loop-entry.invariant in
    let end : length c.args.entries.now ≤ c.loop-entry.entry-index = omega arith in
    let none = texts_end c.args.entries.now c.loop-entry.entry-index end in
    c.finalize.ensures kept.0 kept.1
    ∙ ap sha256 (sym (append-nil kept.0) ∙ (ap (λ l. kept.0 ++ l) (sym none) ∙ kept.2))
