use Rattle.std.proofs.Common.{◌≡◌, ◌∙◌, ◌+◌, ◌∷◌, true, None, Some, cond, is_none, drop, get_or}
use Rattle.std.proofs.Common.{suc, sym, drop-cons}
use Rattle.std.proofs.Common.{ap, subst, arith}
use Rattle.std.specs.Prelude.{◌&&◌}
use Rattle.cm_layout.specs.declared.entry_rule.EntryRule.TheVariants.{OnRows}
use Rattle.cm_layout.specs.Rows.{without_loader, without_loaders}
use Rattle.cm_layout.specs.Rules.{are_live, differ}
use Rattle.cm_layout.proofs.{live-in-turn}
use Rattle.cm_rows.proofs.live_rows.LiveRows.unload_all.Goals as goal

pub loop-number-preserved : goal.loop-number-preserved
loop-number-preserved g c =
    let numbers = c.args.numbers.now in
    let i = c.loop-number.number-index in
    let book = c.loop-number.self in
    let u = get_or numbers i 0 in
    let rest = drop (i + 1) numbers in
    let next : suc i ≡ i + 1 = omega arith in
    let here : drop i numbers ≡ u ∷ rest =
    drop-cons numbers i 0 c.loop-number-test.true ∙ ap (λ n. u ∷ drop n numbers) next in
    let turn =
    live-in-turn u rest book.rows
    (subst (λ us. (differ us && are_live us book.rows) ≡ true) here c.loop-number.invariant.live) in
    let none : c.unload.result ≡ None =
    c.unload.ensures.broken ∙ ap (λ t. cond t None (Some OnRows)) turn.0 in
    let left : c.unload.new.self ≡ record book { rows = without_loader u book.rows } =
    c.unload.ensures.left
    ∙ ap (λ o. cond (is_none o) (record book { rows = without_loader u book.rows }) book) none in
    record {
      sizes = ap (λ b. b.sizes) left ∙ c.loop-number.invariant.sizes;
      rows = ap (λ b. without_loaders rest b.rows) left
          ∙ sym (ap (λ us. without_loaders us book.rows) here) ∙ c.loop-number.invariant.rows;
      live = subst (λ b. (differ rest && are_live rest b.rows) ≡ true) (sym left) turn.1;
    }
