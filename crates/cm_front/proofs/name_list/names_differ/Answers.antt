use Rattle.std.proofs.Common.{◌≡◌, ◌+◌, ◌-◌, true, Bor, List, ℕ, [], map, drop, take, length}
use Rattle.std.proofs.Common.{get_or, length-drop, ◌∙◌, ap, sym, arith}
use Rattle.std.specs.Prelude.{◌&&◌, not}
use Rattle.std.specs.List.{list_all}
use Rattle.std.specs.Str.{bytes_eq}
use Rattle.std.proofs.lemmas.List.{drop_more, drop_all, take_all}
use Rattle.cm_state.specs.Step.{names_differ}
use Rattle.cm_front.proofs.name_list.names_differ.Goals as goal

abbrev texts : List (Bor (List ℕ)) → List (List ℕ)
texts names = map (λ (name : Bor (List ℕ)). name.now) names

pub loop-at-preserved : goal.loop-at-preserved
loop-at-preserved c =
    let names = c.args.names.now in
    let i = c.loop-at.at in
    let none : Bor (List ℕ) = record { ref_ptr = (0, 0); now = [] } in
    let x : List ℕ = (get_or names i none).now in
    let whole : take (length names - (i + 1)) (drop (i + 1) names) ≡ drop (i + 1) names =
    take_all (length names - (i + 1)) (drop (i + 1) names)
    (omega (arith, length-drop (i + 1) names)) in
    let apart : true ≡ list_all (λ y. not (bytes_eq x y)) (texts (drop (i + 1) names)) =
    c.if-not-differs_from_all.ensures
    ∙ ap (λ l. list_all (λ y. not (bytes_eq x y)) (texts l)) whole in
    ap (λ t. t && names_differ (texts (drop (i + 1) names))) apart
    ∙ ap (λ l. names_differ (texts l)) (sym (drop_more names i none c.loop-at-test.true))
    ∙ c.loop-at.invariant

pub returns : goal.returns
returns c =
    ap (λ l. names_differ (texts l))
    (sym (drop_all c.loop-at.at c.args.names.now c.loop-at-test.false))
    ∙ c.loop-at.invariant
