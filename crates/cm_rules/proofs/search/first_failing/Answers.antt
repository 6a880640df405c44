use Rattle.std.proofs.Common.{◌∙◌, refl, sym}
use Rattle.std.specs.Fn.{FnReturnsAt}
use Rattle.cm_duplicates.specs.Duplicates.{first_failing}
use Rattle.cm_rules.proofs.Searches.{fails_here, passes_here, none_fails}
use Rattle.cm_rules.proofs.search.first_failing.Goals as goal

pub returns-then-not-passes-clause-place : goal.returns-then-not-passes-clause-place
returns-then-not-passes-clause-place g c = λ test means.
    let item = c.index-items-place in
    let ran : FnReturnsAt g.F.Fn c.args.passes item.result c.passes.result =
    record { shown = _; shows = refl; says = record { met = c.passes.ensures } } in
    fails_here (λ _ x. test x) c.args.items.now c.loop-place.place item.result
    (first_failing (λ _ x. test x) 0 c.args.items.now) c.loop-place-test.true item.is
    (sym c.if-not-passes.true ∙ means item.result c.passes.result ran)
    (c.loop-place.invariant test means)

pub loop-place-preserved : goal.loop-place-preserved
loop-place-preserved g c = λ test means.
    let item = c.index-items-place in
    let ran : FnReturnsAt g.F.Fn c.args.passes item.result c.passes.result =
    record { shown = _; shows = refl; says = record { met = c.passes.ensures } } in
    passes_here (λ _ x. test x) c.args.items.now c.loop-place.place item.result
    (first_failing (λ _ x. test x) 0 c.args.items.now) c.loop-place-test.true item.is
    (sym c.if-not-passes.false ∙ means item.result c.passes.result ran)
    (c.loop-place.invariant test means)

pub returns-clause-place : goal.returns-clause-place
returns-clause-place g c = λ test means.
    none_fails (λ _ x. test x) c.args.items.now c.loop-place.place
    (first_failing (λ _ x. test x) 0 c.args.items.now) c.loop-place-test.false
    (c.loop-place.invariant test means)
