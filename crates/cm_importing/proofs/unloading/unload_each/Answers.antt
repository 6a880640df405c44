use Rattle.std.proofs.Common.{◌≡◌, ℕ, List, [], ◌∷◌, ◌++◌, length, refl, sym, ap, subst, ◌∙◌}
use Rattle.std.proofs.Common.{arith, append_assoc, append-nil}
use Rattle.std.proofs.lemmas.List.{length-append}
use Rattle.std.specs.Global.{Vec}
use Rattle.cm_pool.specs.Geometry.{Sizes}
use Rattle.cm_state.specs.Step.{Unload}
use Rattle.cm_commit.specs.States.{CommitterState}
use Rattle.cm_session.specs.Moves.{SessionMatches, ReachesMachine}
use Rattle.cm_importing.specs.Groups.{Takes, TakesEach}
use Rattle.cm_importing.specs.Unloading.{unloads}
use Rattle.cm_importing.proofs.Takings.{one_loader_more, none_left}
use Rattle.cm_importing.proofs.unloading.unload_each.Goals as goal

pub loaders-init : goal.loaders-init
loaders-init g c =
    let made = c.in_ok-outcomes.ensures in
    let none = ap length made.items in
    let all = c.into_iter-loader-iterator.ensures.into_iter_gives.0 in
    let many = ap length all in
    let s = c.args.session.now in (
      refl,
      omega (arith, none, many, made.capacity, c.len.ensures),
      all,
      λ k i. record {
        next = k;
        does = subst (λ l. TakesEach s.committer.sizes k [] l k) (sym made.items) refl;
        matches = i;
      },
    )

pub push_reserved-requires : goal.push_reserved-requires
push_reserved-requires g c =
    let more = ap length c.in-Some.ensures.steps.0 in
    omega (arith, more, c.loaders.invariant.1, c.loaders.outcomes.ok.0)

pub loaders-preserved : goal.loaders-preserved
loaders-preserved g c =
    let kept = c.loaders.invariant in
    let one = c.in-Some.loader in
    let y = c.loaders.yielded in
    let rest = c.next.new.self.rest.items in
    let more = ap length c.in-Some.ensures.steps.0 in
    let old = c.loaders.outcomes.items in
    let outcome = c.unload_one.result in
    let pushed = c.push_reserved.ensures in
    let items = ap length pushed.items in
    let long = length-append old (outcome ∷ []) in
    let fn = c.args.session.now.committer in (
      c.unload_one.ensures.disk ∙ kept.0,
      omega (arith, more, items, long, pushed.capacity, kept.1),
      append_assoc y (one ∷ []) rest
          ∙ ap (λ l. y ++ l) (sym c.in-Some.ensures.steps.0) ∙ kept.2,
      λ k i.
          let so = kept.3 k i in
          one_loader_more fn.sizes k y old one outcome so.next _ _ pushed.items so.does
          (subst (λ (l : List ℕ). ReachesMachine (Takes fn.sizes so.next (Unload l) outcome)
          (λ next. SessionMatches next c.unload_one.new.session)) c.deref.ensures.value
          (subst (λ (z : Sizes).
          ReachesMachine (Takes z so.next (Unload c.deref.result.now) outcome)
          (λ next. SessionMatches next c.unload_one.new.session))
          (ap (λ (b : CommitterState _). b.sizes) kept.0)
          (c.unload_one.ensures.machine so.next so.matches))),
    )

pub returns-clause-machine : goal.returns-clause-machine
returns-clause-machine g c =
    let kept = c.loaders.invariant in
    let all = sym (append-nil c.loaders.yielded)
    ∙ ap (λ l. c.loaders.yielded ++ l) (sym (none_left c.loaders.loader-iterator.rest.items
    (let none = c.in-None.ensures.steps.0 in
    omega (arith, none, c.loaders.loader-iterator.rest.ok.0)))) ∙ kept.2 in
    λ k i.
    subst (λ l. ReachesMachine
    (TakesEach c.args.session.now.committer.sizes k (unloads l)
    c.loaders.outcomes.items) (λ next. SessionMatches next c.loaders.session)) all (kept.3 k i)

pub returns-clause-disk : goal.returns-clause-disk
returns-clause-disk g c = c.loaders.invariant.0
