use Rattle.std.proofs.Common.{◌≡◌, [], ◌∷◌, ◌++◌, length, map, refl, sym, ap, subst, ◌∙◌}
use Rattle.std.proofs.Common.{arith, append_assoc, append-nil}
use Rattle.std.proofs.lemmas.List.{length-append, map-append, length-map}
use Rattle.cm_pool.specs.Geometry.{Sizes}
use Rattle.cm_state.specs.Step.{Define}
use Rattle.cm_commit.specs.States.{CommitterState}
use Rattle.cm_session.specs.Moves.{SessionMatches, ReachesMachine}
use Rattle.cm_importing.specs.declared.named.NamedClass.{NamedClass}
use Rattle.cm_importing.specs.Groups.{Takes, TakesEach, defines}
use Rattle.cm_importing.proofs.Takings.{takes_one_more, none_left}
use Rattle.cm_importing.proofs.group.define_each.Goals as goal

pub classes-init : goal.classes-init
classes-init g c =
    let made = c.in_ok-outcomes.ensures in
    let none = ap length made.items in
    let all = c.into_iter-class-iterator.ensures.into_iter_gives.0 in
    let many = ap length all in
    let s = c.args.session.now in (
      refl,
      omega (arith, none, many, made.capacity, c.len.ensures, c.in_ok-named.named.ok.0),
      ap (map (λ (n : NamedClass). n.class)) all ∙ c.in_ok-named.ensures,
      λ k i. record {
        next = k;
        does = subst (λ l. TakesEach s.committer.sizes k [] l k) (sym made.items) refl;
        matches = i;
      },
    )

pub push_reserved-requires : goal.push_reserved-requires
push_reserved-requires g c =
    let more = ap length c.in-Some.ensures.steps.0 in
    omega (arith, more, c.classes.invariant.1, c.classes.outcomes.ok.0)

pub classes-preserved : goal.classes-preserved
classes-preserved g c =
    let kept = c.classes.invariant in
    let one = c.in-Some.class in
    let y = c.classes.yielded in
    let rest = c.next.new.self.rest.items in
    let more = ap length c.in-Some.ensures.steps.0 in
    let old = c.classes.outcomes.items in
    let outcome = c.define_one.result in
    let pushed = c.push_reserved.ensures in
    let items = ap length pushed.items in
    let long = length-append old (outcome ∷ []) in
    let fn = c.args.session.now.committer in
    let loader = c.args.loader.now in
    let class = λ (n : NamedClass). n.class in
    let so_far = map-append class y (one ∷ []) in (
      c.define_one.ensures.disk ∙ kept.0,
      omega (arith, more, items, long, pushed.capacity, kept.1),
      ap (map class) (append_assoc y (one ∷ []) rest
          ∙ ap (λ l. y ++ l) (sym c.in-Some.ensures.steps.0)) ∙ kept.2,
      λ k i.
          let so = kept.3 k i in
          subst (λ l. ReachesMachine (TakesEach fn.sizes k (defines loader l)
          c.push_reserved.new.self.items) (λ next. SessionMatches next c.define_one.new.session))
          (sym so_far)
          (takes_one_more fn.sizes k loader (map class y) old one.class outcome so.next _ _
          pushed.items so.does
          (subst (λ (z : Sizes). ReachesMachine (Takes z so.next (Define loader one.class) outcome)
          (λ next. SessionMatches next c.define_one.new.session))
          (ap (λ (b : CommitterState _). b.sizes) kept.0)
          (c.define_one.ensures.machine so.next so.matches))),
    )

pub returns-clause-machine : goal.returns-clause-machine
returns-clause-machine g c =
    let kept = c.classes.invariant in
    let class = λ (n : NamedClass). n.class in
    let all = ap (map class) (sym (append-nil c.classes.yielded)
    ∙ ap (λ l. c.classes.yielded ++ l) (sym (none_left c.classes.class-iterator.rest.items
    (let none = c.in-None.ensures.steps.0 in
    omega (arith, none, c.classes.class-iterator.rest.ok.0))))) ∙ kept.2 in
    λ k i.
    subst (λ l. ReachesMachine
    (TakesEach c.args.session.now.committer.sizes k (defines c.args.loader.now l)
    c.classes.outcomes.items) (λ next. SessionMatches next c.classes.session)) all (kept.3 k i)

pub returns-clause-disk : goal.returns-clause-disk
returns-clause-disk g c = c.classes.invariant.0
