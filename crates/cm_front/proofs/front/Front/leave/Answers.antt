use Rattle.std.proofs.Common.{◌+◌, refl, sym, ap, subst, ◌∙◌}
use Rattle.std.proofs.lemmas.Result.{err_from_is_err_and}
use Rattle.cm_front.specs.Front.{FrontState, front_of}
use Rattle.cm_front.specs.Accepting.{Unloads, accepted, carried, joined_by}
use Rattle.cm_space.specs.Space.{left_by_all}
use Rattle.cm_front.proofs.GoingsUnload.{keeps_left}
use Rattle.cm_front.proofs.Answering.{Followed, followed, same_groups, unchanged, above}
use Rattle.cm_front.proofs.Answering.{last_of_all, all_known, all_apart}
use Rattle.cm_front.proofs.front.Front.leave.Goals as goal

pub returns-in_err-make_ready-clause-err : goal.returns-in_err-make_ready-clause-err
returns-in_err-make_ready-clause-err c =
    let p = err_from_is_err_and c.from_residual.result c.from_residual.ensures.1 in
    let i = c.self.inside in
    rw p.1 (same_groups i.book i.space i.unsealed c.make_ready.new.self i.number i.sealed i.learnt
    i.is_broken i.is_closed c.make_ready.ensures.groups ∙ c.self.view_is)

pub leave_all-requires-clause-known : goal.leave_all-requires-clause-known
leave_all-requires-clause-known c =
    let i = c.self.inside in
    let s : FrontState =
    front_of i.book i.space i.unsealed i.number i.sealed i.learnt i.is_broken i.is_closed in
    let us = c.args.loaders.now in
    let h = subst (λ t. Unloads t c.args.unloaded us) (sym c.self.view_is) c.requires.unloads in
    all_known s us c.self.invariant h.live

pub leave_all-requires-clause-differ : goal.leave_all-requires-clause-differ
leave_all-requires-clause-differ c = all_apart c.args.loaders.now c.requires.unloads.differ

pub leave_all-requires-clause-last : goal.leave_all-requires-clause-last
leave_all-requires-clause-last c =
    last_of_all c.self.inside.learnt c.self.inside.number c.self.inside.space.waiting
    c.self.invariant.waiting

pub returns-in_err-leave_all-clause-err : goal.returns-in_err-leave_all-clause-err
returns-in_err-leave_all-clause-err c =
    let p = err_from_is_err_and c.from_residual-in_err-leave_all.result
    c.from_residual-in_err-leave_all.ensures.1 in
    let i = c.self.inside in
    rw p.1 (unchanged i.book i.space c.leave_all.new.self i.unsealed c.make_ready.new.self i.number
    i.sealed i.learnt i.is_broken i.is_closed c.args.self.now c.in_err-leave_all.ensures.err
    c.make_ready.ensures.groups c.self.view_is)

pub apply-rule-requires : goal.apply-rule-requires
apply-rule-requires c =
    let i = c.self.inside in
    above c.loaders_are_own.ensures (front_of i.book i.space i.unsealed i.number i.sealed i.learnt
    i.is_broken i.is_closed) c.self.invariant

goes : (c : goal.After-self-1)
    → Followed (front_of c.self.inside.book c.self.inside.space c.self.inside.unsealed
    c.self.inside.number c.self.inside.sealed c.self.inside.learnt c.self.inside.is_broken
    c.self.inside.is_closed)
    c.args.unloaded c.leave_all.new.self
    (front_of c.apply-rule.new.self c.leave_all.new.self c.join.new.self (c.self.inside.number + 1)
    c.self.inside.sealed c.self.inside.learnt c.self.inside.is_broken c.self.inside.is_closed)
goes c =
    let i = c.self.inside in
    let e = c.args.unloaded in
    let us = c.args.loaders.now in
    let s : FrontState =
    front_of i.book i.space i.unsealed i.number i.sealed i.learnt i.is_broken i.is_closed in
    let f = c.self.invariant in
    let h = subst (λ t. Unloads t e us) (sym c.self.view_is) c.requires.unloads in
    let keeps = keeps_left s e us c.leave_all.new.self f h c.in_ok-leave_all.ensures.ok
    c.invariant_holds.ensures.arenas c.invariant_holds.ensures.pool in
    followed c.entries_are_steps.ensures.words i.book c.apply-rule.new.self i.space
    c.leave_all.new.self i.unsealed c.make_ready.new.self c.join.new.self i.number
    (i.number + 1) i.sealed i.learnt i.is_broken i.is_closed e c.apply-rule.result f h.left refl
    keeps c.apply-rule.ensures.broken c.apply-rule.ensures.left c.make_ready.ensures.groups
    (c.join.ensures
    ∙ ap (λ d. joined_by (i.number + 1) c.make_ready.new.self.groups d)
    (c.requires.carried ∙ ap (λ (t : FrontState). carried t.rows e) (sym c.self.view_is)))

pub invariant_of-self-2 : goal.invariant_of-self-2
invariant_of-self-2 c = (goes c).front

pub returns-clause-number : goal.returns-clause-number
returns-clause-number c = ap (λ (t : FrontState). t.number + 1) c.self.view_is

pub returns-clause-ok : goal.returns-clause-ok
returns-clause-ok c =
    let us = c.args.loaders.now in
    let i = c.self.inside in
    let s : FrontState =
    front_of i.book i.space i.unsealed i.number i.sealed i.learnt i.is_broken i.is_closed in
    (goes c).after
    ∙ ap (accepted s c.args.unloaded) c.in_ok-leave_all.ensures.ok
    ∙ ap (λ (t : FrontState). accepted t c.args.unloaded (left_by_all t.space (t.number + 1) us))
    c.self.view_is
