use Rattle.std.proofs.Common.{◌≡◌, ◌+◌, ◌∷◌, [], ap, refl, subst, arith}
use Rattle.cm_record_laying.proofs.Steps.{adds_as}
use Rattle.cm_record_laying.specs.Laying.{LaysNumbers}
use Rattle.cm_record_laying.proofs.Joins.{no_numbers, number_laid, numbers_then}
use Rattle.cm_record_laying.proofs.lists.lay_interfaces.Goals as goal

pub loop-init : goal.loop-init
loop-init c = no_numbers c.args.bytes.now c.args.sections.now

pub loop-preserved : goal.loop-preserved
loop-preserved c =
    let read = c.in_ok-index.ensures {u = tt} in
    numbers_then c.loop.counter 1 (c.loop.counter + 1) c.args.bytes.now c.loop.rest.now
    c.in_ok-index.after.now c.args.sections.now c.loop.sections c.push_word.new.self refl
    c.loop.invariant
    (number_laid c.in_ok-index.index c.loop.rest.now c.in_ok-index.after.now c.loop.sections
    c.push_word.new.self read.1 read.0
    (adds_as c.loop.sections c.push_word.new.self (c.from.result ∷ []) [] []
    (c.in_ok-push_word.ensures {u = tt}) (c.in_ok-index.index ∷ []) [] []
    (ap (λ n. n ∷ []) c.from.ensures) refl refl))

pub returns : goal.returns
returns c =
    let all : c.loop.counter ≡ c.args.count =
    omega (arith, c.loop-test.false, c.loop.auto.counter-end) in
    subst
    (λ n. LaysNumbers n c.args.bytes.now c.args.sections.now c.loop.sections c.loop.rest.now) all
    c.loop.invariant
