use Rattle.std.proofs.Common.{refl, Ok, Err}
use Rattle.std.proofs.lemmas.Result.{err_from_is_err_and}
use Rattle.cm_class.specs.Reading.{member_at}
use Rattle.cm_class.proofs.Sinks.{exactly, fills, stops, is_full}
use Rattle.cm_class.proofs.members.many_members.Goals as goal

pub returns-in_err-item : goal.returns-in_err-item
returns-in_err-item g c =
    let p = err_from_is_err_and c.from_residual-in_err-item.result
    c.from_residual-in_err-item.ensures.1 in
    rw (p.1, p.2)
    (stops member_at c.args.count c.loop.counter c.loop.rest.now c.loop.invariant
    c.in_err-item.field-0.0 c.loop-test.true
    (exactly (Err c.in_err-item.field-0.0) c.in_err-item.ensures))

pub loop-preserved : goal.loop-preserved
loop-preserved g c =
    fills member_at c.args.count c.loop.counter c.loop.rest.now c.loop.invariant
    (c.in_ok-item.item, c.in_ok-item.after.now) c.push.new.list.items c.loop-test.true
    (exactly (Ok (c.in_ok-item.item, c.in_ok-item.after.now)) c.in_ok-item.ensures)
    c.in_ok-push.ensures.kept

pub returns : goal.returns
returns g c =
    is_full member_at c.args.count c.loop.counter c.loop.rest.now c.loop.invariant
    (λ x. (x.0.items, x.1.now)) (c.loop.members, c.loop.rest) c.loop-test.false refl
