use Rattle.std.proofs.Common.{◌≡◌, ◌+◌, refl, subst, arith}
use Rattle.cm_record_laying.specs.Laying.{LaysMembers}
use Rattle.cm_record_laying.proofs.Joins.{no_members, members_then}
use Rattle.cm_record_laying.proofs.lists.lay_members.Goals as goal

pub loop-init : goal.loop-init
loop-init c = no_members c.args.bytes.now c.args.sections.now

pub loop-preserved : goal.loop-preserved
loop-preserved c =
    members_then c.loop.counter 1 (c.loop.counter + 1) c.args.bytes.now c.loop.rest.now
    c.in_ok-rest.rest.now c.args.sections.now c.loop.sections c.lay_member.new.sections refl
    c.loop.invariant (c.in_ok-rest.ensures {u = tt})

pub returns : goal.returns
returns c =
    let all : c.loop.counter ≡ c.args.count =
    omega (arith, c.loop-test.false, c.loop.auto.counter-end) in
    subst
    (λ n. LaysMembers n c.args.bytes.now c.args.sections.now c.loop.sections c.loop.rest.now) all
    c.loop.invariant
