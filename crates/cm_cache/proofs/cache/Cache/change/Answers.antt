use Rattle.cm_commands.specs.Commands.{change_asked}
use Rattle.cm_cache.proofs.Changed.{refused_so, accepted_so, unsure_so}
use Rattle.cm_cache.proofs.cache.Cache.change.Goals as goal

pub returns-in-Err : goal.returns-in-Err
returns-in-Err g c =
    refused_so c.args.pass.now c.look-seen.new.self c.hold-held.new.pass
    (change_asked c.args.command) c.in-Err.refusal c.look-seen.result
    c.deref_mut.result.now.front c.look-seen.ensures.seen c.look-seen.ensures.number
    c.in-Err.ensures.refused.1 c.in-Err.ensures.stood

pub returns-in-Ok-wait_for : goal.returns-in-Ok-wait_for
returns-in-Ok-wait_for g c =
    let reached = c.in-Ok-wait_for.ensures.ok in
    let waited = c.wait_for.ensures in
    accepted_so c.args.pass.now c.look-seen.new.self c.hold-held.new.pass c.wait_for.new.self
    (change_asked c.args.command) c.in-Ok.number c.look-seen.result
    c.deref_mut.result.now.front c.look-seen.ensures.seen c.look-seen.ensures.number
    c.in-Ok.ensures.counted c.in-Ok.ensures.fits waited.kept waited.holds waited.looked
    waited.later reached.0 reached.1

pub returns-in-Err-wait_for : goal.returns-in-Err-wait_for
returns-in-Err-wait_for g c =
    let waited = c.wait_for.ensures in
    unsure_so c.args.pass.now c.look-seen.new.self c.hold-held.new.pass c.wait_for.new.self
    (change_asked c.args.command) c.in-Ok.number c.look-seen.result
    c.deref_mut.result.now.front c.look-seen.ensures.seen c.look-seen.ensures.number
    c.in-Ok.ensures.counted c.in-Ok.ensures.fits waited.kept waited.holds waited.looked
    waited.later c.in-Err-wait_for.unsure c.in-Err-wait_for.ensures.err
