use Rattle.std.proofs.Common.{◌≡◌, ◌-◌, ◌+◌, arith}
use Rattle.cm_class.specs.Spelling.{u2, counted}
use Rattle.cm_record_reading.specs.Reading.{interfaces_from, appended}
use Rattle.cm_record_reading.proofs.Taken.{interfaces_taken}
use Rattle.cm_record_reading.proofs.Turns.{behind-counted, interfaces_short, interfaces_wrong}
use Rattle.cm_record_reading.proofs.Turns.{interfaces_next, interfaces_done}
use Rattle.cm_record_reading.proofs.spelling.spell_interfaces.Goals as goal

pub loop-init : goal.loop-init
loop-init c =
    let all : c.args.count - 0 ≡ c.args.count = omega arith in
    rw all
    (behind-counted u2 c.args.out.now.items c.put_u16.new.out.items c.args.count
    (interfaces_from c.args.count c.args.words.now) c.in_ok-put_u16.ensures
    (λ x found. (interfaces_taken c.args.count c.args.words.now x found).many))

pub returns-in_default : goal.returns-in_default
returns-in_default c =
    interfaces_short c.loop.out.items c.loop.rest.now
    (appended c.args.out.now.items (counted u2) (interfaces_from c.args.count c.args.words.now))
    (c.args.count - c.loop.counter) c.loop.invariant (omega (arith, c.loop-test.true))
    c.in_default.len_below

pub returns-then-word-ge-SECOND : goal.returns-then-word-ge-SECOND
returns-then-word-ge-SECOND c =
    interfaces_wrong c.loop.out.items c.loop.rest.now
    (appended c.args.out.now.items (counted u2) (interfaces_from c.args.count c.args.words.now))
    (c.args.count - c.loop.counter) c.loop.invariant (omega (arith, c.loop-test.true))
    c.in-len1-up.len_at_least c.if-word-ge-SECOND.true

pub loop-preserved : goal.loop-preserved
loop-preserved c =
    interfaces_next c.loop.out.items c.put_u16-in-loop.new.out.items c.loop.rest.now
    (appended c.args.out.now.items (counted u2) (interfaces_from c.args.count c.args.words.now))
    (c.args.count - c.loop.counter) (c.args.count - (c.loop.counter + 1)) c.loop.invariant
    (omega (arith, c.loop-test.true)) c.in-len1-up.len_at_least c.if-word-ge-SECOND.false
    c.in_ok-put_u16-2.ensures

pub returns : goal.returns
returns c =
    interfaces_done c.loop.out.items c.loop.rest.now
    (appended c.args.out.now.items (counted u2) (interfaces_from c.args.count c.args.words.now))
    (c.args.count - c.loop.counter) c.loop.invariant (omega (arith, c.loop-test.false))
