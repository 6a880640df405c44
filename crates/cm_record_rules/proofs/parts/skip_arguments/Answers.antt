use Rattle.std.proofs.Common.{[], ◌∷◌}
use Rattle.cm_class.specs.Names.{names_such}
use Rattle.cm_attributes.specs.Contents.{is_loadable}
use Rattle.cm_record_rules.specs.Parts.{past_tests}
use Rattle.cm_attributes.specs.Contents.{past_counted}
use Rattle.cm_attributes.proofs.{rows_goes_on, rows_refuse, rows_end}
use Rattle.cm_record_rules.proofs.parts.skip_arguments.Goals as goal

pub returns-in_err-rest : goal.returns-in_err-rest
returns-in_err-rest c =
    rw c.from_residual-in_err-rest.ensures
    (rows_refuse (past_tests (names_such is_loadable c.args.class.now ∷ [])) c.in_ok-count.count
    c.loop.counter c.loop.rest.now
    (past_counted (past_tests (names_such is_loadable c.args.class.now ∷ [])) c.args.bytes.now)
    c.loop-test.true c.in_err-rest.ensures c.loop.invariant)

pub loop-preserved : goal.loop-preserved
loop-preserved c =
    rows_goes_on (past_tests (names_such is_loadable c.args.class.now ∷ [])) c.in_ok-count.count
    c.loop.counter
    c.loop.rest.now c.in_ok-rest.rest.now
    (past_counted (past_tests (names_such is_loadable c.args.class.now ∷ [])) c.args.bytes.now)
    c.loop-test.true c.in_ok-rest.ensures c.loop.invariant

pub returns : goal.returns
returns c = rows_end (past_tests (names_such is_loadable c.args.class.now ∷ [])) c.in_ok-count.count
    c.loop.counter c.loop.rest.now
    (past_counted (past_tests (names_such is_loadable c.args.class.now ∷ [])) c.args.bytes.now)
    c.loop-test.false
    c.loop.invariant
