use Rattle.cm_layout.specs.declared.row.Row.TheVariants.{Class}
use Rattle.cm_verdict.specs.Standing.{AreRecorded, row_found}
use Rattle.cm_verdict.proofs.Verdicts.{fault_told}
use Rattle.cm_verdict.proofs.Passing.{place_fault, told_twice, took_class, keeps_rule}
use Rattle.cm_verdict.proofs.second_pass.SecondPass.take_class.Goals as goal

pub returns-in_err-class-clause-taken : goal.returns-in_err-class-clause-taken
returns-in_err-class-clause-taken c = λ contents before judged are.
    let sizes = c.args.self.now.geometry in
    let e = c.in_err-class.field-0.0 in
    let row = c.args.row in
    fault_told (λ (u : Unit {0}). AreRecorded sizes c.args.rows.now) c.from_residual.result e
    (row_found sizes contents before (Class row (record { slot = c.args.slot })))
    c.from_residual.ensures.1
    (place_fault e sizes contents before row c.args.slot
    (c.in_err-class.ensures.class sizes contents row.place judged))

pub returns-then-has_class-clause-taken : goal.returns-then-has_class-clause-taken
returns-then-has_class-clause-taken c = λ contents before judged are.
    let sizes = c.args.self.now.geometry in
    let row = c.args.row in
    told_twice sizes contents c.args.rows.now before are row c.args.slot c.in_ok-class.class
    (c.in_ok-class.ensures.class sizes contents row.place judged) c.has_class.result
    c.has_class.ensures c.if-has_class.true

pub push_class-requires : goal.push_class-requires
push_class-requires c =
    keeps_rule c.args.self.now.geometry c.args.self.now.number c.args.rows.now
    (Class c.args.row c.in_ok-class.class) c.requires.follows

pub returns-clause-taken : goal.returns-clause-taken
returns-clause-taken c = λ contents before judged are.
    let sizes = c.args.self.now.geometry in
    let row = c.args.row in
    took_class sizes contents c.args.rows.now before are row c.args.slot c.in_ok-class.class
    (c.in_ok-class.ensures.class sizes contents row.place judged) c.has_class.result
    c.push_class.new.self c.has_class.ensures c.if-has_class.false c.in_ok-push_class.ensures
