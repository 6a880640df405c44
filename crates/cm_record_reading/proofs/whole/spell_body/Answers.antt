use Rattle.std.proofs.lemmas.Result.{err_from_is_err_and}
use Rattle.cm_class.specs.Spelling.{attribute_bytes, member_bytes, counted}
use Rattle.cm_record_reading.specs.Reading.{attributes_from, members_from, body_from, behind3}
use Rattle.cm_record_reading.specs.Reading.{behind4, body_behind}
use Rattle.cm_record_reading.proofs.Spelled.{fields_none, methods_none, own_none, body_made}
use Rattle.cm_record_reading.proofs.Turns.{fails_through}
use Rattle.cm_record_reading.proofs.whole.spell_body.Goals as goal

pub returns-in_err-main : goal.returns-in_err-main
returns-in_err-main c =
    let p = err_from_is_err_and c.from_residual.result c.from_residual.ensures.1 in
    rw (p.1, p.2) (fails_through c.in_err-main.field-0.0
    (behind4 c.args.out.now.items (counted member_bytes)
    (members_from c.args.total c.args.counts.fields c.args.main.now c.args.attributes.now
    c.args.runs.now))
    (body_behind c.args.out.now.items
    (body_from c.args.total c.args.counts.fields c.args.counts.methods c.args.counts.attributes
    c.args.main.now c.args.attributes.now c.args.runs.now))
    (fields_none c.args.total c.args.counts.fields c.args.counts.methods c.args.counts.attributes
    c.args.main.now c.args.attributes.now c.args.runs.now c.args.out.now.items)
    c.in_err-main.ensures.read)

pub returns-in_err-main-2 : goal.returns-in_err-main-2
returns-in_err-main-2 c =
    let p = err_from_is_err_and c.from_residual-in_err-main-2.result
    c.from_residual-in_err-main-2.ensures.1 in
    rw (p.1, p.2) (fails_through c.in_err-main-2.field-0.0
    (behind4 c.spell_members.new.out.items (counted member_bytes)
    (members_from c.args.total c.args.counts.methods c.in_ok-main.main.now
    c.in_ok-main.attributes.now c.in_ok-main.runs.now))
    (body_behind c.args.out.now.items
    (body_from c.args.total c.args.counts.fields c.args.counts.methods c.args.counts.attributes
    c.args.main.now c.args.attributes.now c.args.runs.now))
    (methods_none c.args.total c.args.counts.fields c.args.counts.methods c.args.counts.attributes
    c.args.main.now c.args.attributes.now c.args.runs.now c.args.out.now.items
    c.spell_members.new.out.items c.in_ok-main.main.now c.in_ok-main.attributes.now
    c.in_ok-main.runs.now c.in_ok-main.ensures.read)
    c.in_err-main-2.ensures.read)

pub returns-in_err-attributes : goal.returns-in_err-attributes
returns-in_err-attributes c =
    let p = err_from_is_err_and c.from_residual-in_err-attributes.result
    c.from_residual-in_err-attributes.ensures.1 in
    rw (p.1, p.2) (fails_through c.in_err-attributes.field-0.0
    (behind3 c.spell_members-2.new.out.items (counted attribute_bytes)
    (attributes_from c.args.total c.args.counts.attributes c.in_ok-main-2.attributes.now
    c.in_ok-main-2.runs.now))
    (body_behind c.args.out.now.items
    (body_from c.args.total c.args.counts.fields c.args.counts.methods c.args.counts.attributes
    c.args.main.now c.args.attributes.now c.args.runs.now))
    (own_none c.args.total c.args.counts.fields c.args.counts.methods c.args.counts.attributes
    c.args.main.now c.args.attributes.now c.args.runs.now c.args.out.now.items
    c.spell_members.new.out.items c.in_ok-main.main.now c.in_ok-main.attributes.now
    c.in_ok-main.runs.now c.in_ok-main.ensures.read
    c.spell_members-2.new.out.items c.in_ok-main-2.main.now c.in_ok-main-2.attributes.now
    c.in_ok-main-2.runs.now c.in_ok-main-2.ensures.read)
    c.in_err-attributes.ensures.read)

pub returns : goal.returns
returns c =
    body_made c.args.total c.args.counts.fields c.args.counts.methods c.args.counts.attributes
    c.args.main.now c.args.attributes.now c.args.runs.now c.args.out.now.items
    c.spell_members.new.out.items c.in_ok-main.main.now c.in_ok-main.attributes.now
    c.in_ok-main.runs.now c.in_ok-main.ensures.read
    c.spell_members-2.new.out.items c.in_ok-main-2.main.now c.in_ok-main-2.attributes.now
    c.in_ok-main-2.runs.now c.in_ok-main-2.ensures.read
    c.spell_attributes.new.out.items c.in_ok-attributes.attributes.now
    c.in_ok-attributes.runs.now c.in_ok-attributes.ensures.read
