use Rattle.cm_record_rules.specs.Plain.{is_plain_byte}
use Rattle.std.specs.List.{list_all}
use Rattle.cm_record_rules.proofs.PlainNames.{more_plain}
use Rattle.cm_record_rules.proofs.plain.are_plain.Goals as goal

pub loop-rest-preserved : goal.loop-rest-preserved
loop-rest-preserved c =
    more_plain c.loop-rest.all c.few_are_plain-all.result
    (list_all is_plain_byte c.args.bytes.now) 8 c.loop-rest.rest.now c.split_at.result.0.now
    c.split_at.result.1.now c.few_are_plain-all.ensures c.split_at.ensures.front
    c.split_at.ensures.back c.loop-rest.invariant
