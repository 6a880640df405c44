use Rattle.cm_verdict.proofs.KeptRecords.{verdict_stands, stands_in_verdict}
use Rattle.cm_verdict.proofs.laws.verdict_is_exact.Goals as goal

pub returns-clause-stands : goal.returns-clause-stands
returns-clause-stands c = verdict_stands c.found_is_framed.ensures.framed

pub returns-clause-ok : goal.returns-clause-ok
returns-clause-ok c = stands_in_verdict c.found_is_framed.ensures.found
