use Rattle.cm_verdict.proofs.Contents.{found_is_framed, framed_is_found}
use Rattle.cm_verdict.proofs.laws.found_is_framed.Goals as goal

pub returns-clause-framed : goal.returns-clause-framed
returns-clause-framed c =
    found_is_framed c.rows_are_apart.ensures c.frames_are_matched.ensures.to

pub returns-clause-found : goal.returns-clause-found
returns-clause-found c = framed_is_found c.frames_are_matched.ensures.from
