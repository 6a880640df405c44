use Rattle.std.proofs.Common.{◌∙◌, sym}
use Rattle.cm_rules.proofs.Searches.{broken_is}
use Rattle.cm_rules.proofs.search.broken_spot.Goals as goal

pub returns : goal.returns
returns c = c.found_spot.ensures ∙ sym (broken_is c.args.findings.now.class.now c.args.rule)
