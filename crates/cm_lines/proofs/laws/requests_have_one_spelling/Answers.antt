use Rattle.cm_lines.proofs.LineLaws as laws
use Rattle.cm_lines.proofs.laws.requests_have_one_spelling.Goals as goal

pub returns : goal.returns
returns c = laws.one_spelling
