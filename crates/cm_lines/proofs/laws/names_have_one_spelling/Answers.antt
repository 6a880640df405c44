use Rattle.cm_lines.proofs.EscapeLaws as laws
use Rattle.cm_lines.proofs.laws.names_have_one_spelling.Goals as goal

pub returns : goal.returns
returns c = laws.spelling_is_one
