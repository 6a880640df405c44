use Rattle.cm_lines.proofs.EscapeLaws as laws
use Rattle.cm_lines.proofs.laws.unescaping_undoes_escaping.Goals as goal

pub returns : goal.returns
returns c = laws.unescaping_undoes
