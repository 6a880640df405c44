use Rattle.cm_lines.proofs.LineLaws as laws
use Rattle.cm_lines.proofs.laws.lines_make_the_script.Goals as goal

pub returns : goal.returns
returns c = laws.lines_make_script
