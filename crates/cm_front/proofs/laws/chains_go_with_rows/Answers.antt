use Rattle.cm_front.proofs.Tops.{chains_end_at_top, chains_have_chunks}
use Rattle.cm_front.proofs.laws.chains_go_with_rows.Goals as goal

pub returns : goal.returns
returns c = record { tops = chains_end_at_top; chunks = chains_have_chunks }
