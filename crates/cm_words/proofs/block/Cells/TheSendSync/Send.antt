use denote.RattleType.{RattleType}
use denote.Param.Send.{IsSend}
use Rattle.cm_words.proofs.Crosses.{Cells-send}
use Rattle.cm_words.specs.contracts.block.Cells.{the_row}

pub send : (R : RattleType) → IsSend R → IsSend (the_row R)
send = Cells-send
