use denote.RattleType.{RattleType}
use denote.Param.Send.{IsSync}
use Rattle.cm_words.proofs.Crosses.{Cells-sync}
use Rattle.cm_words.specs.contracts.block.Cells.{the_row}

pub sync : (R : RattleType) → IsSync R → IsSync (the_row R)
sync = Cells-sync
