use Rattle.cm_state.proofs.Arenas.{arenas_apart, records_in_arenas}
use Rattle.cm_state.proofs.laws.arenas_are_apart.Goals as goal

pub returns : goal.returns
returns c =
    let stay = c.rows_stay_live.ensures in
    let own = c.loaders_are_own.ensures in
    record { apart = arenas_apart stay own; held = records_in_arenas stay own }
