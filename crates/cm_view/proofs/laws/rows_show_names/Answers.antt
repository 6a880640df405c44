use Rattle.std.proofs.Common.{arith}
use Rattle.cm_view.proofs.RowNames.{shows_name}
use Rattle.cm_view.proofs.laws.rows_show_names.Goals as goal

pub returns : goal.returns
returns c row class has =
    shows_name c.args.bytes.now (λ i. omega (arith, c.type_inv.bytes i)) c.kept_names_itself.ensures
    row class has
