use Rattle.std.proofs.Common.{subst}
use Rattle.cm_layout.specs.declared.row.Row.{Row}
use Rattle.cm_layout.specs.declared.row.Row.TheVariants.{Loader}
use Rattle.cm_verdict.specs.declared.defined_at.DefinedAt.{DefinedAt}
use Rattle.cm_verdict.specs.Standing.{MayFollow, bare_of}
use Rattle.cm_verdict.proofs.Passing.{took_loader, keeps_rule}
use Rattle.cm_verdict.proofs.second_pass.SecondPass.take_row.Goals as goal

pub push_loader-requires : goal.push_loader-requires
push_loader-requires c =
    keeps_rule c.args.self.now.geometry c.args.self.now.number c.args.rows.now
    (Loader c.in-Loader.row)
    (subst (λ (r : Row DefinedAt). MayFollow c.args.self.now.geometry c.args.self.now.number
    c.args.rows.now (bare_of r)) c.in-Loader.is c.requires.follows)

pub returns-in-Loader-clause-taken : goal.returns-in-Loader-clause-taken
returns-in-Loader-clause-taken c = λ contents before judged are.
    rw c.in-Loader.is
    (took_loader c.args.self.now.geometry contents c.args.rows.now c.push_loader.new.self before
    c.in-Loader.row are c.push_loader.ensures)
