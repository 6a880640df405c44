use Rattle.std.proofs.Common.{ℤ, rules, refl, sym, subst}
use Rattle.std.proofs.lemmas.Int.{to_z-of_z}
use Rattle.std.specs.Int.{w32}
use Rattle.cm_commands.specs.Commands.{change_asked}
use Rattle.cm_core.specs.declared.inner.Inner.{Inner}
use Rattle.cm_core.specs.declared.inner.Inner.TheVariants.{Cache}
use Rattle.cm_core.specs.Cache.{Changes}
use Rattle.cm_core.proofs.cache.change_inner.Goals as goal

pub returns-in-Cache : goal.returns-in-Cache
returns-in-Cache c =
    let asked = change_asked c.args.command in
    let new = c.accept.new.cache in
    let after = c.accept.new.number in
    let before = c.args.number.now in
    subst (λ (status : ℤ). Changes asked c.args.inner.now (Cache new) status before after)
    (sym (to_z-of_z w32 c.accept.result (search rules)))
    (subst (λ (i : Inner). Changes asked i (Cache new) c.accept.result before after)
    (sym c.in-Cache.is) (new, refl, c.accept.ensures))
