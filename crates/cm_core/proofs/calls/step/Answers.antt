use Rattle.std.proofs.Common.{ℤ, rules, refl, sym, subst}
use Rattle.std.proofs.lemmas.Int.{to_z-of_z}
use Rattle.std.specs.Int.{w32}
use Rattle.cm_core.specs.declared.inner.Inner.{Inner}
use Rattle.cm_core.specs.declared.inner.Inner.TheVariants.{Cache, Calls}
use Rattle.cm_core.specs.Cache.{StepsInner}
use Rattle.cm_core.proofs.calls.step.Goals as goal

pub returns-in-Cache : goal.returns-in-Cache
returns-in-Cache c =
    let made = c.args.made in
    let new = c.step_cache.new.cache in
    let after = c.step_cache.new.stored in
    let before = c.args.stored.now in
    subst (λ (status : ℤ). StepsInner made c.args.inner.now (Cache new) status before after)
    (sym (to_z-of_z w32 c.step_cache.result (search rules)))
    (subst (λ (i : Inner). StepsInner made i (Cache new) c.step_cache.result before after)
    (sym c.in-Cache.is) (new, refl, c.step_cache.ensures))

pub returns-in-Calls : goal.returns-in-Calls
returns-in-Calls c =
    let made = c.args.made in
    let new = c.step_calls.new.calls in
    let stored = c.args.stored.now in
    subst (λ (status : ℤ). StepsInner made c.args.inner.now (Calls new) status stored stored)
    (sym (to_z-of_z w32 c.step_calls.result (search rules)))
    (subst (λ (i : Inner). StepsInner made i (Calls new) c.step_calls.result stored stored)
    (sym c.in-Calls.is) (new, refl, c.step_calls.ensures, refl))
