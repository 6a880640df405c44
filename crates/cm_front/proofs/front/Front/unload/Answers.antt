use Rattle.std.proofs.Common.{refl, sym, ap, subst, ◌∙◌}
use Rattle.std.specs.Prelude.{Err}
use Rattle.std.proofs.lemmas.Result.{err_from_is_err_and}
use Rattle.cm_layout.specs.declared.entry.Entry.TheVariants as entry
use Rattle.cm_state.specs.Step.{Unload}
use Rattle.cm_front.specs.Front.{IsFront}
use Rattle.cm_front.specs.Refusing.{loader_asked}
use Rattle.cm_front.proofs.Causes.{unload_refused, was_asked}
use Rattle.cm_front.proofs.GoingsUnload.{unloads_one}
use Rattle.cm_front.proofs.Answering.{told, no_memory, given, accepts, unload_asked}
use Rattle.cm_front.proofs.front.Front.unload.Goals as goal

pub returns-in_err-loader : goal.returns-in_err-loader
returns-in_err-loader c =
    let p = err_from_is_err_and c.from_residual.result c.from_residual.ensures.1 in
    let s = c.args.self.now in
    let x = c.args.name.now in
    let first = unload_refused c.rows_tell_state.ensures.loaders.1 s x c.requires.running
    c.requires.whole in
    rw p.1 (told s (Unload x) (loader_asked s x) p.0 first
    (sym c.in_err-loader.ensures ∙ ap Err (sym p.2)))

pub leave-requires-clause-unloads : goal.leave-requires-clause-unloads
leave-requires-clause-unloads c =
    let s = c.args.self.now in
    let x = c.args.name.now in
    let u = c.in_ok-loader.loader in
    unloads_one c.loaders_are_own.ensures s x u (subst IsFront c.self.view_is c.self.invariant)
    (was_asked s x u (sym c.in_ok-loader.ensures))

pub returns-in_err-leave : goal.returns-in_err-leave
returns-in_err-leave c =
    let p = err_from_is_err_and c.from_residual-in_err-leave.result
    c.from_residual-in_err-leave.ensures.1 in
    let s = c.args.self.now in
    let x = c.args.name.now in
    let first = unload_refused c.rows_tell_state.ensures.loaders.1 s x c.requires.running
    c.requires.whole in
    rw (p.1, p.2) (no_memory s _ (Unload x) (loader_asked s x) c.in_ok-loader.loader first
    (sym c.in_ok-loader.ensures) c.in_err-leave.ensures.err (λ b. b))

pub returns : goal.returns
returns c =
    let s = c.args.self.now in
    let x = c.args.name.now in
    let u = c.in_ok-loader.loader in
    let first = unload_refused c.rows_tell_state.ensures.loaders.1 s x c.requires.running
    c.requires.whole in
    let own = c.loaders_are_own.ensures in
    let f = subst IsFront c.self.view_is c.self.invariant in
    let asked = was_asked s x u (sym c.in_ok-loader.ensures) in
    let n = c.in_ok-leave.ensures.number in
    given s _ (Unload x) (loader_asked s x) u _ first (sym c.in_ok-loader.ensures) (λ b. b)
    (accepts s _ (Unload x) _ (entry.Unload (record { loader = u })) _ n
    (unloads_one own s x u f asked).may refl c.in_ok-leave.ensures.ok
    (unload_asked own s x u f asked))
