use Rattle.std.proofs.Common.{ℕ, ◌+◌, List, refl, sym, ap, subst, ◌∙◌}
use Rattle.std.specs.Prelude.{Err}
use Rattle.std.proofs.lemmas.Result.{err_from_is_err_and}
use Rattle.cm_layout.specs.declared.entry.Entry.TheVariants as entry
use Rattle.cm_state.specs.Step.{UnloadAll}
use Rattle.cm_space.specs.Space.{left_by_all}
use Rattle.cm_front.specs.Front.{IsFront}
use Rattle.cm_front.specs.Accepting.{Unloads, accepted}
use Rattle.cm_front.specs.Refusing.{loaders_asked}
use Rattle.cm_front.proofs.Causes.{unload_all_refused, were_asked}
use Rattle.cm_front.proofs.GoingsUnload.{unloads_all}
use Rattle.cm_front.proofs.Answering.{told, no_memory, given, accepts, unload_all_asked}
use Rattle.cm_front.proofs.front.Front.unload_all.Goals as goal

pub returns-in_err-loaders : goal.returns-in_err-loaders
returns-in_err-loaders c =
    let p = err_from_is_err_and c.from_residual.result c.from_residual.ensures.1 in
    let s = c.args.self.now in
    let xs = c.args.names.now in
    let first = unload_all_refused c.rows_tell_state.ensures.loaders.1 s xs c.requires.running
    c.requires.whole in
    rw p.1 (told s (UnloadAll xs) (loaders_asked s xs) p.0 first
    (sym c.in_err-loaders.ensures ∙ ap Err (sym p.2)))

pub leave-requires-clause-unloads : goal.leave-requires-clause-unloads
leave-requires-clause-unloads c =
    let s = c.args.self.now in
    let xs = c.args.names.now in
    let us : List ℕ = c.in_ok-loaders.loaders in
    let unloads = unloads_all c.loaders_are_own.ensures s xs us
    (subst IsFront c.self.view_is c.self.invariant)
    (were_asked s xs us (sym c.in_ok-loaders.ensures)) in
    subst (λ (vs : List ℕ). Unloads s (entry.UnloadAll (record { loaders = us })) vs)
    (sym c.as_slice.ensures.value) unloads

pub returns-in_err-leave : goal.returns-in_err-leave
returns-in_err-leave c =
    let p = err_from_is_err_and c.from_residual-in_err-leave.result
    c.from_residual-in_err-leave.ensures.1 in
    let s = c.args.self.now in
    let xs = c.args.names.now in
    let first = unload_all_refused c.rows_tell_state.ensures.loaders.1 s xs c.requires.running
    c.requires.whole in
    rw (p.1, p.2) (no_memory s _ (UnloadAll xs) (loaders_asked s xs) c.in_ok-loaders.loaders first
    (sym c.in_ok-loaders.ensures) c.in_err-leave.ensures.err (λ b. b))

pub returns : goal.returns
returns c =
    let s = c.args.self.now in
    let xs = c.args.names.now in
    let us : List ℕ = c.in_ok-loaders.loaders in
    let first = unload_all_refused c.rows_tell_state.ensures.loaders.1 s xs c.requires.running
    c.requires.whole in
    let own = c.loaders_are_own.ensures in
    let f = subst IsFront c.self.view_is c.self.invariant in
    let asked = were_asked s xs us (sym c.in_ok-loaders.ensures) in
    let n = c.in_ok-leave.ensures.number in
    let after = c.in_ok-leave.ensures.ok
    ∙ ap (λ (vs : List ℕ). accepted s (entry.UnloadAll (record { loaders = us }))
    (left_by_all s.space (s.number + 1) vs)) c.as_slice.ensures.value in
    given s _ (UnloadAll xs) (loaders_asked s xs) us _ first (sym c.in_ok-loaders.ensures) (λ b. b)
    (accepts s _ (UnloadAll xs) _ (entry.UnloadAll (record { loaders = us })) _ n
    (unloads_all own s xs us f asked).may refl after (unload_all_asked own s xs us f asked))
