use Rattle.std.proofs.Common.{◌≡◌, ℕ, ◌+◌, cond, [], refl, sym, ap, subst, ◌∙◌, List}
use Rattle.std.specs.Prelude.{Result, Ok, Err, is_none}
use Rattle.std.proofs.lemmas.Result.{err_from_is_err_and}
use Rattle.cm_layout.specs.declared.loader_row.LoaderRow.{LoaderRow}
use Rattle.cm_layout.specs.declared.entry.Entry.{Entry}
use Rattle.cm_layout.specs.declared.entry.Entry.TheVariants as entry
use Rattle.cm_layout.specs.declared.row.Row.TheVariants.{Loader}
use Rattle.cm_layout.specs.Rules.{broken_rule}
use Rattle.cm_layout.specs.Rows.{rows_after}
use Rattle.cm_space.specs.Space.{IsKnown}
use Rattle.cm_rows.specs.Rows.{is_above}
use Rattle.cm_state.specs.Step.{AddLoader}
use Rattle.cm_commands.specs.declared.refusal.Refusal.{Refusal}
use Rattle.cm_front.specs.Front.{FrontState, IsFront, front_of}
use Rattle.cm_front.specs.Unsealed.{EndBefore}
use Rattle.cm_front.specs.Accepting.{FrontAccepts, joined_by}
use Rattle.cm_front.specs.Refusing.{loader_made}
use Rattle.cm_front.proofs.Causes.{loader_refused, was_made}
use Rattle.cm_front.proofs.Goings.{never_known, not_last}
use Rattle.cm_front.proofs.Answering.{same_groups, unchanged, above, next_follows, told, no_memory}
use Rattle.cm_front.proofs.Answering.{given}
use Rattle.cm_front.proofs.Answering.{Went, followed, went, loader_keeps}
use Rattle.cm_front.proofs.front.Front.add_loader.Goals as goal

pub returns-in_err-number : goal.returns-in_err-number
returns-in_err-number c =
    let p = err_from_is_err_and c.from_residual.result c.from_residual.ensures.1 in
    let s = c.args.self.now in
    let x = c.args.name.now in
    let first = loader_refused c.rows_tell_state.ensures.loaders.1 c.rows_tell_state.ensures.sizes.1
    s x (subst IsFront c.self.view_is c.self.invariant) c.requires.running c.requires.whole in
    rw p.1 (told s (AddLoader x) (loader_made s x) p.0 first
    (sym c.in_err-number.ensures ∙ ap Err (sym p.2)))

pub returns-in_err-make_ready : goal.returns-in_err-make_ready
returns-in_err-make_ready c =
    let p = err_from_is_err_and c.from_residual-in_err-make_ready.result
    c.from_residual-in_err-make_ready.ensures.1 in
    let s = c.args.self.now in
    let x = c.args.name.now in
    let i = c.self.inside in
    let first = loader_refused c.rows_tell_state.ensures.loaders.1 c.rows_tell_state.ensures.sizes.1
    s x (subst IsFront c.self.view_is c.self.invariant) c.requires.running c.requires.whole in
    let same =
    same_groups i.book i.space i.unsealed c.make_ready.new.self i.number i.sealed i.learnt
    i.is_broken i.is_closed c.make_ready.ensures.groups ∙ c.self.view_is in
    rw (p.1, p.2) (no_memory s _ (AddLoader x) (loader_made s x) c.in_ok-number.number first
    (sym c.in_ok-number.ensures) same (λ b. b))

pub add_loader-requires : goal.add_loader-requires
add_loader-requires c =
    let made = was_made c.args.self.now c.args.name.now c.in_ok-number.number
    (sym c.in_ok-number.ensures) in
    let known = never_known c.loaders_are_own.ensures c.args.self.now
    (subst IsFront c.self.view_is c.self.invariant) in
    λ k. known (subst (λ (n : ℕ). IsKnown c.args.self.now.space n) made.number
    (subst (λ (t : FrontState). IsKnown t.space c.in_ok-number.number) c.self.view_is k))

pub returns-in_err-add_loader : goal.returns-in_err-add_loader
returns-in_err-add_loader c =
    let p = err_from_is_err_and c.from_residual-in_err-add_loader.result
    c.from_residual-in_err-add_loader.ensures.1 in
    let s = c.args.self.now in
    let x = c.args.name.now in
    let i = c.self.inside in
    let first = loader_refused c.rows_tell_state.ensures.loaders.1 c.rows_tell_state.ensures.sizes.1
    s x (subst IsFront c.self.view_is c.self.invariant) c.requires.running c.requires.whole in
    let same = unchanged i.book i.space c.add_loader.new.self i.unsealed c.make_ready.new.self
    i.number i.sealed i.learnt i.is_broken i.is_closed s c.in_err-add_loader.ensures.err
    c.make_ready.ensures.groups c.self.view_is in
    rw (p.1, p.2) (no_memory s _ (AddLoader x) (loader_made s x) c.in_ok-number.number first
    (sym c.in_ok-number.ensures) same (λ b. b))

pub apply-rule-requires : goal.apply-rule-requires
apply-rule-requires c =
    let made = was_made c.args.self.now c.args.name.now c.in_ok-number.number
    (sym c.in_ok-number.ensures) in
    let now = above c.loaders_are_own.ensures c.args.self.now
    (subst IsFront c.self.view_is c.self.invariant) in
    ap (λ (n : ℕ). is_above n c.self.inside.book.rows) made.number
    ∙ (ap (λ (t : FrontState). is_above (c.args.self.now.number + 1) t.rows) c.self.view_is ∙ now)

pub join-requires-clause-next : goal.join-requires-clause-next
join-requires-clause-next c =
    let made = was_made c.args.self.now c.args.name.now c.in_ok-number.number
    (sym c.in_ok-number.ensures) in
    subst (λ (n : ℕ). EndBefore c.make_ready.new.self.groups n) (sym made.number)
    (next_follows c.args.self.now c.make_ready.new.self.groups
    (subst IsFront c.self.view_is c.self.invariant)
    (c.make_ready.ensures.groups ∙ ap (λ (t : FrontState). t.unsealed) c.self.view_is))

goes : (c : goal.After-self-1)
    → Went (front_of c.self.inside.book c.self.inside.space c.self.inside.unsealed
    c.self.inside.number c.self.inside.sealed c.self.inside.learnt c.self.inside.is_broken
    c.self.inside.is_closed)
    (AddLoader c.args.name.now) c.in_ok-number.number
    (front_of c.apply-rule.new.self c.add_loader.new.self c.join.new.self c.in_ok-number.number
    c.self.inside.sealed c.self.inside.learnt c.self.inside.is_broken c.self.inside.is_closed)
goes c =
    let i = c.self.inside in
    let x = c.args.name.now in
    let n = c.in_ok-number.number in
    let s : FrontState =
    front_of i.book i.space i.unsealed i.number i.sealed i.learnt i.is_broken i.is_closed in
    let made = was_made s x n
    (subst (λ t. ◌≡◌ {A = Result ℕ Refusal} (loader_made t x) (Ok n)) (sym c.self.view_is)
    (sym c.in_ok-number.ensures)) in
    let e : Entry (List ℕ) = entry.Live (Loader (record { number = n; name = x })) in
    let f = c.self.invariant in
    let keeps = loader_keeps c.loaders_are_own.ensures s x n c.add_loader.new.self f made
    c.in_ok-add_loader.ensures.ok c.invariant_holds.ensures.arenas
    c.invariant_holds.ensures.pool in
    went s _ (AddLoader x) n e c.add_loader.new.self made.number keeps
    c.in_ok-add_loader.ensures.ok refl
    (followed c.entries_are_steps.ensures.words i.book c.apply-rule.new.self i.space
    c.add_loader.new.self i.unsealed c.make_ready.new.self c.join.new.self i.number n
    i.sealed i.learnt
    i.is_broken i.is_closed e c.apply-rule.result f
    (not_last i.number f.numbers made.left) made.number keeps
    (c.apply-rule.ensures.broken
    ∙ ap (λ d. broken_rule i.book.sizes i.book.rows n d) c.loader_entry.ensures)
    (c.apply-rule.ensures.left
    ∙ ap (λ d. cond (is_none c.apply-rule.result)
    (record { sizes = i.book.sizes; rows = rows_after i.book.rows d }) i.book)
    c.loader_entry.ensures)
    c.make_ready.ensures.groups
    (c.join.ensures
    ∙ ap (λ d. joined_by n c.make_ready.new.self.groups d)
    (c.loader-entry.ensures
    ∙ ap (λ (r : LoaderRow). record { entry = entry.Live (Loader r); moved = [] })
    c.loader_row.ensures)))

pub invariant_of-self-2 : goal.invariant_of-self-2
invariant_of-self-2 c = (goes c).front

pub returns : goal.returns
returns c =
    let s = c.args.self.now in
    let x = c.args.name.now in
    let first = loader_refused c.rows_tell_state.ensures.loaders.1 c.rows_tell_state.ensures.sizes.1
    s x (subst IsFront c.self.view_is c.self.invariant) c.requires.running c.requires.whole in
    given s _ (AddLoader x) (loader_made s x) c.in_ok-number.number c.in_ok-number.number first
    (sym c.in_ok-number.ensures) (λ b. b)
    (subst (λ (t : FrontState). FrontAccepts t (AddLoader x) c.in_ok-number.number
    (front_of c.apply-rule.new.self c.add_loader.new.self c.join.new.self c.in_ok-number.number
    c.self.inside.sealed c.self.inside.learnt c.self.inside.is_broken c.self.inside.is_closed))
    c.self.view_is (goes c).accepts)
