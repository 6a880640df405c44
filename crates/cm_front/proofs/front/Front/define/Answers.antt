use Rattle.std.proofs.Common.{◌≡◌, ℕ, ◌+◌, ◌<◌, ◌≤◌, cond, [], refl, sym, ap, subst, ◌∙◌, List}
use Rattle.std.proofs.Common.{arith}
use Rattle.std.specs.Prelude.{Result, Ok, Err, IsTrue, ◌↔◌}
use Rattle.cm_arena.specs.Placing.{IsFull, Places}
use Rattle.cm_space.specs.Space.{arena_of}
use Rattle.cm_pool.specs.Chunks.{chunk_size}
use Rattle.std.proofs.lemmas.Result.{err_from_is_err_and}
use Rattle.cm_arena.specs.declared.refusal.PlaceRefusal.{PlaceRefusal}
use Rattle.cm_arena.specs.declared.refusal.PlaceRefusal.TheVariants as of_place
use Rattle.cm_layout.specs.declared.entry.Entry.{Entry}
use Rattle.cm_layout.specs.declared.entry.Entry.TheVariants as entry
use Rattle.cm_layout.specs.declared.row.Row.TheVariants.{Class}
use Rattle.cm_pool.specs.declared.place.Place.{Place}
use Rattle.cm_state.specs.Step.{Define}
use Rattle.cm_commands.specs.declared.refusal.Refusal.{Refusal}
use Rattle.cm_commands.specs.declared.refusal.Refusal.TheVariants as refusal
use Rattle.cm_front.specs.Front.{FrontState, IsFront, front_of}
use Rattle.cm_front.specs.Accepting.{FrontAnswers, FrontAccepts, joined_by}
use Rattle.cm_front.specs.Refusing.{class_asked}
use Rattle.cm_front.proofs.Causes.{class_refused, was_free}
use Rattle.cm_front.proofs.Goings.{not_last}
use Rattle.cm_front.proofs.Answering.{unchanged, above, told, given, full_answer, place_answer}
use Rattle.cm_front.proofs.Answering.{Went, followed, went, class_keeps, class_given, is_known}
use Rattle.cm_front.proofs.Answering.{words_some, not_full_for}
use Rattle.cm_front.proofs.front.Front.define.Goals as goal
use Rattle.cm_front.proofs.front.Front.define.Goals.{then-is_full, else-is_full}

pub returns-in_err-loader : goal.returns-in_err-loader
returns-in_err-loader c =
    let p = err_from_is_err_and c.from_residual.result c.from_residual.ensures.1 in
    let s = c.args.self.now in
    let x = c.args.name.now in
    let w = c.args.class in
    let first =
    class_refused c.rows_tell_state.ensures.loaders.1 c.rows_tell_state.ensures.classes.1
    c.rows_tell_state.ensures.sizes.1 s x w (subst IsFront c.self.view_is c.self.invariant)
    c.requires.running c.requires.whole in
    rw p.1 (told s (Define x w) (class_asked s x w) p.0 first
    (sym c.in_err-loader.ensures ∙ ap Err (sym p.2)))

pub is_full-requires-clause-known : goal.is_full-requires-clause-known
is_full-requires-clause-known c =
    let i = c.self.inside in
    let s : FrontState =
    front_of i.book i.space i.unsealed i.number i.sealed i.learnt i.is_broken i.is_closed in
    let x = c.args.name.now in
    let w = c.args.class in
    let u = c.in_ok-loader.loader in
    is_known s x u c.self.invariant
    (was_free s x w u
    (subst (λ t. ◌≡◌ {A = Result ℕ Refusal} (class_asked t x w) (Ok u)) (sym c.self.view_is)
    (sym c.in_ok-loader.ensures))).asked

pub is_full-requires-clause-some : goal.is_full-requires-clause-some
is_full-requires-clause-some c =
    subst (λ (n : ℕ). 1 ≤ n) (sym c.words-words.ensures.words)
    (words_some c.args.class c.words-words.ensures.right)

pub returns-in_default : goal.returns-in_default
returns-in_default c =
    let s = c.args.self.now in
    let x = c.args.name.now in
    let k = c.args.class in
    let u = c.in_ok-loader.loader in
    let i = c.self.inside in
    let f = subst IsFront c.self.view_is c.self.invariant in
    let first =
    class_refused c.rows_tell_state.ensures.loaders.1 c.rows_tell_state.ensures.classes.1
    c.rows_tell_state.ensures.sizes.1 s x k f c.requires.running c.requires.whole in
    let same = unchanged i.book i.space c.is_full.new.self i.unsealed c.room_for.new.unsealed
    i.number i.sealed i.learnt i.is_broken i.is_closed s c.is_full.ensures.left
    c.room_for.ensures.groups c.self.view_is in
    let free = was_free s x k u (sym c.in_ok-loader.ensures) in
    let tells = subst (λ (t : FrontState). IsTrue c.is_full.result
    ↔ IsFull (arena_of t.space u) t.space.pool c.words-words.result) c.self.view_is
    c.is_full.ensures.full in
    let new = front_of i.book c.is_full.new.self c.room_for.new.unsealed i.number i.sealed i.learnt
    i.is_broken i.is_closed in
    let answer =
    full_answer s new x k u c.words-words.result first (sym c.in_ok-loader.ensures) same
    c.words-words.ensures.words free.asked.found c.is_full.result tells in
    elim c.if-is_full.branch [
      | then-is_full w ↦
          subst (λ r. FrontAnswers s (Define x k) (Err r) new)
          (ap (λ b. cond b refusal.RegionFull refusal.NoMemory) w.if-is_full.true ∙ sym w.result-is)
          answer
      | else-is_full w ↦
          subst (λ r. FrontAnswers s (Define x k) (Err r) new)
          (ap (λ b. cond b refusal.RegionFull refusal.NoMemory) w.if-is_full.false
          ∙ sym w.result-is)
          answer
    ]

pub place-requires-clause-known : goal.place-requires-clause-known
place-requires-clause-known c =
    let i = c.self.inside in
    let s : FrontState =
    front_of i.book i.space i.unsealed i.number i.sealed i.learnt i.is_broken i.is_closed in
    let x = c.args.name.now in
    let w = c.args.class in
    let u = c.in_ok-loader.loader in
    is_known s x u c.self.invariant
    (was_free s x w u
    (subst (λ t. ◌≡◌ {A = Result ℕ Refusal} (class_asked t x w) (Ok u)) (sym c.self.view_is)
    (sym c.in_ok-loader.ensures))).asked

pub place-requires-clause-some : goal.place-requires-clause-some
place-requires-clause-some c =
    subst (λ (n : ℕ). 1 ≤ n) (sym c.words-words.ensures.words)
    (words_some c.args.class c.words-words.ensures.right)

err_same : (a b : PlaceRefusal) → ◌≡◌ {A = Result Place PlaceRefusal} (Err a) (Err b) → a ≡ b
err_same a b e = cc

no_ok : (p : Place) (b : PlaceRefusal) → ◌≡◌ {A = Result Place PlaceRefusal} (Ok p) (Err b) → ⊥
no_ok p b e = absurd (cc)

pub returns-in-Err : goal.returns-in-Err
returns-in-Err c =
    let s = c.args.self.now in
    let x = c.args.name.now in
    let w = c.args.class in
    let u = c.in_ok-loader.loader in
    let i = c.self.inside in
    let f = subst IsFront c.self.view_is c.self.invariant in
    let first =
    class_refused c.rows_tell_state.ensures.loaders.1 c.rows_tell_state.ensures.classes.1
    c.rows_tell_state.ensures.sizes.1 s x w f c.requires.running c.requires.whole in
    let same = unchanged i.book i.space c.place.new.self i.unsealed c.room_for.new.unsealed
    i.number i.sealed i.learnt i.is_broken i.is_closed s c.in-Err.ensures.err
    c.room_for.ensures.groups c.self.view_is in
    let free = was_free s x w u (sym c.in_ok-loader.ensures) in
    let long = subst (λ (t : FrontState). ◌≡◌ {A = Result Place PlaceRefusal} (Err c.in-Err.refusal)
    (Err of_place.RecordTooLong) → chunk_size t.space.pool.geometry.top < c.words-words.result)
    c.self.view_is c.in-Err.ensures.too_long.0 in
    let tells =
    subst (λ (t : FrontState). ◌≡◌ {A = Result Place PlaceRefusal} (Err c.in-Err.refusal)
    (Err of_place.RegionFull) ↔ IsFull (arena_of t.space u) t.space.pool c.words-words.result)
    c.self.view_is c.in-Err.ensures.full in
    let new = front_of i.book c.place.new.self c.room_for.new.unsealed i.number i.sealed i.learnt
    i.is_broken i.is_closed in
    subst (λ r. FrontAnswers s (Define x w) (Err r) new) (sym c.refusal_of_place.ensures)
    (place_answer s new x w u c.words-words.result first (sym c.in_ok-loader.ensures) same
    c.words-words.ensures.words f free c.in-Err.refusal (λ e. long (ap Err e))
    (λ e. tells.0 (ap Err e))
    (λ h. err_same c.in-Err.refusal of_place.RegionFull (tells.1 h)))

pub apply-rule-requires : goal.apply-rule-requires
apply-rule-requires c =
    let i = c.self.inside in
    above c.loaders_are_own.ensures (front_of i.book i.space i.unsealed i.number i.sealed i.learnt
    i.is_broken i.is_closed) c.self.invariant

pub join-requires-clause-to : goal.join-requires-clause-to
join-requires-clause-to c =
    let i = c.self.inside in
    let s : FrontState =
    front_of i.book i.space i.unsealed i.number i.sealed i.learnt i.is_broken i.is_closed in
    let x = c.args.name.now in
    let w = c.args.class in
    let u = c.in_ok-loader.loader in
    let free = was_free s x w u
    (subst (λ t. ◌≡◌ {A = Result ℕ Refusal} (class_asked t x w) (Ok u)) (sym c.self.view_is)
    (sym c.in_ok-loader.ensures)) in
    let below = not_last i.number c.self.invariant.numbers free.asked.left in
    omega (arith, below)

goes : (c : goal.After-self-1)
    → Went (front_of c.self.inside.book c.self.inside.space c.self.inside.unsealed
    c.self.inside.number c.self.inside.sealed c.self.inside.learnt c.self.inside.is_broken
    c.self.inside.is_closed)
    (Define c.args.name.now c.args.class) (c.self.inside.number + 1)
    (front_of c.apply-rule.new.self c.place.new.self c.join.new.self (c.self.inside.number + 1)
    c.self.inside.sealed c.self.inside.learnt c.self.inside.is_broken c.self.inside.is_closed)
goes c =
    let i = c.self.inside in
    let x = c.args.name.now in
    let w = c.args.class in
    let u = c.in_ok-loader.loader in
    let place = c.in-Ok-place.place in
    let s : FrontState =
    front_of i.book i.space i.unsealed i.number i.sealed i.learnt i.is_broken i.is_closed in
    let free = was_free s x w u
    (subst (λ t. ◌≡◌ {A = Result ℕ Refusal} (class_asked t x w) (Ok u)) (sym c.self.view_is)
    (sym c.in_ok-loader.ensures)) in
    let e : Entry (List ℕ) = entry.Live (Class (record { loader = u; place = place }) w) in
    let f = c.self.invariant in
    let own = c.loaders_are_own.ensures in
    let keeps = class_keeps c.places_keep_rules.ensures own s x w u c.words-words.result place
    c.place.new.self f free c.words-words.ensures.right c.words-words.ensures.words
    c.in-Ok-place.ensures.placed c.in-Ok-place.ensures.others
    c.invariant_holds.ensures.arenas c.invariant_holds.ensures.pool in
    went s _ (Define x w) (i.number + 1) e c.place.new.self refl keeps (
      subst (λ n. Places (arena_of s.space u) s.space.pool n place (arena_of c.place.new.self u)
          c.place.new.self.pool) c.words-words.ensures.words c.in-Ok-place.ensures.placed,
      c.in-Ok-place.ensures.others,
    )
    (class_given own s x w u place f free.asked)
    (followed c.entries_are_steps.ensures.words i.book c.apply-rule.new.self i.space
    c.place.new.self i.unsealed c.room_for.new.unsealed c.join.new.self i.number
    (i.number + 1) i.sealed
    i.learnt i.is_broken i.is_closed e c.apply-rule.result f
    (not_last i.number f.numbers free.asked.left) refl keeps c.apply-rule.ensures.broken
    c.apply-rule.ensures.left
    c.room_for.ensures.groups
    (c.join.ensures
    ∙ ap (λ d. joined_by (i.number + 1) c.room_for.new.unsealed.groups d)
    (c.class-entry.ensures
    ∙ ap (λ (r : List ℕ). record {
      entry = entry.Live (Class (record { loader = u; place = place }) r);
      moved = [];
    }) (c.into_record.ensures.record ∙ c.in-Ok.ensures.shared))))

pub invariant_of-self-2 : goal.invariant_of-self-2
invariant_of-self-2 c = (goes c).front

pub returns : goal.returns
returns c =
    let s = c.args.self.now in
    let x = c.args.name.now in
    let w = c.args.class in
    let u = c.in_ok-loader.loader in
    let first =
    class_refused c.rows_tell_state.ensures.loaders.1 c.rows_tell_state.ensures.classes.1
    c.rows_tell_state.ensures.sizes.1 s x w (subst IsFront c.self.view_is c.self.invariant)
    c.requires.running c.requires.whole in
    let free = was_free s x w u (sym c.in_ok-loader.ensures) in
    let full =
    subst (λ (t : FrontState). IsFull (arena_of t.space u) t.space.pool c.words-words.result
    → ◌≡◌ {A = Result Place PlaceRefusal} (Ok c.in-Ok-place.place) (Err of_place.RegionFull))
    c.self.view_is c.in-Ok-place.ensures.full.1 in
    given s _ (Define x w) (class_asked s x w) u (c.self.inside.number + 1) first
    (sym c.in_ok-loader.ensures)
    (not_full_for s x w u free.asked.found (λ h. no_ok c.in-Ok-place.place of_place.RegionFull
    (full (subst (λ n. IsFull (arena_of s.space u) s.space.pool n)
    (sym c.words-words.ensures.words) h))))
    (subst (λ (t : FrontState). FrontAccepts t (Define x w) (c.self.inside.number + 1)
    (front_of c.apply-rule.new.self c.place.new.self c.join.new.self (c.self.inside.number + 1)
    c.self.inside.sealed c.self.inside.learnt c.self.inside.is_broken c.self.inside.is_closed))
    c.self.view_is (goes c).accepts)
