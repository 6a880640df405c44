use Rattle.std.proofs.Common.{◌≡◌, ℕ, ◌+◌, ◌≤◌, Bool, false, cond, refl, sym, ap, subst, ◌∙◌}
use Rattle.std.proofs.Common.{List}
use Rattle.std.specs.Prelude.{Result, Ok, Err, IsTrue, is_none, ◌↔◌}
use Rattle.std.specs.List.{AllByRecursion}
use Rattle.std.proofs.lemmas.Result.{err_from_is_err_and}
use Rattle.cm_arena.specs.Tightening.{IsTight}
use Rattle.cm_group.specs.Groups.{Carried, IsRightRecord}
use Rattle.cm_layout.specs.declared.entry.Entry.{Entry}
use Rattle.cm_layout.specs.declared.entry.Entry.TheVariants as entry
use Rattle.cm_layout.specs.declared.move_entry.Move.{Move}
use Rattle.cm_layout.specs.Rows.{rows_after, kept_on}
use Rattle.cm_layout.specs.Rules.{broken_rule}
use Rattle.cm_space.specs.Space.{SpaceState, WaitingChunks, arena_of}
use Rattle.cm_space.specs.Tightening.{MovesChunk, MovesOrStays}
use Rattle.cm_state.specs.Step.{Tighten}
use Rattle.cm_state.specs.Laws.{LoadersAreFound}
use Rattle.cm_commands.specs.declared.refusal.Refusal.{Refusal}
use Rattle.cm_commands.specs.declared.refusal.Refusal.TheVariants as refusal
use Rattle.cm_front.specs.Front.{FrontState, front_of}
use Rattle.cm_front.specs.Accepting.{FrontAnswers, FrontAccepts, joined_by}
use Rattle.cm_front.specs.Refusing.{loader_asked}
use Rattle.cm_front.proofs.Causes.{IsAsked, tighten_refused, was_asked}
use Rattle.cm_front.proofs.Goings.{not_last}
use Rattle.cm_front.proofs.GoingsMove.{Known, IsMoved, keeps_move, last_from, right-kept}
use Rattle.cm_front.proofs.Answering.{unchanged, above, told, no_memory, no_chunk, not_tight_for}
use Rattle.cm_front.proofs.Answering.{given, Went, followed, went, tighten_asked, last_of_all}
use Rattle.cm_front.proofs.Answering.{is_known}
use Rattle.cm_front.proofs.front.Front.tighten_chunk.Goals as goal
use Rattle.cm_front.proofs.front.Front.tighten_chunk.Goals.{After-invariant_holds, After-self-1}

pub returns-in_err-loader : goal.returns-in_err-loader
returns-in_err-loader c =
    let p = err_from_is_err_and c.from_residual.result c.from_residual.ensures.1 in
    let s = c.args.self.now in
    let x = c.args.name.now in
    let first = tighten_refused c.rows_tell_state.ensures.loaders.1 s x c.requires.running
    c.requires.whole in
    rw p.1 (told s (Tighten x) (loader_asked s x) p.0 first
    (sym c.in_err-loader.ensures ∙ ap Err (sym p.2)))

pub is_tight-requires : goal.is_tight-requires
is_tight-requires c =
    let i = c.self.inside in
    let s : FrontState =
    front_of i.book i.space i.unsealed i.number i.sealed i.learnt i.is_broken i.is_closed in
    let x = c.args.name.now in
    let u = c.in_ok-loader.loader in
    is_known s x u c.self.invariant
    (was_asked s x u
    (subst (λ t. ◌≡◌ {A = Result ℕ Refusal} (loader_asked t x) (Ok u)) (sym c.self.view_is)
    (sym c.in_ok-loader.ensures)))

pub returns-then-is_tight : goal.returns-then-is_tight
returns-then-is_tight c =
    let s = c.args.self.now in
    let x = c.args.name.now in
    let u = c.in_ok-loader.loader in
    let i = c.self.inside in
    let first = tighten_refused c.rows_tell_state.ensures.loaders.1 s x c.requires.running
    c.requires.whole in
    let same = ap (λ space. front_of i.book space i.unsealed i.number i.sealed i.learnt i.is_broken
    i.is_closed) c.is_tight.ensures.left ∙ c.self.view_is in
    let tight = subst (λ (t : FrontState). IsTight (arena_of t.space u) t.space.pool)
    c.self.view_is (c.is_tight.ensures.tight.0 c.if-is_tight.true) in
    no_chunk s _ (Tighten x) (loader_asked s x) u first (sym c.in_ok-loader.ensures) same
    (u, (was_asked s x u (sym c.in_ok-loader.ensures)).found, tight)

-- a test that failed
no_way : (b : Bool) → b ≡ false → IsTrue b → ⊥
no_way b failed holds = absurd (cc)

-- the records on the loader's last chunk aren't tight, if the test for that failed
loose : (s inside : FrontState) (u : ℕ) (tight : Bool) → inside ≡ s → tight ≡ false
    → (IsTrue tight ↔ IsTight (arena_of inside.space u) inside.space.pool)
    → IsTight (arena_of s.space u) s.space.pool → ⊥
loose s inside u tight view failed tells h =
    no_way tight failed (tells.1
    (subst (λ (t : FrontState). IsTight (arena_of t.space u) t.space.pool) (sym view) h))

-- an allocation failed, and nothing is changed
failed : LoadersAreFound (List ℕ) → (s inside new : FrontState) (x : List ℕ) (u : ℕ) (tight : Bool)
    → s.closed ≡ false → s.broken ≡ false
    → ◌≡◌ {A = Result ℕ Refusal} (Ok u) (loader_asked s x) → inside ≡ s → tight ≡ false
    → (IsTrue tight ↔ IsTight (arena_of inside.space u) inside.space.pool) → new ≡ s
    → FrontAnswers s (Tighten x) (Err refusal.NoMemory) new
failed loaders s inside new x u tight running whole asked view not_tight tells same =
    no_memory s new (Tighten x) (loader_asked s x) u (tighten_refused loaders s x running whole)
    (sym asked) same (not_tight_for s x u (was_asked s x u (sym asked)).found
    (loose s inside u tight view not_tight tells))

pub returns-in_err-make_ready : goal.returns-in_err-make_ready
returns-in_err-make_ready c =
    let p = err_from_is_err_and c.from_residual-in_err-make_ready.result
    c.from_residual-in_err-make_ready.ensures.1 in
    let i = c.self.inside in
    rw (p.1, p.2) (failed c.rows_tell_state.ensures.loaders.1 c.args.self.now _ _ c.args.name.now
    c.in_ok-loader.loader c.is_tight.result c.requires.running c.requires.whole
    c.in_ok-loader.ensures c.self.view_is c.if-is_tight.false c.is_tight.ensures.tight
    (unchanged i.book i.space c.is_tight.new.self i.unsealed c.make_ready.new.self i.number i.sealed
    i.learnt i.is_broken i.is_closed c.args.self.now c.is_tight.ensures.left
    c.make_ready.ensures.groups c.self.view_is))

pub returns-in_err-records : goal.returns-in_err-records
returns-in_err-records c =
    let p = err_from_is_err_and c.from_residual-in_err-records.result
    c.from_residual-in_err-records.ensures.1 in
    let i = c.self.inside in
    rw (p.1, p.2) (failed c.rows_tell_state.ensures.loaders.1 c.args.self.now _ _ c.args.name.now
    c.in_ok-loader.loader c.is_tight.result c.requires.running c.requires.whole
    c.in_ok-loader.ensures c.self.view_is c.if-is_tight.false c.is_tight.ensures.tight
    (unchanged i.book i.space c.is_tight.new.self i.unsealed c.make_ready.new.self i.number i.sealed
    i.learnt i.is_broken i.is_closed c.args.self.now c.is_tight.ensures.left
    c.make_ready.ensures.groups c.self.view_is))

pub tighten-requires-clause-last : goal.tighten-requires-clause-last
tighten-requires-clause-last c =
    subst (λ (t : SpaceState). AllByRecursion
    (λ (w : WaitingChunks). w.number ≤ c.self.inside.number + 1)
    t.waiting) (sym c.is_tight.ensures.left)
    (last_of_all c.self.inside.learnt c.self.inside.number c.self.inside.space.waiting
    c.self.invariant.waiting)

pub returns-in_err-moved : goal.returns-in_err-moved
returns-in_err-moved c =
    let p = err_from_is_err_and c.from_residual-in_err-moved.result
    c.from_residual-in_err-moved.ensures.1 in
    let i = c.self.inside in
    rw (p.1, p.2) (failed c.rows_tell_state.ensures.loaders.1 c.args.self.now _ _ c.args.name.now
    c.in_ok-loader.loader c.is_tight.result c.requires.running c.requires.whole
    c.in_ok-loader.ensures c.self.view_is c.if-is_tight.false c.is_tight.ensures.tight
    (unchanged i.book i.space c.tighten.new.self i.unsealed c.make_ready.new.self i.number i.sealed
    i.learnt i.is_broken i.is_closed c.args.self.now
    (c.in_err-moved.ensures.err.0 ∙ c.is_tight.ensures.left) c.make_ready.ensures.groups
    c.self.view_is))

pub returns-in_default : goal.returns-in_default
returns-in_default c =
    let u = c.in_ok-loader.loader in
    let answer = subst (MovesOrStays c.is_tight.new.self u (c.self.inside.number + 1)
    c.tighten.new.self) c.in_default.is c.in_ok-moved.ensures.ok in
    let tight = subst (λ (t : SpaceState). IsTight (arena_of t u) t.pool) c.is_tight.ensures.left
    answer.0 in
    absurd (no_way c.is_tight.result c.if-is_tight.false (c.is_tight.ensures.tight.1 tight))

pub apply-rule-requires : goal.apply-rule-requires
apply-rule-requires c =
    let i = c.self.inside in
    above c.loaders_are_own.ensures (front_of i.book i.space i.unsealed i.number i.sealed i.learnt
    i.is_broken i.is_closed) c.self.invariant

abbrev old : (c : After-invariant_holds) → FrontState
old c =
    let i = c.self.inside in
    front_of i.book i.space i.unsealed i.number i.sealed i.learnt i.is_broken i.is_closed

abbrev asked : (c : After-invariant_holds)
    → IsAsked (old c) c.args.name.now c.in_ok-loader.loader
asked c =
    was_asked (old c) c.args.name.now c.in_ok-loader.loader
    (subst (λ t. ◌≡◌ {A = Result ℕ Refusal} (loader_asked t c.args.name.now)
    (Ok c.in_ok-loader.loader)) (sym c.self.view_is) (sym c.in_ok-loader.ensures))

abbrev known : (c : After-invariant_holds) → Known
known c = record {
  own = c.loaders_are_own.ensures;
  used = c.held_chunks_are_used.ensures.owned;
  apart = c.chunks_are_apart.ensures.either;
}

moves : (c : After-invariant_holds)
    → IsMoved (old c) c.in_ok-loader.loader c.in-Some.moved.from c.in-Some.moved.to
    c.tighten.new.self
moves c =
    let u = c.in_ok-loader.loader in
    let answer = subst (MovesOrStays c.is_tight.new.self u (c.self.inside.number + 1)
    c.tighten.new.self) c.in-Some.is c.in_ok-moved.ensures.ok in
    record {
      moves = subst (λ (t : SpaceState). MovesChunk t u (c.self.inside.number + 1) c.in-Some.moved
          c.tighten.new.self) c.is_tight.ensures.left answer;
      is = c.invariant_holds.ensures.arenas;
      pool = c.invariant_holds.ensures.pool;
    }

records : (c : After-invariant_holds)
    → c.in_ok-records.records ≡ kept_on c.in-Some.moved.from c.self.inside.book.rows
records c =
    c.in_ok-records.ensures c.in-Some.moved.from
    (last_from (known c) (old c) c.args.name.now c.in_ok-loader.loader c.in-Some.moved.from
    c.in-Some.moved.to c.tighten.new.self c.self.invariant (asked c) (moves c))

pub of_move-requires : goal.of_move-requires
of_move-requires c =
    let at = (goal.at.of_move-requires c).After-invariant_holds in
    record {
      right = subst (λ l. AllByRecursion IsRightRecord l) (sym (records at))
          (right-kept c.in-Some.moved.from c.self.inside.book.rows c.self.invariant.right);
    }

abbrev carried_by : Move → List (List ℕ) → Carried
carried_by d moved = record { entry = entry.Move d; moved = moved }

goes : (c : After-self-1)
    → Went (front_of c.self.inside.book c.self.inside.space c.self.inside.unsealed
    c.self.inside.number c.self.inside.sealed c.self.inside.learnt c.self.inside.is_broken
    c.self.inside.is_closed)
    (Tighten c.args.name.now) (c.self.inside.number + 1)
    (front_of c.apply-rule.new.self c.tighten.new.self c.join.new.self (c.self.inside.number + 1)
    c.self.inside.sealed c.self.inside.learnt c.self.inside.is_broken c.self.inside.is_closed)
goes c =
    let i = c.self.inside in
    let x = c.args.name.now in
    let u = c.in_ok-loader.loader in
    let from = c.in-Some.moved.from in
    let to = c.in-Some.moved.to in
    let at = (goal.at.After-self-1 c).After-invariant_holds in
    let s : FrontState = old at in
    let e : Entry (List ℕ) = entry.Move (record { loader = u; from = from; to = to }) in
    let f = c.self.invariant in
    let own = c.loaders_are_own.ensures in
    let keeps = keeps_move (known at) s x u from to c.tighten.new.self f (asked at) (moves at) in
    went s _ (Tighten x) (i.number + 1) e c.tighten.new.self refl keeps (moves at).moves
    (tighten_asked own s x u from to f (asked at))
    (followed c.entries_are_steps.ensures.words i.book c.apply-rule.new.self i.space
    c.tighten.new.self i.unsealed c.make_ready.new.self c.join.new.self i.number
    (i.number + 1) i.sealed
    i.learnt i.is_broken i.is_closed e c.apply-rule.result f
    (not_last i.number f.numbers (asked at).left) refl keeps
    (c.apply-rule.ensures.broken
    ∙ ap (λ (d : Move). broken_rule i.book.sizes i.book.rows (i.number + 1)
    (entry.Move d)) c.move_entry-entry.ensures)
    (c.apply-rule.ensures.left
    ∙ ap (λ (d : Move). cond (is_none c.apply-rule.result)
    (record { sizes = i.book.sizes; rows = rows_after i.book.rows (entry.Move d) }) i.book)
    c.move_entry-entry.ensures)
    c.make_ready.ensures.groups
    (c.join.ensures
    ∙ ap (λ d. joined_by (i.number + 1) c.make_ready.new.self.groups d)
    (c.of_move.ensures
    ∙ (ap (λ (d : Move). carried_by d c.in_ok-records.records) c.move_entry-entry.ensures
    ∙ ap (carried_by (record { loader = u; from = from; to = to })) (records at)))))

pub invariant_of-self-2 : goal.invariant_of-self-2
invariant_of-self-2 c = (goes c).front

pub returns : goal.returns
returns c =
    let s = c.args.self.now in
    let x = c.args.name.now in
    let u = c.in_ok-loader.loader in
    let first = tighten_refused c.rows_tell_state.ensures.loaders.1 s x c.requires.running
    c.requires.whole in
    given s _ (Tighten x) (loader_asked s x) u (c.self.inside.number + 1) first
    (sym c.in_ok-loader.ensures)
    (not_tight_for s x u (was_asked s x u (sym c.in_ok-loader.ensures)).found
    (loose s _ u c.is_tight.result c.self.view_is c.if-is_tight.false c.is_tight.ensures.tight))
    (subst (λ (t : FrontState). FrontAccepts t (Tighten x) (c.self.inside.number + 1)
    (front_of c.apply-rule.new.self c.tighten.new.self c.join.new.self (c.self.inside.number + 1)
    c.self.inside.sealed c.self.inside.learnt c.self.inside.is_broken c.self.inside.is_closed))
    c.self.view_is (goes c).accepts)
