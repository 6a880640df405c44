-- The arena is borrowed, finds a place, and is put back.
use Rattle.std.proofs.Common.{◌≡◌, List, Result, Ok, Err, OnOk, IsSome, refl, sym, ap, ◌∙◌, subst}
use Rattle.std.proofs.Common.{◌↔◌, IsErrOf}
use Rattle.std.specs.Option.{option_copied_mut}
use Rattle.std.proofs.lemmas.Result.{IfOk-weaker, on_err_weaker}
use Rattle.cm_pool.specs.declared.place.Place.{Place}
use Rattle.cm_pool.specs.FreeSpace.{FreeSpace}
use Rattle.cm_pool.specs.Lists.{Among}
use Rattle.cm_arena.specs.Chains.{Filled, chain_chunks}
use Rattle.cm_arena.specs.Placing.{Places, IsFull, HasRoom}
use Rattle.cm_arena.specs.declared.refusal.PlaceRefusal as refusal
use Rattle.cm_space.specs.Space.{SpaceState, arena_of}
use Rattle.cm_space.specs.Ownership.{IsSpace}
use Rattle.cm_space.proofs.Spaces.{KeepsOthers}
use Rattle.cm_space.proofs.Views.{IsLent, is_lent, view-get, is_some-map, lent-before, lent-after}
use Rattle.cm_space.proofs.Views.{lent-others, lent-space, lent-same}
use Rattle.cm_space.proofs.space.Space.place.Goals as goal
use Rattle.cm_space.proofs.space.Space.place.Goals.{After-unwrap-arena, After-place}

pub unwrap-arena-requires : goal.unwrap-arena-requires
unwrap-arena-requires c =
    let a = c.self.inside in
    is_some-map (λ x. x.now) c.get_mut.result _ (c.get_mut.ensures.value
    ∙ view-get a.pool a.arenas.entries a.waiting.items c.args.self.now c.args.loader
    c.self.view_is) c.requires.known

lent : (c : After-unwrap-arena) (next : List Filled)
    → IsLent c.args.self.now c.args.loader c.unwrap-arena.result.now next
    c.self.inside.waiting.items (c.get_mut.follows.lender next).entries
lent c next =
    let a = c.self.inside in
    let get = sym c.get_mut.ensures.value ∙ ap option_copied_mut c.unwrap-arena.ensures in
    let updates = (c.get_mut.follows.holds next).3 (subst (λ o. IsSome o) (sym get) refl) in
    is_lent a.pool a.arenas.entries (c.get_mut.follows.lender next).entries a.waiting.items
    c.args.self.now c.args.loader c.unwrap-arena.result.now next c.self.view_is get updates.0

pool : (c : After-place) → c.self.inside.pool ≡ c.args.self.now.pool
pool c = ap (λ (s : SpaceState). s.pool) c.self.view_is

-- what a clause of the arena says about its chain and the pool holds for those of the space
of_space : (c : After-place) → arena_of c.args.self.now c.args.loader ≡ c.unwrap-arena.result.now
    → (P : List Filled → FreeSpace → Type 0) → P c.unwrap-arena.result.now c.self.inside.pool
    → P (arena_of c.args.self.now c.args.loader) c.args.self.now.pool
of_space c before P h = subst
    (λ (chain : List Filled). P chain c.args.self.now.pool) (sym before)
    (subst (P c.unwrap-arena.result.now) (pool c) h)

keeps : (c : After-place)
    → KeepsOthers c.args.self.now.pool c.unwrap-arena.result.now c.place.new.pool c.place.new.self
keeps c = subst
    (λ (p : FreeSpace). KeepsOthers p c.unwrap-arena.result.now c.place.new.pool c.place.new.self)
    (pool c)
    (record {
      held = λ rest h. c.place.ensures.alone rest h;
      kept = λ rest h kept. c.place.ensures.none_lost rest kept;
    })

pub invariant_of-self : goal.invariant_of-self
invariant_of-self c =
    let at = goal.at.invariant_of-self c in
    lent-space c.place.new.pool (lent at.After-unwrap-arena c.place.new.self)
    (subst IsSpace c.self.view_is c.self.invariant) (keeps at.After-place)

pub returns-clause-placed : goal.returns-clause-placed
returns-clause-placed c =
    let at = goal.at.returns-clause-placed c in
    let l = lent at.After-unwrap-arena c.place.new.self in
    IfOk-weaker c.place.result _ _ (λ (place : Place) placed.
    subst (λ (new : List Filled). Places (arena_of c.args.self.now c.args.loader)
    c.args.self.now.pool c.args.words place new c.place.new.pool)
    (sym (lent-after c.place.new.pool l))
    (of_space at.After-place (lent-before l)
    (λ chain p. Places chain p c.args.words place c.place.new.self c.place.new.pool) placed))
    c.place.ensures.ok

pub returns-clause-others : goal.returns-clause-others
returns-clause-others c =
    on_ok c.place.result (lent-others c.place.new.pool
    (lent (goal.at.returns-clause-others c).After-unwrap-arena c.place.new.self))
  where
    on_ok : {T E P : Type 0} (r : Result T E) → P → OnOk r P
    on_ok (Ok x) p = p
    on_ok (Err e) p = tt

pub returns-clause-inside : goal.returns-clause-inside
returns-clause-inside c =
    let after =
    lent-after c.place.new.pool
    (lent (goal.at.returns-clause-inside c).After-unwrap-arena c.place.new.self) in
    IfOk-weaker c.place.result _ _ (λ (place : Place) h.
    (h.0, subst (λ (new : List Filled). Among place.chunk (chain_chunks new)) (sym after) h.1))
    c.place.ensures.inside

pub returns-clause-full : goal.returns-clause-full
returns-clause-full c =
    let at = goal.at.returns-clause-full c in
    of_space at.After-place (lent-before (lent at.After-unwrap-arena c.place.new.self))
    (λ chain p.
    IsErrOf c.place.result refusal.PlaceRefusal.RegionFull ↔ IsFull chain p c.args.words)
    c.place.ensures.full

pub returns-clause-memory : goal.returns-clause-memory
returns-clause-memory c =
    let at = goal.at.returns-clause-memory c in
    of_space at.After-place (lent-before (lent at.After-unwrap-arena c.place.new.self))
    (λ chain p. IsErrOf c.place.result refusal.PlaceRefusal.NoMemory → ¬ HasRoom chain c.args.words)
    c.place.ensures.memory

pub returns-clause-err : goal.returns-clause-err
returns-clause-err c =
    let at = goal.at.returns-clause-err c in
    on_err_weaker c.place.result (λ same.
    lent-same c.place.new.pool (lent at.After-unwrap-arena c.place.new.self) same.0
    (same.1 ∙ pool at.After-place)) c.place.ensures.err
