-- The arena is borrowed, adopts the place, and is put back.
use Rattle.std.proofs.Common.{◌≡◌, Bool, true, false, cond, List, ◌++◌, Result, Ok, Err, IfOk}
use Rattle.std.proofs.Common.{OnErr, MatchResult, IsSome, IsTrue, ◌↔◌, refl, sym, ap, ◌∙◌, subst}
use Rattle.std.specs.Option.{option_copied_mut}
use Rattle.cm_pool.specs.FreeSpace.{FreeSpace}
use Rattle.cm_pool.specs.Held.{AreHeld}
use Rattle.cm_arena.specs.Chains.{Filled, chain_chunks}
use Rattle.cm_arena.specs.Placing.{with_place}
use Rattle.cm_space.specs.Space.{SpaceState, arena_of, with_arena, space_state}
use Rattle.cm_space.specs.Ownership.{IsSpace}
use Rattle.cm_space.specs.Adopting.{IsAdoptable, pool_after, adopted}
use Rattle.cm_space.proofs.Spaces.{KeepsOthers, taken-apart, beside}
use Rattle.cm_space.proofs.Adopted.{answer-keeps}
use Rattle.cm_space.proofs.Views.{IsLent, is_lent, view-get, is_some-map, lent-before, lent-view}
use Rattle.cm_space.proofs.Views.{lent-space, lent-same, lent-kept}
use Rattle.cm_space.proofs.space.Space.adopt.Goals as goal
use Rattle.cm_space.proofs.space.Space.adopt.Goals.{After-unwrap, After-adopt_place}

pub unwrap-requires : goal.unwrap-requires
unwrap-requires c =
    let a = c.self.inside in
    is_some-map (λ x. x.now) c.get_mut.result _ (c.get_mut.ensures.value
    ∙ view-get a.pool a.arenas.entries a.waiting.items c.args.self.now c.args.loader
    c.self.view_is) c.requires

lent : (c : After-unwrap) (next : List Filled)
    → IsLent c.args.self.now c.args.loader c.unwrap.result.now next c.self.inside.waiting.items
    (c.get_mut.follows.lender next).entries
lent c next =
    let a = c.self.inside in
    let get = sym c.get_mut.ensures.value ∙ ap option_copied_mut c.unwrap.ensures in
    let updates = (c.get_mut.follows.holds next).3 (subst (λ o. IsSome o) (sym get) refl) in
    is_lent a.pool a.arenas.entries (c.get_mut.follows.lender next).entries a.waiting.items
    c.args.self.now c.args.loader c.unwrap.result.now next c.self.view_is get updates.0

pool : (c : After-unwrap) → c.self.inside.pool ≡ c.args.self.now.pool
pool c = ap (λ (s : SpaceState). s.pool) c.self.view_is

pub adopt_place-requires : goal.adopt_place-requires
adopt_place-requires c =
    let at = (goal.at.adopt_place-requires c).After-unwrap in
    let now = c.args.self.now in
    let chain = c.unwrap.result.now in (
      beside now c.args.loader,
      subst (λ (p : FreeSpace). AreHeld p (chain_chunks chain ++ beside now c.args.loader))
          (sym (pool at))
          (taken-apart now c.args.loader chain (lent at chain).had
          (subst IsSpace c.self.view_is c.self.invariant)),
    )

pub invariant_of-self : goal.invariant_of-self
invariant_of-self c =
    let at = (goal.at.invariant_of-self c).After-unwrap in
    let chain = c.unwrap.result.now in
    let e = c.adopt_place.ensures in
    lent-space c.adopt_place.new.pool (lent at c.adopt_place.new.arena)
    (subst IsSpace c.self.view_is c.self.invariant)
    (subst (λ (p : FreeSpace). KeepsOthers p chain c.adopt_place.new.pool c.adopt_place.new.arena)
    (pool at)
    (answer-keeps c.adopt_place.result c.self.inside.pool c.adopt_place.new.pool chain
    c.adopt_place.new.arena c.args.place e.next e.arena e.pool))

-- what holds for the arena and the pool holds for those of the space
of_space : (c : After-unwrap) (P : List Filled → FreeSpace → Type 0)
    → P c.unwrap.result.now c.self.inside.pool
    → P (arena_of c.args.self.now c.args.loader) c.args.self.now.pool
of_space c P h = subst
    (λ (chain : List Filled). P chain c.args.self.now.pool)
    (sym (lent-before (lent c c.unwrap.result.now))) (subst (P c.unwrap.result.now) (pool c) h)

pub returns-clause-next : goal.returns-clause-next
returns-clause-next c = of_space (goal.at.returns-clause-next c).After-unwrap
    (λ chain p. IfOk c.adopt_place.result
    (λ taken. IsTrue taken ↔ IsAdoptable chain p c.args.place)) c.adopt_place.ensures.next

pub returns-clause-memory : goal.returns-clause-memory
returns-clause-memory c = of_space (goal.at.returns-clause-memory c).After-unwrap
    (λ chain p. OnErr c.adopt_place.result (IsAdoptable chain p c.args.place))
    c.adopt_place.ensures.memory

pub returns-clause-left : goal.returns-clause-left
returns-clause-left c =
    let at = (goal.at.returns-clause-left c).After-unwrap in
    let e = c.adopt_place.ensures in
    both _ _ _ _ c.adopt_place.result e.arena e.pool (λ taken. by_answer at taken)
  where
    both : {E : Type 0} {R : Bool → Type 0} (P Q : Bool → Type 0) (S W : Type 0) (r : Result Bool E)
        → MatchResult r P (λ _. S) → MatchResult r Q (λ _. W)
        → ((b : Bool) → P b → Q b → R b) → IfOk r R
    both P Q S W (Ok b) p q f = f b p q
    both P Q S W (Err x) p q f = tt

    by_answer : (at : After-unwrap) {next : List Filled} {q : FreeSpace} (taken : Bool)
        → next ≡ cond taken (with_place at.unwrap.result.now at.args.place) at.unwrap.result.now
        → q ≡ cond taken (pool_after at.self.inside.pool at.args.place) at.self.inside.pool
        → space_state q (at.get_mut.follows.lender next).entries at.self.inside.waiting.items
        ≡ cond taken (adopted at.args.self.now at.args.loader at.args.place) at.args.self.now
    by_answer at {next} {q} true arena left =
        let s = at.args.self.now in
        let same_chain : next ≡ with_place (arena_of s at.args.loader) at.args.place = arena ∙ ap
        (λ (chain : List Filled). with_place chain at.args.place)
        (sym (lent-before (lent at next))) in
        let same_pool : q ≡ pool_after s.pool at.args.place =
        left ∙ ap (λ (p : FreeSpace). pool_after p at.args.place) (pool at) in
        lent-view q (lent at next)
        ∙ (λ i. record (with_arena s at.args.loader (same_chain i)) { pool = same_pool i })
    by_answer at {next} {q} false arena left = lent-same q (lent at next) arena (left ∙ pool at)

pub returns-clause-others : goal.returns-clause-others
returns-clause-others c =
    let at = (goal.at.returns-clause-others c).After-unwrap in
    on_err _ c.adopt_place.result c.adopt_place.ensures.arena
    (λ same. lent-kept c.adopt_place.new.pool (lent at c.adopt_place.new.arena) same)
  where
    on_err : {E S W : Type 0} (P : Bool → Type 0) (r : Result Bool E) → MatchResult r P (λ _. S)
        → (S → W) → OnErr r W
    on_err P (Ok b) p f = tt
    on_err P (Err x) p f = f p
