-- The arena is borrowed, its last chunk's words move, and the old chunk waits.
use Rattle.std.proofs.Common.{◌≡◌, List, [], ◌∷◌, ◌++◌, IsSome, refl, sym, ap, ◌∙◌, subst}
use Rattle.std.specs.Option.{option_copied_mut}
use Rattle.cm_pool.specs.FreeSpace.{FreeSpace}
use Rattle.cm_pool.specs.Held.{AreHeld, NoneIsLost}
use Rattle.cm_arena.specs.Chains.{Filled, chain_chunks}
use Rattle.cm_arena.specs.Tightening.{IsTight, Tightens}
use Rattle.cm_space.specs.Space.{SpaceState, WaitingChunks, arena_of, with_arena, space_state}
use Rattle.cm_space.specs.Space.{waits_in}
use Rattle.cm_space.specs.Ownership.{IsSpace}
use Rattle.cm_space.proofs.Spaces.{tightened}
use Rattle.cm_space.proofs.Views.{IsLent, is_lent, view-get, is_some-map, lent-before, lent-same}
use Rattle.cm_space.proofs.space.Space.tighten.Goals as goal
use Rattle.cm_space.proofs.space.Space.tighten.Goals.{After-unwrap-chain, After-wait_behind}

pub returns-then-is_tight-clause-ok : goal.returns-then-is_tight-clause-ok
returns-then-is_tight-clause-ok c =
    let a = c.self.inside in
    let view = ap (space_state a.pool a.arenas.entries) c.reserve_left.ensures.items
    ∙ c.self.view_is in (
      subst (λ (s : SpaceState). IsTight (arena_of s c.args.loader) s.pool) view
          (c.is_tight.ensures.tight.0 c.if-is_tight.true),
      c.is_tight.ensures.left ∙ view,
    )

pub returns-else-is_tight-clause-err : goal.returns-else-is_tight-clause-err
returns-else-is_tight-clause-err c =
    let a = c.self.inside in
    let view = ap (space_state a.pool a.arenas.entries) c.reserve_left.ensures.items
    ∙ c.self.view_is in (
      c.is_tight.ensures.left ∙ view,
      λ tight.
          let yes = c.is_tight.ensures.tight.1
          (subst (λ (s : SpaceState). IsTight (arena_of s c.args.loader) s.pool) (sym view)
          tight) in
          let no = c.if-is_tight.false in
          cc,
    )

pub unwrap-chain-requires : goal.unwrap-chain-requires
unwrap-chain-requires c =
    let a = c.self.inside in
    is_some-map (λ x. x.now) c.get_mut.result _ (c.get_mut.ensures.value
    ∙ view-get a.pool a.arenas.entries a.waiting.items c.args.self.now c.args.loader
    c.self.view_is) c.requires.known

lent : (c : After-unwrap-chain) (next : List Filled)
    → IsLent c.args.self.now c.args.loader c.unwrap-chain.result.now next
    c.self.inside.waiting.items (c.get_mut.follows.lender next).entries
lent c next =
    let a = c.self.inside in
    let get = sym c.get_mut.ensures.value ∙ ap option_copied_mut c.unwrap-chain.ensures in
    let updates = (c.get_mut.follows.holds next).3 (subst (λ o. IsSome o) (sym get) refl) in
    is_lent a.pool a.arenas.entries (c.get_mut.follows.lender next).entries a.waiting.items
    c.args.self.now c.args.loader c.unwrap-chain.result.now next c.self.view_is get updates.0

pool : (c : After-unwrap-chain) → c.self.inside.pool ≡ c.args.self.now.pool
pool c = ap (λ (s : SpaceState). s.pool) c.self.view_is

-- what holds for the arena and the pool holds for those of the space
of_space : (c : After-unwrap-chain) (P : List Filled → FreeSpace → Type 0)
    → P c.unwrap-chain.result.now c.self.inside.pool
    → P (arena_of c.args.self.now c.args.loader) c.args.self.now.pool
of_space c P h = subst
    (λ (chain : List Filled). P chain c.args.self.now.pool)
    (sym (lent-before (lent c c.unwrap-chain.result.now)))
    (subst (P c.unwrap-chain.result.now) (pool c) h)

pub invariant_of-self-in_default-tighten : goal.invariant_of-self-in_default-tighten
invariant_of-self-in_default-tighten c =
    let at = (goal.at.invariant_of-self-in_default-tighten c).After-unwrap-chain in
    let none = c.in_default-tighten.ensures.none in
    let entries = (c.get_mut.follows.lender c.tighten.new.self).entries in
    subst IsSpace
    (sym (ap (space_state c.tighten.new.pool entries) c.reserve_left.ensures.items
    ∙ lent-same c.tighten.new.pool (lent at c.tighten.new.self) none.1.0 (none.1.1 ∙ pool at)))
    (subst IsSpace c.self.view_is c.self.invariant)

pub returns-in_default-tighten-clause-ok : goal.returns-in_default-tighten-clause-ok
returns-in_default-tighten-clause-ok c =
    let at = (goal.at.returns-in_default-tighten-clause-ok c).After-unwrap-chain in
    let none = c.in_default-tighten.ensures.none in
    let entries = (c.get_mut.follows.lender c.tighten.new.self).entries in (
      of_space at IsTight none.0,
      ap (space_state c.tighten.new.pool entries) c.reserve_left.ensures.items
          ∙ lent-same c.tighten.new.pool (lent at c.tighten.new.self) none.1.0 (none.1.1 ∙ pool at),
    )

-- the old chunk, with the number that it waits for
abbrev left : (c : After-wait_behind) → WaitingChunks
left c = record { number = c.args.number; chunks = c.in-Some-tighten.moved.from ∷ [] }

view_then : (c : After-wait_behind)
    → space_state c.tighten.new.pool (c.get_mut.follows.lender c.tighten.new.self).entries
    c.wait_behind.new.waiting.items
    ≡ record (with_arena c.args.self.now c.args.loader c.tighten.new.self) {
      pool = c.tighten.new.pool;
      waiting = c.args.self.now.waiting ++ left c ∷ [];
    }
view_then c =
    let l = lent (goal.at.After-wait_behind c).After-unwrap-chain c.tighten.new.self in
    let waiting = c.wait_behind.ensures ∙ ap (λ (ws : List WaitingChunks). ws ++ left c ∷ [])
    (ap waits_in c.reserve_left.ensures.items ∙ l.waiting) in
    λ i. record { pool = c.tighten.new.pool; arenas = l.arenas i; waiting = waiting i }

pub invariant_of-self-2 : goal.invariant_of-self-2
invariant_of-self-2 c =
    let at = goal.at.invariant_of-self-2 c in
    let some = c.in-Some-tighten.ensures in
    let chain = c.unwrap-chain.result.now in
    let next = c.tighten.new.self in
    let from = c.in-Some-tighten.moved.from in
    let same = sym (pool at.After-unwrap-chain) in
    subst IsSpace (sym (view_then at.After-wait_behind))
    (tightened c.args.self.now c.args.loader chain next c.tighten.new.pool from c.args.number
    (lent at.After-unwrap-chain next).had c.requires.last
    (subst IsSpace c.self.view_is c.self.invariant)
    (λ rest held. some.alone rest
    (subst (λ (p : FreeSpace). AreHeld p (chain_chunks chain ++ rest)) same held))
    (λ rest kept. some.none_lost rest
    (subst (λ (p : FreeSpace). NoneIsLost p (chain_chunks chain ++ rest)) same kept)))

pub returns-clause-ok : goal.returns-clause-ok
returns-clause-ok c =
    let at = goal.at.returns-clause-ok c in
    let moved = c.in-Some-tighten.moved in
    record {
      chain = c.tighten.new.self;
      pool = c.tighten.new.pool;
      tightens = of_space at.After-unwrap-chain
          (λ chain p. Tightens chain p moved.from moved.to c.tighten.new.self c.tighten.new.pool)
          c.in-Some-tighten.ensures.some;
      after = view_then at.After-wait_behind;
    }
