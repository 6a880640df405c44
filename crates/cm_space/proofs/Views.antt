-- How the calls of the map of arenas change a space.
-- For `Space::add_loader`, `Space::adopt`, `Space::chunks` and others.
use Rattle.std.proofs.Common.{◌≡◌, ℕ, List, [], ◌∷◌, ◌++◌, Option, Some, None, refl, sym, ap, ◌∙◌}
use Rattle.std.proofs.Common.{subst, IsSome}
use Rattle.std.specs.Prelude.{unwrap_or, option_map}
use Rattle.std.specs.Ordering.{nat_cmp, is_eq}
use Rattle.std.specs.Map.{lookup}
use Rattle.std.proofs.lemmas.List.{map-append}
use Rattle.std.specs.FinMap as map
use Rattle.cm_pool.specs.FreeSpace.{FreeSpace}
use Rattle.cm_arena.specs.Chains.{Filled, chain_chunks}
use Rattle.cm_space.specs.declared.waiting.Waiting.{Waiting}
use Rattle.cm_space.specs.Space.{SpaceState, WaitingChunks, IsKnown, arena_of, with_arena}
use Rattle.cm_space.specs.Space.{without_arena}
use Rattle.cm_space.specs.Space.{space_state, waits_of, waits_in, AreLeft}
use Rattle.cm_space.specs.Ownership.{IsSpace}
use Rattle.cm_space.proofs.Arenas.{Entries, Arenas, Sets, get-lookup, entries-insert}
use Rattle.cm_space.proofs.Arenas.{entries-remove, get-inserted, insert-had}
use Rattle.cm_space.proofs.Spaces.{KeepsOthers, changed}

-- what the map has for a loader
abbrev pub found : Entries → ℕ → Option (List Filled)
found es k = lookup (λ j. is_eq (nat_cmp k j)) es

pub view-get : (p : FreeSpace) (es : Entries) (ws : List Waiting) (s : SpaceState) (k : ℕ)
    → space_state p es ws ≡ s → found es k ≡ map.get s.arenas k
view-get p es ws s k view = sym (get-lookup es k) ∙ ap (λ (t : SpaceState). map.get t.arenas k) view

pub is_some-map : {X Y : Type 0} (f : X → Y) (o : Option X) (r : Option Y) → option_map f o ≡ r
    → IsSome r → IsSome o
is_some-map f None r e h = subst (λ o. IsSome o) (sym e) h
is_some-map f (Some x) r e h = refl

-- the arena of a loader was borrowed, and is another chain now
pub record IsLent (s : SpaceState) (k : ℕ) (chain next : List Filled) (ws : List Waiting)
    (new : Entries) : Type 0 where
  pub had : map.get s.arenas k ≡ Some chain
  pub arenas : map.from_entries {R = nat_cmp} new ≡ map.insert s.arenas k next
  pub waiting : waits_in ws ≡ s.waiting

pub is_lent : (p : FreeSpace) (es new : Entries) (ws : List Waiting) (s : SpaceState) (k : ℕ)
    (chain next : List Filled)
    → space_state p es ws ≡ s → found es k ≡ Some chain → Sets es new k (Some next)
    → IsLent s k chain next ws new
is_lent p es new ws s k chain next view get sets = record {
  had = sym (view-get p es ws s k view) ∙ get;
  arenas = entries-insert es new k next sets
      ∙ ap (λ (t : SpaceState). map.insert t.arenas k next) view;
  waiting = ap (λ (t : SpaceState). t.waiting) view;
}

pub lent-before : {s : SpaceState} {k : ℕ} {chain next : List Filled} {ws : List Waiting}
    {new : Entries}
    → IsLent s k chain next ws new → arena_of s k ≡ chain
lent-before {s} {k} {chain} {next} {ws} {new} h = ap (λ o. unwrap_or o []) h.had

pub lent-view : {s : SpaceState} {k : ℕ} {chain next : List Filled} {ws : List Waiting}
    {new : Entries} (q : FreeSpace)
    → IsLent s k chain next ws new
    → space_state q new ws ≡ record (with_arena s k next) { pool = q }
lent-view {s} {k} {chain} {next} {ws} {new} q h =
    λ i. record { pool = q; arenas = h.arenas i; waiting = h.waiting i }

pub lent-after : {s : SpaceState} {k : ℕ} {chain next : List Filled} {ws : List Waiting}
    {new : Entries} (q : FreeSpace)
    → IsLent s k chain next ws new → arena_of (space_state q new ws) k ≡ next
lent-after {s} {k} {chain} {next} {ws} {new} q h =
    ap (λ m. unwrap_or (map.get m k) []) h.arenas ∙ ap
    (λ o. unwrap_or o []) (get-inserted s.arenas k next)

pub lent-others : {s : SpaceState} {k : ℕ} {chain next : List Filled} {ws : List Waiting}
    {new : Entries} (q : FreeSpace)
    → IsLent s k chain next ws new
    → space_state q new ws
    ≡ record (with_arena s k (arena_of (space_state q new ws) k)) { pool = q }
lent-others {s} {k} {chain} {next} {ws} {new} q h = lent-view q h ∙ ap
    (λ (c : List Filled). record (with_arena s k c) { pool = q }) (sym (lent-after q h))

pub lent-space : {s : SpaceState} {k : ℕ} {chain next : List Filled} {ws : List Waiting}
    {new : Entries} (q : FreeSpace)
    → IsLent s k chain next ws new → IsSpace s → KeepsOthers s.pool chain q next
    → IsSpace (space_state q new ws)
lent-space {s} {k} {chain} {next} {ws} {new} q h space keeps =
    subst IsSpace (sym (lent-view q h)) (changed s k chain next q h.had space keeps)

-- the chain is the one that it was
pub lent-kept : {s : SpaceState} {k : ℕ} {chain next : List Filled} {ws : List Waiting}
    {new : Entries} (q : FreeSpace)
    → IsLent s k chain next ws new → next ≡ chain → space_state q new ws ≡ record s { pool = q }
lent-kept {s} {k} {chain} {next} {ws} {new} q h same =
    lent-view q h
    ∙ ap (λ (m : Arenas). record s { pool = q; arenas = m }) (ap (map.insert s.arenas k) same
    ∙ insert-had s.arenas k chain h.had)

pub lent-same : {s : SpaceState} {k : ℕ} {chain next : List Filled} {ws : List Waiting}
    {new : Entries} (q : FreeSpace)
    → IsLent s k chain next ws new → next ≡ chain → q ≡ s.pool → space_state q new ws ≡ s
lent-same {s} {k} {chain} {next} {ws} {new} q h same pool = lent-kept q h same ∙ ap
    (λ (p : FreeSpace). record s { pool = p }) pool

-- ---- one more arena, and one fewer

pub not_known : (s : SpaceState) (k : ℕ) → ¬ IsKnown s k → map.get s.arenas k ≡ None
not_known s k h =
    elim (map.get s.arenas k) as (λ o. (IsSome o → ⊥) → o ≡ None) [
      | None ↦ λ _. refl
      | Some chain ↦ λ no. absurd (no refl)
    ] h

pub more : (p : FreeSpace) (es new : Entries) (ws : List Waiting) (s : SpaceState) (k : ℕ)
    (chain : List Filled)
    → space_state p es ws ≡ s → Sets es new k (Some chain) → space_state p new ws
    ≡ with_arena s k chain
more p es new ws s k chain view sets =
    let arenas = entries-insert es new k chain sets in
    (λ i. record { pool = p; arenas = arenas i; waiting = waits_in ws })
    ∙ ap (λ (t : SpaceState). with_arena t k chain) view

pub one_less : (p : FreeSpace) (es new : Entries) (ws : List Waiting) (s : SpaceState) (k : ℕ)
    → space_state p es ws ≡ s → Sets es new k None → space_state p new ws ≡ without_arena s k
one_less p es new ws s k view sets =
    let arenas = entries-remove es new k sets in
    (λ i. record { pool = p; arenas = arenas i; waiting = waits_in ws })
    ∙ ap (λ (t : SpaceState). without_arena t k) view

-- the same whatever the pool
pub one_left : (es new : Entries) (ws vs : List Waiting) (k n : ℕ) (chain : List Filled)
    (w : Waiting)
    → found es k ≡ Some chain → Sets es new k None → vs ≡ ws ++ w ∷ []
    → waits_of w ≡ record { number = n; chunks = chain_chunks chain }
    → AreLeft es ws n (k ∷ []) new vs
one_left es new ws vs k n chain w had sets pushed is p =
    let s = space_state p es ws in
    let mine : chain ≡ arena_of s k = sym (ap (λ o. unwrap_or o []) (get-lookup es k ∙ had)) in
    let waits : WaitingChunks = record { number = n; chunks = chain_chunks (arena_of s k) } in
    let waiting : waits_in vs ≡ waits_in ws ++ waits ∷ [] =
    ap waits_in pushed ∙ map-append waits_of ws (w ∷ [])
    ∙ ap (λ (v : WaitingChunks). waits_in ws ++ v ∷ [])
    (is ∙ ap (λ (c : List Filled). record { number = n; chunks = chain_chunks c }) mine) in
    let rest = one_less p es new ws s k refl sets in
    λ i. record { pool = (rest i).pool; arenas = (rest i).arenas; waiting = waiting i }
