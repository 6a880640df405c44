use Rattle.std.proofs.Common.{◌≡◌, List, IsTrue, ◌↔◌, sym, ap, ◌∙◌, subst, []}
use Rattle.std.specs.Option.{unwrap_or, option_copied}
use Rattle.cm_pool.specs.FreeSpace.{FreeSpace}
use Rattle.cm_arena.specs.Chains.{Filled}
use Rattle.cm_arena.specs.Tightening.{IsTight}
use Rattle.cm_space.specs.Space.{SpaceState, arena_of}
use Rattle.cm_space.proofs.Views.{view-get, is_some-map}
use Rattle.cm_space.proofs.space.Space.is_tight.Goals as goal

pub unwrap-arena-requires : goal.unwrap-arena-requires
unwrap-arena-requires c =
    let a = c.self.inside in
    is_some-map (λ x. x.now) c.get.result _
    (c.get.ensures.value ∙ view-get a.pool a.arenas.entries a.waiting.items c.args.self.now
    c.args.loader c.self.view_is) c.requires

pub returns-clause-tight : goal.returns-clause-tight
returns-clause-tight c =
    let a = c.self.inside in
    let s = c.args.self.now in
    let some = sym (view-get a.pool a.arenas.entries a.waiting.items s c.args.loader c.self.view_is)
    ∙ sym c.get.ensures.value ∙ ap option_copied c.unwrap-arena.ensures in
    let chain : c.unwrap-arena.result.now ≡ arena_of s c.args.loader =
    sym (ap (λ o. unwrap_or o []) some) in
    let pool : a.pool ≡ s.pool = ap (λ (t : SpaceState). t.pool) c.self.view_is in
    subst (λ (p : FreeSpace). IsTrue c.is_tight.result ↔ IsTight (arena_of s c.args.loader) p) pool
    (subst (λ (l : List Filled). IsTrue c.is_tight.result ↔ IsTight l a.pool) chain
    c.is_tight.ensures.tight)
