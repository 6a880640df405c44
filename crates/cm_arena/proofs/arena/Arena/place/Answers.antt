use Rattle.std.proofs.Common.{◌≡◌, ℕ, ◌^◌, ◌≤◌, List, [], ◌∷◌, ◌++◌, length, refl}
use Rattle.std.proofs.Common.{sym, ap, ◌∙◌, subst, inl, inr, arith, length-append}
use Rattle.std.specs.List.{AllByRecursion}
use Rattle.std.proofs.Math.Nat.{pow-le-pow_right}
use Rattle.cm_pool.specs.declared.chunk.Chunk.{Chunk}
use Rattle.cm_pool.specs.Geometry.{Sizes}
use Rattle.cm_pool.specs.Chunks.{chunk_size}
use Rattle.cm_arena.specs.Chains.{Filled, chain_of, IsArena, IsFilled}
use Rattle.cm_arena.specs.Placing.{Fetches, HasRoom, order_wanted, IsOnTop, Places}
use Rattle.cm_arena.proofs.Places.{place-inside, place-held, place-none_lost}
use Rattle.cm_arena.proofs.ChainFacts.{chain_of-push, filled-push, length-chain_of}
use Rattle.cm_arena.proofs.Fetching.{fetched-order, fetched-small}
use Rattle.cm_arena.proofs.arena.Arena.place.Goals as goal
use Rattle.cm_arena.proofs.arena.Arena.place.Goals.{After-append, After-geometry-geometry, In-Some}

pub order_for-need-requires : goal.order_for-need-requires
order_for-need-requires c =
    let small : c.geometry-geometry.result.top ≤ 12 =
    omega (
      arith,
      c.geometry-geometry.ensures.lawful.geometry.top_to,
      ap (λ (g : Sizes). g.top)
          c.geometry-geometry.ensures.value,
    ) in
    let size : 2 ^ c.geometry-geometry.result.top ≤ 2 ^ 12 =
    pow-le-pow_right {n = 2} (omega arith) small in
    omega (arith, c.root_words.ensures)

chunks : (c : After-append)
    → c.append.new.chunks.items ≡ c.self.inside.chunks.items ++ c.in_ok-chunk.chunk ∷ []
chunks c = c.append.ensures.chunks ∙ ap
    (λ (cs : List Chunk). cs ++ c.in_ok-chunk.chunk ∷ []) c.reserve_one.ensures.chunks

used : (c : After-append) → c.append.new.used.items ≡ c.self.inside.used.items ++ c.args.words ∷ []
used c = c.append.ensures.used
    ∙ ap (λ (us : List ℕ). us ++ c.args.words ∷ []) (c.reserve_one.ensures.used
    ∙ c.in_default.ensures.none.1)

len : (c : After-append) → c.len.result ≡ length c.args.self.now
len c =
    let reserved = c.reserve_one.new.chunks in
    let items : length reserved.items ≡ length c.self.inside.chunks.items =
    ap length c.reserve_one.ensures.chunks in
    let chain : length (chain_of c.self.inside.chunks.items c.self.inside.used.items)
    ≡ length c.args.self.now = ap length c.self.view_is in
    omega (
      arith,
      c.len.ensures,
      reserved.ok.0,
      items,
      chain,
      length-chain_of c.self.inside.chunks.items c.self.inside.used.items c.self.invariant.pairs,
    )

wanted : (c : After-append)
    → c.max-wanted.result ≡ order_wanted c.order_for-need.result (length c.args.self.now)
    c.args.pool.now.geometry.top
wanted c =
    let top : c.top.result ≡ c.args.pool.now.geometry.top = c.top.ensures.value ∙ ap
    (λ (g : Sizes). g.top) c.geometry-geometry.ensures.value in
    omega (arith, len c, top, c.max-wanted.ensures, c.min.ensures, c.min-2.ensures)

-- the chunk is large enough
room : (c : After-append) → (c.args.words ≤ chunk_size c.in_ok-chunk.chunk.order)
    × (c.in_ok-chunk.chunk.order ≤ 12)
room c =
    let order : c.order_for-need.result ≤ c.in_ok-chunk.chunk.order =
    fetched-order c.args.pool.now c.fetch.new.pool c.max-wanted.result c.order_for-need.result
    c.in_ok-chunk.chunk (omega (arith, c.max-wanted.ensures)) c.in_ok-chunk.ensures.ok
    in
    let size : 2 ^ c.order_for-need.result ≤ 2 ^ c.in_ok-chunk.chunk.order =
    pow-le-pow_right {n = 2} (omega arith) order in (
      omega (arith, c.order_for-need.ensures.need.enough),
      omega (
        arith,
        fetched-small c.args.pool.now c.fetch.new.pool c.max-wanted.result
            c.order_for-need.result c.in_ok-chunk.chunk c.in_ok-chunk.ensures.ok,
        c.geometry-geometry.ensures.lawful.geometry.top_to,
      ),
    )

pub invariant_of-self-2 : goal.invariant_of-self-2
invariant_of-self-2 c =
    let at = (goal.at.invariant_of-self-2 c).After-append in
    let cs = c.self.inside.chunks.items in
    let us = c.self.inside.used.items in
    let pairs = c.self.invariant.pairs in
    let f : Filled = record { chunk = c.in_ok-chunk.chunk; used = c.args.words } in
    subst (λ (ds : List Chunk). IsArena ds c.append.new.used.items) (sym (chunks at))
    (subst (λ (ns : List ℕ). IsArena (cs ++ c.in_ok-chunk.chunk ∷ []) ns) (sym (used at)) (record {
      pairs = omega (
        arith,
        pairs,
        length-append cs (c.in_ok-chunk.chunk ∷ []),
        length-append us (c.args.words ∷ []),
      );
      each = subst (AllByRecursion IsFilled)
          (sym (chain_of-push cs us c.in_ok-chunk.chunk c.args.words pairs))
          (filled-push (chain_of cs us) f c.self.invariant.each
          (record { small = (room at).1; some = c.requires; within = (room at).0 }));
    }))

pub returns-clause-ok : goal.returns-clause-ok
returns-clause-ok c =
    let at = (goal.at.returns-clause-ok c).After-append in
    let cs = c.self.inside.chunks.items in
    let us = c.self.inside.used.items in
    let pairs = c.self.invariant.pairs in
    let view : chain_of cs us ≡ c.args.self.now = c.self.view_is in
    inr (record {
      no_room = subst (λ chain. ¬ HasRoom chain c.args.words) view (subst
          (λ (ds : List Chunk). ¬ HasRoom (chain_of ds us) c.args.words) c.deref.ensures.value
          c.in_default.ensures.none.0);
      need = c.order_for-need.result;
      is_need = c.order_for-need.ensures.need;
      fetches = subst
          (λ w. Fetches c.args.pool.now w c.order_for-need.result c.in_ok-chunk.chunk
          c.fetch.new.pool) (wanted at) c.in_ok-chunk.ensures.ok;
      in_new = record {
        front = refl;
        room = (room at).0;
        amount = refl;
        after =
            (λ i. chain_of (chunks at i) (used at i))
            ∙ chain_of-push cs us c.in_ok-chunk.chunk c.args.words pairs
            ∙ ap (λ (chain : List Filled). chain
            ++ record { chunk = c.in_ok-chunk.chunk; used = c.args.words } ∷ []) view;
      };
    })

-- what is known if the last chunk had room
on_top : (c : In-Some)
    → Places c.args.self.now c.args.pool.now c.args.words c.in-Some.place
    (chain_of c.self.inside.chunks.items c.place_on_top.new.used.items) c.args.pool.now
on_top c =
    let us = c.self.inside.used.items in
    let new = c.place_on_top.new.used.items in
    let top = subst
    (λ (ds : List Chunk). IsOnTop (chain_of ds us) c.args.words c.in-Some.place (chain_of ds new))
    c.deref.ensures.value c.in-Some.ensures.some in
    inl (
      subst (λ (chain : List Filled). IsOnTop chain c.args.words c.in-Some.place
          (chain_of c.self.inside.chunks.items new)) c.self.view_is top,
      refl,
    )

small : (c : After-geometry-geometry) → c.args.pool.now.geometry.top ≤ 12
small c = c.geometry-geometry.ensures.lawful.geometry.top_to

pub returns-in-Some-clause-inside : goal.returns-in-Some-clause-inside
returns-in-Some-clause-inside c =
    let at = goal.at.returns-in-Some-clause-inside c in
    place-inside c.args.self.now (chain_of c.self.inside.chunks.items c.place_on_top.new.used.items)
    c.args.pool.now c.args.pool.now c.args.words c.in-Some.place
    (subst (AllByRecursion IsFilled) c.self.view_is c.self.invariant.each) c.requires
    (small at.After-geometry-geometry) (on_top at.In-Some)

pub returns-in-Some-clause-alone : goal.returns-in-Some-clause-alone
returns-in-Some-clause-alone c = λ others.
    place-held c.args.self.now (chain_of c.self.inside.chunks.items c.place_on_top.new.used.items)
    c.args.pool.now c.args.pool.now c.args.words c.in-Some.place others
    (on_top (goal.at.returns-in-Some-clause-alone c).In-Some)

pub returns-clause-inside : goal.returns-clause-inside
returns-clause-inside c =
    place-inside c.args.self.now (chain_of c.append.new.chunks.items c.append.new.used.items)
    c.args.pool.now c.fetch.new.pool c.args.words
    (record { chunk = c.in_ok-chunk.chunk; offset = 0; words = c.args.words })
    (subst (AllByRecursion IsFilled) c.self.view_is c.self.invariant.each) c.requires
    (small (goal.at.returns-clause-inside c).After-geometry-geometry) (returns-clause-ok c)

pub returns-clause-alone : goal.returns-clause-alone
returns-clause-alone c = λ others.
    place-held c.args.self.now (chain_of c.append.new.chunks.items c.append.new.used.items)
    c.args.pool.now c.fetch.new.pool c.args.words
    (record { chunk = c.in_ok-chunk.chunk; offset = 0; words = c.args.words }) others
    (returns-clause-ok c)

pub returns-in-Some-clause-none_lost : goal.returns-in-Some-clause-none_lost
returns-in-Some-clause-none_lost c = λ others.
    place-none_lost c.args.self.now
    (chain_of c.self.inside.chunks.items c.place_on_top.new.used.items) c.args.pool.now
    c.args.pool.now c.args.words c.in-Some.place others
    (on_top (goal.at.returns-in-Some-clause-none_lost c).In-Some)

pub returns-clause-none_lost : goal.returns-clause-none_lost
returns-clause-none_lost c = λ others.
    place-none_lost c.args.self.now (chain_of c.append.new.chunks.items c.append.new.used.items)
    c.args.pool.now c.fetch.new.pool c.args.words
    (record { chunk = c.in_ok-chunk.chunk; offset = 0; words = c.args.words }) others
    (returns-clause-ok c)
