use Rattle.std.proofs.Common.{◌≡◌, ℕ, suc, ◌+◌, ◌-◌, ◌<◌, true, false, Bool, cond, List, [], ◌∷◌}
use Rattle.std.proofs.Common.{◌++◌, length, get_or, set, refl, sym, ap, ◌∙◌, subst, arith}
use Rattle.std.proofs.Common.{length-set, length-append}
use Rattle.std.specs.List.{AllByRecursion}
use Rattle.cm_pool.specs.declared.chunk.Chunk.{Chunk}
use Rattle.cm_pool.specs.Chunks.{same_chunk}
use Rattle.cm_pool.proofs.{same_chunk-true}
use Rattle.cm_arena.specs.Chains.{Filled, chain_of, IsFilled, IsArena}
use Rattle.cm_arena.specs.Placing.{next_offset, with_place}
use Rattle.cm_arena.proofs.ChainFacts.{next-chain_of, more-chain_of, filled-set}
use Rattle.cm_arena.proofs.ChainFacts.{filled-push, chain_of-push, place-on_top, place-in_new}
use Rattle.cm_arena.proofs.arena.Arena.adopt.Goals as goal
use Rattle.cm_arena.proofs.arena.Arena.adopt.Goals.{After-next_offset-offset, After-len-last}
use Rattle.cm_arena.proofs.arena.Arena.adopt.Goals.{After-append}

offset : (c : After-next_offset-offset)
    → c.next_offset-offset.result
    ≡ next_offset (chain_of c.self.inside.chunks.items c.self.inside.used.items)
    c.args.place.chunk
offset c = c.next_offset-offset.ensures ∙
    (λ i. next_offset (chain_of (c.deref.ensures.value i) (c.deref-2.ensures.value i))
    c.args.place.chunk)

-- what is known if the chunk is the last one
record IsLastOne (cs : List Chunk) (us : List ℕ) (k : ℕ) (c : Chunk) (n : ℕ) : Type 0 where
  len : length cs ≡ suc k
  chunk : get_or cs k c ≡ c
  used : get_or us k 0 ≡ n

last_one : (b : Bool) (cs : List Chunk) (us : List ℕ) (k : ℕ) (c : Chunk) (n : ℕ)
    → length cs ≡ suc k → same_chunk (get_or cs k c) c ≡ b → n ≡ cond b (get_or us k 0) 0 → 0 < n
    → IsLastOne cs us k c n
last_one true cs us k c n len same e pos =
    record { len = len; chunk = same_chunk-true _ _ same; used = sym e }
last_one false cs us k c n len same e pos = absurd (omega arith)

at_last : (c : After-len-last) → 0 < c.next_offset-offset.result
    → c.next_offset-offset.result
    ≡ next_offset (chain_of c.self.inside.chunks.items c.self.inside.used.items)
    c.args.place.chunk → length c.self.inside.chunks.items ≡ suc (c.len-last.result - 1)
    → IsLastOne c.self.inside.chunks.items c.self.inside.used.items (c.len-last.result - 1)
    c.args.place.chunk c.next_offset-offset.result
at_last c pos e len =
    let cs = c.self.inside.chunks.items in
    let us = c.self.inside.used.items in
    let k = c.len-last.result - 1 in
    last_one (same_chunk (get_or cs k c.args.place.chunk) c.args.place.chunk) cs us k
    c.args.place.chunk c.next_offset-offset.result len refl
    (e ∙ next-chain_of cs us k c.args.place.chunk c.args.place.chunk 0 c.self.invariant.pairs len)
    pos

some : (cs : List Chunk) (us : List ℕ) (c : Chunk) → 0 < next_offset (chain_of cs us) c
    → 0 < length cs
some [] us c h = absurd (omega arith)
some (b ∷ cs) us c h = omega arith

pub invariant_of-self : goal.invariant_of-self
invariant_of-self c =
    let at = goal.at.invariant_of-self c in
    let inside = c.is_inside.ensures.0 c.if-not-is_inside.false in
    let cs = c.self.inside.chunks.items in
    let us = c.self.inside.used.items in
    let k = c.len-last.result - 1 in
    let pairs = c.self.invariant.pairs in
    let is = offset at.After-next_offset-offset in
    let pos : 0 < next_offset (chain_of cs us) c.args.place.chunk = omega (arith, is) in
    let len : length cs ≡ suc k =
    omega (
      arith,
      some cs us c.args.place.chunk pos,
      c.len-last.ensures,
      c.self.inside.used.ok.0,
      pairs,
    ) in
    let last = at_last at.After-len-last c.if-offset-gt0.true is len in
    let within : k < length cs = omega arith in
    record {
      pairs = pairs ∙ sym (length-set us k _);
      each = filled-set cs us k (c.next_offset-offset.result + c.args.place.words)
          c.args.place.chunk pairs within c.self.invariant.each
          (subst (λ b. IsFilled (record {
            chunk = b;
            used = c.next_offset-offset.result + c.args.place.words;
          })) (sym last.chunk)
          (record {
            small = inside.small;
            some = omega (arith, inside.some);
            within = omega (arith, inside.within, c.if-place-offset.false);
          }));
    }

pub returns-then-offset-gt0-clause-left : goal.returns-then-offset-gt0-clause-left
returns-then-offset-gt0-clause-left c =
    let at = goal.at.returns-then-offset-gt0-clause-left c in
    let cs = c.self.inside.chunks.items in
    let us = c.self.inside.used.items in
    let k = c.len-last.result - 1 in
    let pairs = c.self.invariant.pairs in
    let is = offset at.After-next_offset-offset in
    let pos : 0 < next_offset (chain_of cs us) c.args.place.chunk = omega (arith, is) in
    let len : length cs ≡ suc k =
    omega (
      arith,
      some cs us c.args.place.chunk pos,
      c.len-last.ensures,
      c.self.inside.used.ok.0,
      pairs,
    ) in
    let last = at_last at.After-len-last c.if-offset-gt0.true is len in
    ap (λ n. chain_of cs (set us k (n + c.args.place.words))) (sym last.used)
    ∙ more-chain_of cs us k c.args.place.words 0 pairs len
    ∙ sym (place-on_top (chain_of cs us) c.args.place pos)
    ∙ ap (λ (chain : List Filled). with_place chain c.args.place) c.self.view_is

chunks : (c : After-append)
    → c.append.new.chunks.items ≡ c.self.inside.chunks.items ++ c.args.place.chunk ∷ []
chunks c = c.append.ensures.chunks ∙ ap
    (λ (cs : List Chunk). cs ++ c.args.place.chunk ∷ []) c.reserve_one.ensures.chunks

used : (c : After-append) → c.append.new.used.items ≡ c.self.inside.used.items
    ++ c.args.place.words ∷ []
used c = c.append.ensures.used
    ∙ ap (λ (us : List ℕ). us ++ c.args.place.words ∷ []) c.reserve_one.ensures.used

pub invariant_of-self-2 : goal.invariant_of-self-2
invariant_of-self-2 c =
    let at = (goal.at.invariant_of-self-2 c).After-append in
    let inside = c.is_inside.ensures.0 c.if-not-is_inside.false in
    let cs = c.self.inside.chunks.items in
    let us = c.self.inside.used.items in
    let pairs = c.self.invariant.pairs in
    let f : Filled = record { chunk = c.args.place.chunk; used = c.args.place.words } in
    subst (λ (ds : List Chunk). IsArena ds c.append.new.used.items) (sym (chunks at))
    (subst (λ (ns : List ℕ). IsArena (cs ++ c.args.place.chunk ∷ []) ns) (sym (used at)) (record {
      pairs = omega (
        arith,
        pairs,
        length-append cs (c.args.place.chunk ∷ []),
        length-append us (c.args.place.words ∷ []),
      );
      each = subst (AllByRecursion IsFilled)
          (sym (chain_of-push cs us c.args.place.chunk c.args.place.words pairs))
          (filled-push (chain_of cs us) f c.self.invariant.each
          (record {
            small = inside.small;
            some = inside.some;
            within = omega (arith, inside.within);
          }));
    }))

pub returns-clause-left : goal.returns-clause-left
returns-clause-left c =
    let at = goal.at.returns-clause-left c in
    let cs = c.self.inside.chunks.items in
    let us = c.self.inside.used.items in
    let none : next_offset (chain_of cs us) c.args.place.chunk ≡ 0 =
    sym (offset at.After-next_offset-offset) ∙ omega arith in
    (λ i. chain_of (chunks at.After-append i) (used at.After-append i))
    ∙ chain_of-push cs us c.args.place.chunk c.args.place.words c.self.invariant.pairs
    ∙ sym (place-in_new (chain_of cs us) c.args.place c.self.invariant.each none)
    ∙ ap (λ (chain : List Filled). with_place chain c.args.place) c.self.view_is
