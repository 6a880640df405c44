use Rattle.std.proofs.Common.{◌≡◌, ◌+◌, ◌<◌, ℕ, true, eqb, List, [], length, get_or, take, ap, sym}
use Rattle.std.proofs.Common.{◌∙◌, arith, length-take, length-drop}
use Rattle.std.proofs.lemmas.List.{get_or_read}
use Rattle.std.proofs.lemmas.Bool.{eqb-true}
use Rattle.cm_index.specs.Blocks.{joined}
use Rattle.cm_index.specs.declared.index.IndexEntry.{IndexEntry}
use Rattle.cm_index.proofs.Joined.{crowded, joined-halved, lower-halved, upper-halved}
use Rattle.cm_index.proofs.Joined.{before-halved, length-halved}
use Rattle.cm_index.proofs.blocks.open.Goals as goal

-- a block that is reported as full is full
full : (bs : List (List IndexEntry)) (i : ℕ) (now : List IndexEntry) → i < length bs
    → now ≡ get_or bs i now → true ≡ eqb (length now) 1024 → length (get_or bs i []) ≡ 1024
full bs i now lt is test =
    ap length (sym (get_or_read bs i now lt is [])) ∙ eqb-true (length now) 1024 (sym test)

pub split-requires-clause-spare : goal.split-requires-clause-spare
split-requires-clause-spare c =
    let bs = c.args.blocks.now.items in
    let s = c.args.spot in
    let e = crowded bs s.block c.requires.blocks.half c.requires.between.block
    (omega (
      arith,
      full bs s.block c.index.result.now c.requires.between.block c.index.ensures
          c.if-not-is_full.ensures.full,
    )) in
    omega (arith, e, c.requires.room)

pub returns-then-spot-le-HALF-clause-items : goal.returns-then-spot-le-HALF-clause-items
returns-then-spot-le-HALF-clause-items c =
    ap joined c.split.ensures.items
    ∙ joined-halved c.args.blocks.now.items c.args.spot.block c.requires.between.block

pub returns-then-spot-le-HALF-clause-between : goal.returns-then-spot-le-HALF-clause-between
returns-then-spot-le-HALF-clause-between c =
    let bs = c.args.blocks.now.items in
    let s = c.args.spot in
    let lt = c.requires.between.block in
    record {
      block = omega (arith, ap length c.split.ensures.items, length-halved bs s.block lt);
      place = omega (
        arith,
        ap (λ (l : List (List IndexEntry)). length (get_or l s.block []))
            c.split.ensures.items,
        ap length (lower-halved bs s.block lt),
        length-take 512 (get_or bs s.block []),
        full bs s.block c.index.result.now c.requires.between.block c.index.ensures
            c.if-not-is_full.ensures.full,
        c.if-spot-le-HALF.true,
      );
    }

pub returns-then-spot-le-HALF-clause-open : goal.returns-then-spot-le-HALF-clause-open
returns-then-spot-le-HALF-clause-open c =
    let bs = c.args.blocks.now.items in
    let s = c.args.spot in
    omega (
      arith,
      ap (λ (l : List (List IndexEntry)). length (get_or l s.block []))
          c.split.ensures.items,
      ap length (lower-halved bs s.block c.requires.between.block),
      length-take 512 (get_or bs s.block []),
    )

pub returns-clause-items : goal.returns-clause-items
returns-clause-items c =
    ap joined c.split.ensures.items
    ∙ joined-halved c.args.blocks.now.items c.args.spot.block c.requires.between.block

pub returns-clause-place : goal.returns-clause-place
returns-clause-place c =
    let bs = c.args.blocks.now.items in
    let s = c.args.spot in
    let before = before-halved bs s.block c.requires.between.block in
    let is = ap (λ (l : List (List IndexEntry)). length (joined (take (s.block + 1) l)))
    c.split.ensures.items in
    omega (
      arith,
      is,
      before,
      length-take 512 (get_or bs s.block []),
      full bs s.block c.index.result.now c.requires.between.block c.index.ensures
          c.if-not-is_full.ensures.full,
      c.if-spot-le-HALF.false,
    )

pub returns-clause-between : goal.returns-clause-between
returns-clause-between c =
    let bs = c.args.blocks.now.items in
    let s = c.args.spot in
    let lt = c.requires.between.block in
    let upper =
    ap (λ (l : List (List IndexEntry)). length (get_or l (s.block + 1) []))
    c.split.ensures.items in
    record {
      block = omega (arith, ap length c.split.ensures.items, length-halved bs s.block lt, lt);
      place = omega (
        arith,
        upper,
        ap length (upper-halved bs s.block lt),
        length-drop 512 (get_or bs s.block []),
        full bs s.block c.index.result.now c.requires.between.block c.index.ensures
            c.if-not-is_full.ensures.full,
        c.requires.between.place,
        c.if-spot-le-HALF.false,
      );
    }

pub returns-clause-open : goal.returns-clause-open
returns-clause-open c =
    let bs = c.args.blocks.now.items in
    let s = c.args.spot in
    let upper =
    ap (λ (l : List (List IndexEntry)). length (get_or l (s.block + 1) []))
    c.split.ensures.items in
    omega (
      arith,
      upper,
      ap length (upper-halved bs s.block c.requires.between.block),
      length-drop 512 (get_or bs s.block []),
      full bs s.block c.index.result.now c.requires.between.block c.index.ensures
          c.if-not-is_full.ensures.full,
    )
