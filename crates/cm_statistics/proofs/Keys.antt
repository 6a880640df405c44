-- The number that a chunk has alone.
-- For `owned_chunks`.
use Rattle.std.proofs.Common.{◌≡◌, ◌==◌, Bool, true, false, cond, List, []}
use Rattle.std.proofs.Common.{◌∷◌, filter, refl, sym, ap, ◌∙◌, arith, eqb}
use Rattle.std.specs.Prelude.{◌&&◌}
use Rattle.std.specs.List.{AllByRecursion}
use Rattle.std.proofs.lemmas.Bool.{eqb-true, eq-eqb, and_parts}
use Rattle.cm_pool.specs.declared.chunk.Chunk.{Chunk}
use Rattle.cm_pool.specs.Chunks.{same_chunk}
use Rattle.cm_layout.specs.declared.class_row.ClassRow.{ClassRow}
use Rattle.cm_statistics.specs.Usage.{chunk_key, IsSmallChunk, IsSmallRow, on_chunk}

same-true : (a b : Chunk) → a.root ≡ b.root → a.order ≡ b.order → a.at ≡ b.at
    → same_chunk a b ≡ true
same-true a b root order at = grind arith

-- the keys are equal exactly if the chunks are
by_key : (a b : Chunk) → IsSmallChunk a → IsSmallChunk b → (t : Bool)
    → t ≡ eqb (chunk_key a) (chunk_key b) → eqb (chunk_key a) (chunk_key b) ≡ same_chunk a b
by_key a b sa sb true is =
    let keys : chunk_key a ≡ chunk_key b = eqb-true (chunk_key a) (chunk_key b) (sym is) in
    let ao = sa.order in
    let bo = sb.order in
    let aa = sa.at in
    let ba = sb.at in
    let order : a.order ≡ b.order = omega (arith, keys, ao, bo) in
    let at : a.at ≡ b.at = omega (arith, keys, ao, bo, aa, ba, order) in
    let root : a.root ≡ b.root = omega (arith, keys, order, at) in
    sym is ∙ sym (same-true a b root order at)
by_key a b sa sb false is = by_same (same_chunk a b) refl
  where
    by_same : (t : Bool) → t ≡ same_chunk a b
        → eqb (chunk_key a) (chunk_key b) ≡ same_chunk a b
    by_same false not = sym is ∙ not
    by_same true same =
        let p = and_parts (eqb a.root b.root) (eqb a.order b.order && eqb a.at b.at) (sym same) in
        let q = and_parts (eqb a.order b.order) (eqb a.at b.at) p.1 in
        let root : a.root ≡ b.root = eqb-true a.root b.root p.0 in
        let order : a.order ≡ b.order = eqb-true a.order b.order q.0 in
        let at : a.at ≡ b.at = eqb-true a.at b.at q.1 in
        let keys : chunk_key a ≡ chunk_key b = omega (arith, root, order, at) in
        let t = eq-eqb (chunk_key a) (chunk_key b) keys in
        absurd (cc)

same_key : (a b : Chunk) → IsSmallChunk a → IsSmallChunk b
    → eqb (chunk_key a) (chunk_key b) ≡ same_chunk a b
same_key a b sa sb = by_key a b sa sb (eqb (chunk_key a) (chunk_key b)) refl

-- the classes of a key are those on its chunk
pub on_key : (c : Chunk) (rows : List ClassRow) → IsSmallChunk c → AllByRecursion IsSmallRow rows
    → filter (λ r. chunk_key r.place.chunk == chunk_key c) rows ≡ on_chunk c rows
on_key c [] sc small = refl
on_key c (r ∷ rows) sc small =
    let rest = on_key c rows sc small.1 in
    let same = same_key r.place.chunk c small.0.chunk sc in
    ap (λ (t : Bool). cond t (r ∷ filter (λ r. chunk_key r.place.chunk == chunk_key c) rows)
    (filter (λ r. chunk_key r.place.chunk == chunk_key c) rows)) same
    ∙ ap (λ (l : List ClassRow). cond (same_chunk r.place.chunk c) (r ∷ l) l) rest
