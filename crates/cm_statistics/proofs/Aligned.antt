-- Chunks of a root begin at the multiples of their size.
-- For `has_unused_in`.
use Rattle.std.proofs.Common.{◌≡◌, ℕ, ◌+◌, ◌*◌, ◌/◌, ◌%◌, ◌<◌, ◌≤◌, true, false, refl, sym, ap}
use Rattle.std.proofs.Common.{◌∙◌, subst, arith}
use Rattle.std.specs.Prelude.{◌&&◌, ◌==◌, nat_le, nat_lt}
use Rattle.std.proofs.lemmas.Bool.{leb-true, ltb-true, eqb-true, and_parts}
use Rattle.std.proofs.Math.Nat.{div-add-mod, div-mul-le_self, le-div_iff_mul-le, mul-le-mul_right}
use Rattle.std.proofs.lemmas.Nat.{pow_pos}
use Rattle.cm_pool.specs.Geometry.{Sizes}
use Rattle.cm_pool.specs.declared.chunk.Chunk.{Chunk}
use Rattle.cm_pool.specs.Chunks.{chunk_size}
use Rattle.cm_layout.specs.Rules.{is_chunk, is_unused}
use Rattle.cm_rows.specs.Rows.{LiveRows}
use Rattle.cm_statistics.specs.Unused.{is_free, chunk_from, HasUnused, HasUnusedIn}

-- a chunk that a region has begins at one of these places
pub record IsAt (sizes : Sizes) (c : Chunk) : Type 0 where
  pub order : c.order ≤ sizes.top
  pub root : c.root < sizes.roots
  pub index : c.at / chunk_size c.order < chunk_size sizes.top / chunk_size c.order
  pub at : c.at ≡ c.at / chunk_size c.order * chunk_size c.order

pub is_at : (sizes : Sizes) (c : Chunk) → 0 < chunk_size c.order → is_chunk sizes c ≡ true
    → IsAt sizes c
is_at sizes c some is =
    let size = chunk_size c.order in
    let p = and_parts (nat_le c.order sizes.top && nat_lt c.root sizes.roots
    && (c.at % size == 0)) (nat_le (c.at + size) (chunk_size sizes.top)) is in
    let q = and_parts (nat_le c.order sizes.top && nat_lt c.root sizes.roots)
    (c.at % size == 0) p.0 in
    let r = and_parts (nat_le c.order sizes.top) (nat_lt c.root sizes.roots) q.0 in
    let whole : c.at % size ≡ 0 = eqb-true (c.at % size) 0 q.1 in
    let inside : c.at + size ≤ chunk_size sizes.top =
    leb-true (c.at + size) (chunk_size sizes.top) p.1 in
    let parts = div-add-mod c.at size in
    let turned : c.at / size * size ≡ size * (c.at / size) = grind arith in
    let more : (c.at / size + 1) * size ≡ c.at / size * size + size = grind arith in
    let fits : (c.at / size + 1) * size ≤ chunk_size sizes.top =
    omega (arith, parts, whole, turned, more, inside) in
    let index : c.at / size + 1 ≤ chunk_size sizes.top / size =
    (le-div_iff_mul-le some).1 fits in
    record {
      order = leb-true c.order sizes.top r.0;
      root = ltb-true c.root sizes.roots r.1;
      index = omega (arith, index);
      at = omega (arith, parts, whole, turned);
    }

-- the places lie within the root
pub within : (order top index : ℕ) → index < chunk_size top / chunk_size order
    → index * chunk_size order ≤ chunk_size top
within order top index below =
    let whole = div-mul-le_self (chunk_size top) (chunk_size order) in
    let less : index * chunk_size order ≤ chunk_size top / chunk_size order * chunk_size order =
    mul-le-mul_right (chunk_size order) (omega (arith, below)) in
    omega (arith, whole, less)

pub size_some : (order : ℕ) → 0 < chunk_size order
size_some order = let some = pow_pos order in omega (arith, some)

-- ---- free chunks

chunk-is : (c : Chunk) (order root at : ℕ) → c.order ≡ order → c.root ≡ root → c.at ≡ at
    → c ≡ chunk_from order root at
chunk-is c order root at o r a = λ i. record { root = r i; order = o i; at = a i }

-- with none at any of the places, there is none
pub none_left : {P : Type 0} (rows : LiveRows P) (order root last : ℕ)
    → ((j : ℕ) → j < last → is_free rows (chunk_from order root (j * chunk_size order)) ≡ false)
    → chunk_size rows.sizes.top / chunk_size order ≤ last → HasUnusedIn rows order root → ⊥
none_left rows order root last none all h =
    let c = h.chunk in
    let p = and_parts (is_chunk rows.sizes c) (is_unused c rows.rows) h.free in
    let at = is_at rows.sizes c (size_some c.order) p.0 in
    let index : c.at / chunk_size order < chunk_size rows.sizes.top / chunk_size order =
    subst (λ (k : ℕ). c.at / chunk_size k < chunk_size rows.sizes.top / chunk_size k)
    h.of_order at.index in
    let place : c.at ≡ c.at / chunk_size order * chunk_size order =
    subst (λ (k : ℕ). c.at ≡ c.at / chunk_size k * chunk_size k) h.of_order at.at in
    let same = chunk-is c order root (c.at / chunk_size order * chunk_size order) h.of_order
    h.in_root place in
    let taken = none (c.at / chunk_size order) (omega (arith, index, all)) in
    let free = sym (ap (is_free rows) same) ∙ h.free in
    absurd (cc)

-- the root of a free chunk
pub record IsIn {P : Type 0} (rows : LiveRows P) (order : ℕ) : Type 0 where
  pub root : ℕ
  pub below : root < rows.sizes.roots
  pub has : HasUnusedIn rows order root

pub in_root : {P : Type 0} (rows : LiveRows P) (order : ℕ) → HasUnused rows order
    → IsIn rows order
in_root rows order h =
    let c = h.chunk in
    let p = and_parts (is_chunk rows.sizes c) (is_unused c rows.rows) h.free in
    let at = is_at rows.sizes c (size_some c.order) p.0 in
    record {
      root = c.root;
      below = at.root;
      has = record { chunk = c; of_order = h.of_order; in_root = refl; free = h.free };
    }
