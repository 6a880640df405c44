-- When two chunks are the same, by the test on them, and that sharing words is symmetric.
-- On `same_chunk`, `Meets`, for crates above.
use Rattle.std.proofs.Common.{◌≡◌, ◌≢◌, ◌^◌, ◌<◌, ◌⊎◌, Bool, true, false, eqb, inl, inr, refl}
use Rattle.std.proofs.Common.{subst, arith}
use Rattle.std.specs.Prelude.{◌&&◌}
use Rattle.std.proofs.lemmas.Bool.{and_parts, eqb-true, eq-eqb}
use Rattle.std.proofs.lemmas.Nat.{pow_pos}
use Rattle.cm_pool.specs.declared.chunk.Chunk.{Chunk}
use Rattle.cm_pool.specs.Chunks.{same_chunk, Meets, Covers}

pub same_chunk-true : (a b : Chunk) → same_chunk a b ≡ true → a ≡ b
same_chunk-true a b h =
    let p = and_parts (eqb a.root b.root) (eqb a.order b.order && eqb a.at b.at) h in
    let q = and_parts (eqb a.order b.order) (eqb a.at b.at) p.1 in
    let root : a.root ≡ b.root = eqb-true a.root b.root p.0 in
    let order : a.order ≡ b.order = eqb-true a.order b.order q.0 in
    let at_is : a.at ≡ b.at = eqb-true a.at b.at q.1 in
    (λ i. record { root = root i; order = order i; at = at_is i })

pub same_chunk-itself : (c : Chunk) → same_chunk c c ≡ true
same_chunk-itself c =
    rw (eq-eqb c.root c.root refl, eq-eqb c.order c.order refl, eq-eqb c.at c.at refl)

pub same_chunk-is : (a b : Chunk) → a ≡ b → same_chunk a b ≡ true
same_chunk-is a b e = subst (λ (c : Chunk). same_chunk a c ≡ true) e (same_chunk-itself a)

-- two chunks are the same, or the test says that they differ
pub same_chunk-cases : (a b : Chunk) → ((same_chunk a b ≡ true) × (a ≡ b))
    ⊎ ((same_chunk a b ≡ false) × (a ≢ b))
same_chunk-cases a b = by_test (same_chunk a b) refl
  where
    by_test : (t : Bool) → same_chunk a b ≡ t → ((same_chunk a b ≡ true) × (a ≡ b))
        ⊎ ((same_chunk a b ≡ false) × (a ≢ b))
    by_test true e = inl (e, same_chunk-true a b e)
    by_test false e = inr (e, λ is. let yes = same_chunk-is a b is in absurd (cc))

pub same_chunk-false : (a b : Chunk) → a ≢ b → same_chunk a b ≡ false
same_chunk-false a b n = elim (same_chunk-cases a b) [ inl (t, e) ↦ absurd (n e) | inr (f, d) ↦ f ]

pub meets-turned : (a b : Chunk) → Meets a b → Meets b a
meets-turned a b m = (m.0, m.1, m.3, m.2)

-- a chunk shares its first word with itself
pub meets-itself : (a : Chunk) → Meets a a
meets-itself a =
    let some : 0 < 2 ^ a.order = pow_pos a.order in
    let first : Covers a a.root a.at =
    record { same_root = refl; from = omega arith; to = omega arith } in
    (a.root, a.at, first, first)
