-- Pools with more roots, and chunks that are taken from them.
-- For `add_roots`, `adopt_place`, `roots_reach_what_is_adopted`.
use Rattle.std.proofs.Common.{◌≡◌, ℕ, zero, suc, ◌+◌, ◌-◌, ◌≤◌, ◌<◌, Bool, true, cond, List}
use Rattle.std.proofs.Common.{refl, sym, ap, ◌∙◌, subst, inl, inr, arith}
use Rattle.cm_pool.specs.declared.chunk.Chunk.{Chunk}
use Rattle.std.proofs.lemmas.Bool.{cases_order}
use Rattle.cm_pool.specs.Geometry.{Sizes}
use Rattle.cm_pool.specs.Chunks.{chunk_size, IsChunk}
use Rattle.cm_pool.specs.FreeSpace.{FreeSpace, IsFreeWord, IsFreeChunk, with_root}
use Rattle.cm_pool.specs.Held.{AreHeld, NoneIsLost}
use Rattle.cm_pool.proofs.{free-with_root}
use Rattle.cm_pool.proofs.SpaceLaws.{roots_keep_held, roots_lose_none}
use Rattle.cm_space.specs.Adopting.{with_roots, reaching, IsOnTheWay}
use Rattle.cm_space.specs.Laws.{RootsReach}

pub rooted-geometry : (p : FreeSpace) (n : ℕ) → (with_roots p n).geometry ≡ p.geometry
rooted-geometry p zero = refl
rooted-geometry p (suc n) = rooted-geometry p n

pub rooted-roots : (p : FreeSpace) (n : ℕ) → (with_roots p n).roots ≡ p.roots + n
rooted-roots p zero = omega arith
rooted-roots p (suc n) = omega (arith, rooted-roots p n)

pub rooted-held : (p : FreeSpace) (n : ℕ) (cs : List Chunk) → AreHeld p cs
    → AreHeld (with_roots p n) cs
rooted-held p zero cs h = h
rooted-held p (suc n) cs h = roots_keep_held (with_roots p n) cs (rooted-held p n cs h)

pub rooted-kept : (p : FreeSpace) (n : ℕ) (cs : List Chunk) → NoneIsLost p cs
    → NoneIsLost (with_roots p n) cs
rooted-kept p zero cs h = h
rooted-kept p (suc n) cs h = roots_lose_none (with_roots p n) cs (rooted-kept p n cs h)

-- each word of a root that was added is free
pub rooted-free : (p : FreeSpace) (n root word : ℕ) → p.roots ≤ root → root < p.roots + n
    → word < chunk_size p.geometry.top → IsFreeWord (with_roots p n) root word
rooted-free p zero root word from to within = absurd (omega arith)
rooted-free p (suc n) root word from to within =
    elim (cases_order root (p.roots + n)) [
      | inl e ↦ (free-with_root (with_roots p n) root word).1
          (inr (e ∙ sym (rooted-roots p n), sized))
      | inr (inl lt) ↦ (free-with_root (with_roots p n) root word).1
          (inl (rooted-free p n root word from lt within))
      | inr (inr gt) ↦ absurd (omega arith)
    ]
  where
    sized : word < chunk_size (with_roots p n).geometry.top
    sized = subst (λ (g : Sizes). word < chunk_size g.top) (sym (rooted-geometry p n)) within

-- a chunk of the region whose root is added is free
pub reaching-free : (p : FreeSpace) (c : Chunk) → IsChunk p.geometry c → p.roots ≤ c.root
    → IsFreeChunk (reaching p c.root) c
reaching-free p c is from =
    let n = suc c.root - p.roots in
    let same = rooted-geometry p n in
    let roots : (with_roots p n).roots ≡ p.roots + n = rooted-roots p n in
    record {
      block = record {
        within_top = subst (λ (g : Sizes). c.order ≤ g.top) (sym same) is.within_top;
        in_a_root = omega (arith, roots);
        aligned = is.aligned;
        inside = subst (λ (g : Sizes). c.at + chunk_size c.order ≤ chunk_size g.top)
            (sym same) is.inside;
      };
      words = λ word low high. rooted-free p n c.root word from (omega arith)
          (omega (arith, high, is.inside));
    }

-- if the root is present, none is added
pub reaching-present : (p : FreeSpace) (root : ℕ) → root < p.roots → reaching p root ≡ p
reaching-present p root h = ap (with_roots p) (let e : suc root - p.roots ≡ 0 = omega arith in e)

-- one more root on the way, and its end
pub way-more : (p q r : FreeSpace) (root : ℕ) (added : Bool) → IsOnTheWay p root q → q.roots ≤ root
    → root < p.geometry.roots → (q.roots < q.geometry.roots → added ≡ true)
    → r ≡ cond added (with_root q) q → IsOnTheWay p root r × (r.roots ≡ q.roots + 1)
way-more p q r root added way here limit can is =
    let same : q.geometry ≡ p.geometry =
    ap (λ (s : FreeSpace). s.geometry) way.left ∙ rooted-geometry p way.count in
    let limits : q.geometry.roots ≡ p.geometry.roots = ap (λ (g : Sizes). g.roots) same in
    let new : r ≡ with_root q =
    is ∙ ap (λ b. cond b (with_root q) q) (can (omega (arith, limits))) in
    let count : q.roots ≡ p.roots + way.count =
    ap (λ (s : FreeSpace). s.roots) way.left ∙ rooted-roots p way.count in (
      record {
        count = suc way.count;
        few = omega (arith, count);
        left = new ∙ ap with_root way.left;
      },
      ap (λ (s : FreeSpace). s.roots) new,
    )

pub way-from : (p q : FreeSpace) (root : ℕ) → IsOnTheWay p root q → p.roots ≤ q.roots
way-from p q root way =
    omega (arith, ap (λ (s : FreeSpace). s.roots) way.left ∙ rooted-roots p way.count)

pub way-end : (p q : FreeSpace) (root : ℕ) → IsOnTheWay p root q → root < q.roots
    → q ≡ reaching p root
way-end p q root way end =
    let count : q.roots ≡ p.roots + way.count =
    ap (λ (s : FreeSpace). s.roots) way.left ∙ rooted-roots p way.count in
    let all : way.count ≡ suc root - p.roots = omega (arith, count, way.few) in
    way.left ∙ ap (with_roots p) all

pub way-all : (p q : FreeSpace) (root : ℕ) → q ≡ reaching p root → IsOnTheWay p root q
way-all p q root e = record { count = suc root - p.roots; few = omega arith; left = e }

pub reaching-held : (p : FreeSpace) (root : ℕ) (cs : List Chunk) → AreHeld p cs
    → AreHeld (reaching p root) cs
reaching-held p root cs h = rooted-held p (suc root - p.roots) cs h

pub roots_reach : RootsReach
roots_reach p root = omega (arith, rooted-roots p (suc root - p.roots))
