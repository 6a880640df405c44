-- What classes take, one class after another.
-- For `usage_of`, `count_by`.
use Rattle.std.proofs.Common.{◌≡◌, ℕ, ◌+◌, ◌*◌, ◌^◌, ◌≤◌, Bool, true, false, cond, List, []}
use Rattle.std.proofs.Common.{◌∷◌, length, filter, arith}
use Rattle.std.specs.List.{AllByRecursion, sum_by}
use Rattle.std.proofs.Math.Nat.{pow-le-pow_right}
use Rattle.std.proofs.lemmas.List.Sums.{sum_by-cons}
use Rattle.cm_layout.specs.declared.class_row.ClassRow.{ClassRow}
use Rattle.cm_statistics.specs.declared.usage.Usage.{Usage}
use Rattle.cm_statistics.specs.Usage.{usage, begins, chunk_bytes, record_bytes, with_class, AddUp}
use Rattle.cm_statistics.specs.Usage.{HasRoom, IsSmallRow}

-- ---- one class more

count-begun : (t : Bool) (r : ClassRow) (rows : List ClassRow)
    → length (cond t (r ∷ rows) rows) ≡ cond t 1 0 + length rows
count-begun true r rows = omega arith
count-begun false r rows = omega arith

sum-begun : (t : Bool) (r : ClassRow) (rows : List ClassRow)
    → sum_by chunk_bytes (cond t (r ∷ rows) rows)
    ≡ cond t (chunk_bytes r) 0 + sum_by chunk_bytes rows
sum-begun true r rows = sum_by-cons chunk_bytes r rows
sum-begun false r rows = omega arith

-- the first class counts by itself, if it is meant
by_test : (t : Bool) (r : ClassRow) (rows : List ClassRow) (u all : Usage)
    → AddUp u (usage (cond t (r ∷ rows) rows)) all
    → AddUp (cond t (with_class u r) u) (usage rows) all
by_test false r rows u all adds = adds
by_test true r rows u all adds =
    let count = count-begun (begins r) r (filter begins rows) in
    let owned = sum-begun (begins r) r (filter begins rows) in
    let used = sum_by-cons record_bytes r rows in
    record {
      classes = let e = adds.classes in omega (arith, e);
      chunks = let e = adds.chunks in omega (arith, e, count);
      owned = let e = adds.owned in omega (arith, e, owned);
      used = let e = adds.used in omega (arith, e, used);
    }

pub one_more : (test : ClassRow → Bool) (r : ClassRow) (rows : List ClassRow) (u all : Usage)
    → AddUp u (usage (filter test (r ∷ rows))) all
    → AddUp (cond (test r) (with_class u r) u) (usage (filter test rows)) all
one_more test r rows u all adds = by_test (test r) r (filter test rows) u all adds

-- ---- no sum is too great

-- at most this many classes take this
pub record IsBounded (n : ℕ) (u : Usage) : Type 0 where
  pub classes : u.classes ≤ n
  pub chunks : u.chunks ≤ n
  pub owned : u.owned ≤ 2 ^ 22 * n
  pub used : u.used ≤ 2 ^ 22 * n

at_most : (t : Bool) (n : ℕ) → cond t n 0 ≤ n
at_most true n = omega arith
at_most false n = omega arith

chunk-small : (r : ClassRow) → IsSmallRow r → chunk_bytes r ≤ 2 ^ 22
chunk-small r small =
    let size : 2 ^ r.place.chunk.order ≤ 2 ^ 12 = pow-le-pow_right {n = 2} (omega arith)
    small.chunk.order in
    omega (arith, size)

bounded-more : (t : Bool) (r : ClassRow) (rows : List ClassRow) (n : ℕ) → IsSmallRow r
    → IsBounded n (usage rows) → IsBounded (n + 1) (usage (cond t (r ∷ rows) rows))
bounded-more false r rows n small b = record {
  classes = let e = b.classes in omega (arith, e);
  chunks = let e = b.chunks in omega (arith, e);
  owned = let e = b.owned in omega (arith, e);
  used = let e = b.used in omega (arith, e);
}
bounded-more true r rows n small b =
    let count = count-begun (begins r) r (filter begins rows) in
    let one = at_most (begins r) 1 in
    let owned = sum-begun (begins r) r (filter begins rows) in
    let most = at_most (begins r) (chunk_bytes r) in
    let chunk = chunk-small r small in
    let words = small.words in
    let used = sum_by-cons record_bytes r rows in
    record {
      classes = let e = b.classes in omega (arith, e);
      chunks = let e = b.chunks in omega (arith, e, count, one);
      owned = let e = b.owned in omega (arith, e, owned, most, chunk);
      used = let e = b.used in omega (arith, e, words, used);
    }

pub bounded : (test : ClassRow → Bool) (rows : List ClassRow) → AllByRecursion IsSmallRow rows
    → IsBounded (length rows) (usage (filter test rows))
bounded test [] small = record {
  classes = omega arith;
  chunks = omega arith;
  owned = omega arith;
  used = omega arith;
}
bounded test (r ∷ rows) small =
    let more = bounded-more (test r) r (filter test rows) (length rows) small.0
    (bounded test rows small.1) in
    record {
      classes = let e = more.classes in omega (arith, e);
      chunks = let e = more.chunks in omega (arith, e);
      owned = let e = more.owned in omega (arith, e);
      used = let e = more.used in omega (arith, e);
    }

pub room_for : (test : ClassRow → Bool) (rows all : List ClassRow) (r : ClassRow) (u : Usage)
    → AddUp u (usage (filter test rows)) (usage (filter test all))
    → AllByRecursion IsSmallRow all → length all ≤ 2 ^ 16 → IsSmallRow r → HasRoom u r
room_for test rows all r u adds each few small =
    let b = bounded test all each in
    let chunk = chunk-small r small in
    let words = small.words in
    record {
      classes = let e = adds.classes in let m = b.classes in omega (arith, e, m, few);
      chunks = let e = adds.chunks in let m = b.chunks in omega (arith, e, m, few);
      owned = let e = adds.owned in let m = b.owned in omega (arith, e, m, few, chunk);
      used = let e = adds.used in let m = b.used in omega (arith, e, m, few, words);
    }
