-- The used words of an arena's last chunk, on another chunk.
-- For `Arena::is_tight`, `Arena::swap_last`, `Arena::tighten`, `take_better`.
use Rattle.std.proofs.Common.{◌≡◌, ℕ, zero, suc, ◌<◌, List, [], ◌∷◌, ◌++◌, length, get_or, set}
use Rattle.std.proofs.Common.{Some, IsSomeAnd, length-set, ◌≤◌, refl, sym, ap, subst, ◌∙◌, arith}
use Rattle.std.proofs.Common.{inl, inr, append_assoc, ◌-◌}
use Rattle.std.specs.List.{AllByRecursion}
use Rattle.cm_pool.specs.declared.chunk.Chunk.{Chunk}
use Rattle.cm_pool.specs.Chunks.{chunk_size}
use Rattle.cm_pool.specs.FreeSpace.{FreeSpace, IsFirstFree, LiesBefore, without}
use Rattle.cm_pool.specs.Held.{AreHeld, NoneIsLost}
use Rattle.cm_pool.proofs.SpaceLaws.{taken_is_held, taking_loses_none}
use Rattle.cm_arena.specs.Chains.{Filled, chain_chunks, chain_of, last_of, IsFilled, IsArena}
use Rattle.cm_arena.proofs.ChainFacts.{last-chain_of, filled-at}
use Rattle.std.proofs.Math.Pow.{pow_mono}
use Rattle.cm_arena.specs.Placing.{IsNeed}
use Rattle.cm_arena.specs.Tightening.{with_last, IsBetter, IsTight, Tightens}

-- ---- another last chunk

pub last-exchanged : (cs : List Chunk) (us : List ℕ) (k : ℕ) (c : Chunk) → length cs ≡ length us
    → length cs ≡ suc k → chain_of (set cs k c) us ≡ with_last (chain_of cs us) c
last-exchanged [] us k c same len = absurd (omega arith)
last-exchanged (b ∷ cs) [] k c same len = absurd (omega arith)
last-exchanged (b ∷ []) (n ∷ us) zero c same len = refl
last-exchanged (b ∷ []) (n ∷ us) (suc k) c same len = absurd (omega arith)
last-exchanged (b ∷ a ∷ cs) (n ∷ []) k c same len = absurd (omega arith)
last-exchanged (b ∷ a ∷ cs) (n ∷ m ∷ us) zero c same len = absurd (omega arith)
last-exchanged (b ∷ a ∷ cs) (n ∷ m ∷ us) (suc k) c same len =
    ap (λ rest. record { chunk = b; used = n } ∷ rest)
    (last-exchanged (a ∷ cs) (m ∷ us) k c (omega arith) (omega arith))

pub filled-exchanged : (cs : List Chunk) (us : List ℕ) (k : ℕ) (c : Chunk) (e : ℕ)
    → length cs ≡ length us → k < length cs → AllByRecursion IsFilled (chain_of cs us)
    → IsFilled (record { chunk = c; used = get_or us k e })
    → AllByRecursion IsFilled (chain_of (set cs k c) us)
filled-exchanged [] us k c e same lt h new = absurd (omega arith)
filled-exchanged (b ∷ cs) [] k c e same lt h new = absurd (omega arith)
filled-exchanged (b ∷ cs) (n ∷ us) zero c e same lt h new = (new, h.1)
filled-exchanged (b ∷ cs) (n ∷ us) (suc k) c e same lt h new =
    (h.0, filled-exchanged cs us k c e (omega arith) (omega arith) h.1 new)

-- the last place of a list of this length
pub last_place : {count size long k : ℕ} → 1 ≤ count → k ≡ count - 1 → count ≡ size → size ≡ long
    → long ≡ suc k
last_place some before size long = omega (arith, some, before, size, long)

module _ (cs : List Chunk) (us : List ℕ) (k : ℕ) (is : IsArena cs us)
    (len : length cs ≡ suc k) where
  -- the last chunk and its used words
  pub last_is : (chain : List Filled) (c : Chunk) (used : ℕ) → chain_of cs us ≡ chain
      → c ≡ get_or cs k c → used ≡ get_or us k used
      → last_of chain ≡ Some (record { chunk = c; used = used })
  last_is chain c used view chunk words =
      ap last_of (sym view)
      ∙ (last-chain_of cs us k c used is.pairs len
      ∙ (λ i. Some (record { chunk = sym chunk i; used = sym words i })))

  last_filled : (c : Chunk) (used : ℕ) → c ≡ get_or cs k c → used ≡ get_or us k used
      → IsFilled (record { chunk = c; used = used })
  last_filled c used chunk words =
      subst IsFilled (λ i. record { chunk = sym chunk i; used = sym words i })
      (filled-at cs us k c used is.pairs (omega (arith, len)) is.each)

  -- no chunk has more words in use than a chunk can have
  pub used_few : {used : ℕ} → used ≡ get_or us k used → used ≤ chunk_size 12
  used_few {used} words =
      let nowhere : Chunk = record { root = 0; order = 0; at = 0 } in
      let f = subst (λ n. IsFilled (record { chunk = get_or cs k nowhere; used = n }))
      (sym words) (filled-at cs us k nowhere used is.pairs (omega (arith, len)) is.each) in
      let within = f.within in
      let more = pow_mono f.small in
      omega (arith, within, more)

  -- another last chunk that holds the used words
  pub exchanged_is : (c to : Chunk) (used : ℕ) → c ≡ get_or cs k c → used ≡ get_or us k used
      → to.order ≤ 12 → used ≤ chunk_size to.order → IsArena (set cs k to) us
  exchanged_is c to used chunk words small enough = record {
    pairs = length-set cs k to ∙ is.pairs;
    each = filled-exchanged cs us k to used is.pairs (omega (arith, len)) is.each
        (record {
          small = small;
          some = subst (λ n. 1 ≤ n) words (last_filled c used chunk words).some;
          within = subst (λ n. n ≤ chunk_size to.order) words enough;
        });
  }

-- a chain made of at least one chunk has a last chunk
pub some_last : (cs : List Chunk) (us : List ℕ) (P : Filled → Type 0) → length cs ≡ length us
    → IsSomeAnd (last_of (chain_of cs us)) P → 1 ≤ length cs
some_last [] us P same some = absurd some
some_last (c ∷ cs) us P same some = omega arith

-- the chunks before the last one stay
record AreBefore (chain : List Filled) (last c : Chunk) : Type 0 where
  front : List Chunk
  old : chain_chunks chain ≡ front ++ last ∷ []
  new : chain_chunks (with_last chain c) ≡ front ++ c ∷ []

before_last : (chain : List Filled) (f : Filled) (c : Chunk) → last_of chain ≡ Some f
    → AreBefore chain f.chunk c
before_last [] f c e = absurd (cc)
before_last (g ∷ []) f c e =
    let same : g ≡ f = cc in
    record { front = []; old = ap (λ (h : Filled). h.chunk ∷ []) same; new = refl }
before_last (g ∷ h ∷ rest) f c e =
    let more = before_last (h ∷ rest) f c e in
    record {
      front = g.chunk ∷ more.front;
      old = ap (λ cs. g.chunk ∷ cs) more.old;
      new = ap (λ cs. g.chunk ∷ cs) more.new;
    }

-- ---- which chunk the words move to

pub one_chunk : {a b : Chunk} → Some a ≡ Some b → a ≡ b
one_chunk e = cc

one_need : (words a b : ℕ) → IsNeed words a → IsNeed words b → ¬ (a < b)
one_need words a b is other less =
    let short = other.least a less in
    let enough = is.enough in
    omega (arith, short, enough)

same_need : (words a b : ℕ) → IsNeed words a → IsNeed words b → a ≡ b
same_need words a b is other =
    let one = one_need words a b is other in
    let two = one_need words b a other is in
    omega (arith, one, two)

pub first_is_one : (p : FreeSpace) (order : ℕ) (a b : Chunk) → IsFirstFree p order a
    → IsFirstFree p order b → a ≡ b
first_is_one p order a b is other =
    chunk_is a b (is.of_order ∙ sym other.of_order)
    (is.first b other.of_order other.free) (other.first a is.of_order is.free)
  where
    chunk_is : (a b : Chunk) → a.order ≡ b.order → ¬ LiesBefore b a → ¬ LiesBefore a b → a ≡ b
    chunk_is a b order not_b not_a =
        let root_below : ¬ (b.root < a.root) = λ l. not_b (inl l) in
        let root_above : ¬ (a.root < b.root) = λ l. not_a (inl l) in
        let root : a.root ≡ b.root = omega (arith, root_below, root_above) in
        let at_below : ¬ (b.at < a.at) = λ l. not_b (inr (sym root, l)) in
        let at_above : ¬ (a.at < b.at) = λ l. not_a (inr (root, l)) in
        let at : a.at ≡ b.at = omega (arith, at_below, at_above) in
        λ i. record { root = root i; order = order i; at = at i }

-- if the first free chunk of the order needed isn't better, or there is none, nothing may move
pub is_tight : (chain : List Filled) (p : FreeSpace) (c : Chunk) (used need : ℕ)
    → last_of chain ≡ Some (record { chunk = c; used = used }) → IsNeed used need
    → ((to : Chunk) → IsFirstFree p need to → ¬ IsBetter to c) → IsTight chain p
is_tight chain p c used need last is none from to may =
    let same = one_filled (record { chunk = from; used = may.used })
    (record { chunk = c; used = used }) (sym may.last ∙ last) in
    let words = ap (λ (f : Filled). f.used) same in
    none to
    (subst (λ n. IsFirstFree p n to)
    (same_need used may.need need (subst (λ u. IsNeed u may.need) words may.is_need) is)
    may.first)
    (subst (IsBetter to) (ap (λ (f : Filled). f.chunk) same) may.better)
  where
    one_filled : (f g : Filled) → Some f ≡ Some g → f ≡ g
    one_filled f g e = cc

-- ---- who holds what after the move

chunks_before : (chain : List Filled) (from to : Chunk) (others : List Chunk)
    (b : AreBefore chain from to) → chain_chunks chain ++ others ≡ b.front ++ from ∷ others
chunks_before chain from to others b =
    ap (λ cs. cs ++ others) b.old ∙ append_assoc b.front (from ∷ []) others

chunks_then : (chain new : List Filled) (from to : Chunk) (others : List Chunk)
    (b : AreBefore chain from to) → new ≡ with_last chain to
    → chain_chunks new ++ from ∷ others ≡ b.front ++ to ∷ from ∷ others
chunks_then chain new from to others b after =
    ap (λ (c : List Filled). chain_chunks c ++ from ∷ others) after
    ∙ (ap (λ cs. cs ++ from ∷ others) b.new ∙ append_assoc b.front (to ∷ []) (from ∷ others))

pub moved_is_held : (chain new : List Filled) (p left : FreeSpace) (from to : Chunk)
    (others : List Chunk) → Tightens chain p from to new left
    → AreHeld p (chain_chunks chain ++ others) → AreHeld left (chain_chunks new ++ from ∷ others)
moved_is_held chain new p left from to others t held =
    let b = before_last chain _ to t.may.last in
    subst (λ (q : FreeSpace). AreHeld q (chain_chunks new ++ from ∷ others)) (sym t.left_is)
    (subst (AreHeld (without p to)) (sym (chunks_then chain new from to others b t.after))
    (taken_is_held p b.front to (from ∷ others)
    (subst (AreHeld p) (chunks_before chain from to others b) held) t.may.first.free))

pub moving_loses_none : (chain new : List Filled) (p left : FreeSpace) (from to : Chunk)
    (others : List Chunk) → Tightens chain p from to new left
    → NoneIsLost p (chain_chunks chain ++ others)
    → NoneIsLost left (chain_chunks new ++ from ∷ others)
moving_loses_none chain new p left from to others t kept =
    let b = before_last chain _ to t.may.last in
    subst (λ (q : FreeSpace). NoneIsLost q (chain_chunks new ++ from ∷ others)) (sym t.left_is)
    (subst (NoneIsLost (without p to)) (sym (chunks_then chain new from to others b t.after))
    (taking_loses_none p b.front to (from ∷ others)
    (subst (NoneIsLost p) (chunks_before chain from to others b) kept) t.may.first.free))
