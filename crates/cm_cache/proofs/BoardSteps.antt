-- Each step on the Board keeps its rule.
-- For `NewBoard`, `Board`, `Poster`, `Reader`.
use Rattle.std.proofs.Common.{◌≡◌, ◌≢◌, ℕ, zero, suc, ◌≤◌, Bool, true, false, true≢false, List, []}
use Rattle.std.proofs.Common.{◌∷◌, ◌++◌, set, refl, sym, ap, subst, ◌∙◌, ⊎_elim, arith}
use Rattle.std.specs.Prelude.{slice_index, slice_set}
use mathlib.Core.Option.{some, some-ne-none, some-injective}
use lib.ListN.{get_elem?}
use Rattle.atomic_table.specs.Table.{Allows, Enters, Joins, opening, keeps}
use Rattle.atomic_table.proofs.Lists.{at_set, at_snoc}
use Rattle.cm_cache.specs.declared.board_view.BoardView.{BoardView}
use Rattle.cm_cache.specs.declared.board_view.Load.TheVariants.{Number, Broken}
use Rattle.cm_cache.specs.Board.{flag_of, is_set, poster, reader, hearing, FitsBoard, IsBoard}
use Rattle.cm_cache.specs.Board.{Mine, HasPostedNumber, HasPostedBroken, HasEntered}
use Rattle.cm_cache.specs.Board.{HasSeenNumber, HasSeenBroken, HasCompared}

off : false ≡ true → ⊥
off e = true≢false (sym e)

is_set-flag : (b : Bool) → is_set (flag_of b) ≡ b
is_set-flag true = refl
is_set-flag false = refl

-- the view of one user changes, and those of the others stay right
each_set : (F : ℕ → BoardView → Type 0) (views : List BoardView) (id : ℕ) (w : BoardView) → F id w
    → ((j : ℕ) (u : BoardView) → j ≢ id → get_elem? views j ≡ some u → F j u)
    → (j : ℕ) (u : BoardView) → get_elem? (set views id w) j ≡ some u → F j u
each_set F views id w mine others j u e =
    ⊎_elim
    (λ (x : (j ≡ id) × (w ≡ u)).
    subst (λ (y : ℕ × BoardView). F y.0 y.1) (λ i. (sym x.0 i, x.1 i)) mine)
    (λ (x : (j ≢ id) × (get_elem? views j ≡ some u)). others j u x.0 x.1)
    (at_set views id j w u e)

-- a reader that has seen and heard no more than what is written
reads_fit : (seat posted : ℕ) (failed : Bool) (id : ℕ) (v : BoardView) → v.posts ≡ false
    → v.number ≤ posted → (v.broken ≡ true → failed ≡ true) → v.heard_number ≤ posted
    → (v.heard_broken ≡ true → failed ≡ true) → FitsBoard seat posted failed id v
reads_fit seat posted failed id v reads n b hn hb = record {
  posts = λ p. absurd (off (sym reads ∙ p));
  number = n;
  broken = b;
  heard_number = hn;
  heard_broken = hb;
}

pub begins : (n : ℕ) → IsBoard (opening (n ∷ 0 ∷ []) [] (poster n))
begins n = record {
  seat = 0;
  posted = n;
  failed = false;
  words = refl;
  each = one;
}
  where
    mine : FitsBoard 0 n false 0 (poster n)
    mine = record {
      posts = λ _. (refl, refl, refl);
      number = omega arith;
      broken = λ b. b;
      heard_number = omega arith;
      heard_broken = λ b. b;
    }

    one : (id : ℕ) (v : BoardView) → get_elem? (poster n ∷ []) id ≡ some v
        → FitsBoard 0 n false id v
    one zero v e = subst (FitsBoard 0 n false 0) (some-injective _ _ e) mine
    one (suc id) v e = absurd (some-ne-none v (sym e))

-- what is found in the two words
number_found : (ws : List ℕ) (posted flag : ℕ) → ws ≡ posted ∷ flag ∷ [] → slice_index ws 0 ≡ posted
number_found ws posted flag is = ap (λ l. slice_index l 0) is

flag_found : (ws : List ℕ) (posted flag : ℕ) → ws ≡ posted ∷ flag ∷ [] → slice_index ws 1 ≡ flag
flag_found ws posted flag is = ap (λ l. slice_index l 1) is

-- a word that is read stays as it is
read_number : (ws : List ℕ) (posted flag : ℕ) → ws ≡ posted ∷ flag ∷ []
    → slice_set ws 0 (slice_index ws 0) ≡ posted ∷ flag ∷ []
read_number ws posted flag is = ap (λ l. slice_set l 0 (slice_index l 0)) is

read_flag : (ws : List ℕ) (posted flag : ℕ) → ws ≡ posted ∷ flag ∷ []
    → slice_set ws 1 (slice_index ws 1) ≡ posted ∷ flag ∷ []
read_flag ws posted flag is = ap (λ l. slice_set l 1 (slice_index l 1)) is

pub posts_number : (slots id : ℕ) (v : BoardView) (held : List (ℕ × Unit {0})) (n : ℕ)
    → v.posts ≡ true → v.number ≤ n
    → Allows {S = Unit {0}} IsBoard slots id (v, held) 0 (λ _. n)
    (λ _. HasPostedNumber (v, held) n)
posts_number slots id v held n may up s h _ at _ = (
  w,
  keeps,
  tt,
  record {
    seat = h.seat;
    posted = n;
    failed = h.failed;
    words = ap (λ l. slice_set l 0 n) h.words;
    each = each_set (FitsBoard h.seat n h.failed) s.views id w
        (record {
          posts = λ _. (known.0, refl, known.2);
          number = omega arith;
          broken = mine.broken;
          heard_number = let heard = mine.heard_number in omega (arith, heard, more);
          heard_broken = mine.heard_broken;
        })
        (λ j u other e.
        let theirs = h.each j u e in
        record {
          posts = λ p. absurd (other ((theirs.posts p).0 ∙ sym known.0));
          number = let seen = theirs.number in omega (arith, seen, more);
          broken = theirs.broken;
          heard_number = let heard = theirs.heard_number in omega (arith, heard, more);
          heard_broken = theirs.heard_broken;
        });
  },
  (refl, refl),
)
  where
    w : BoardView
    w = record v { number = n }

    mine : FitsBoard h.seat h.posted h.failed id v
    mine = h.each id v at

    known : (id ≡ h.seat) × (v.number ≡ h.posted) × (v.broken ≡ h.failed)
    known = mine.posts may

    more : h.posted ≤ n
    more = let is = known.1 in omega (arith, is, up)

pub posts_broken : (slots id : ℕ) (v : BoardView) (held : List (ℕ × Unit {0})) → v.posts ≡ true
    → Allows {S = Unit {0}} IsBoard slots id (v, held) 1 (λ _. 1)
    (λ _. HasPostedBroken (v, held) 1)
posts_broken slots id v held may s h _ at _ = (
  w,
  keeps,
  tt,
  record {
    seat = h.seat;
    posted = h.posted;
    failed = true;
    words = ap (λ l. slice_set l 1 1) h.words;
    each = each_set (FitsBoard h.seat h.posted true) s.views id w
        (record {
          posts = λ _. (known.0, known.1, refl);
          number = mine.number;
          broken = λ b. refl;
          heard_number = mine.heard_number;
          heard_broken = λ b. refl;
        })
        (λ j u other e.
        let theirs = h.each j u e in
        record {
          posts = λ p. absurd (other ((theirs.posts p).0 ∙ sym known.0));
          number = theirs.number;
          broken = λ b. refl;
          heard_number = theirs.heard_number;
          heard_broken = λ b. refl;
        });
  },
  (refl, refl),
)
  where
    w : BoardView
    w = record v { broken = true }

    mine : FitsBoard h.seat h.posted h.failed id v
    mine = h.each id v at

    known : (id ≡ h.seat) × (v.number ≡ h.posted) × (v.broken ≡ h.failed)
    known = mine.posts may

pub enters : (slots : ℕ) (first : Mine)
    → Enters {S = Unit {0}} IsBoard slots 0 (λ n w. HasEntered first n (w, []))
enters slots first s h _ _ = (
  w,
  record {
    seat = h.seat;
    posted = h.posted;
    failed = h.failed;
    words = h.words;
    each = λ j u e. ⊎_elim
        (λ was. h.each j u was)
        (λ (is : w ≡ u). subst (FitsBoard h.seat h.posted h.failed j) is
        (reads_fit h.seat h.posted h.failed j w refl
        (let found = number_found s.words h.posted (flag_of h.failed) h.words in
        omega (arith, found))
        (λ b. absurd (off b)) (omega arith) (λ b. absurd (off b))))
        (at_snoc s.views w u j e);
  },
  (refl, refl),
)
  where
    w : BoardView
    w = reader (slice_index s.words 0)

pub sees_number : (slots id : ℕ) (v : BoardView) (held : List (ℕ × Unit {0})) → v.posts ≡ false
    → Allows {S = Unit {0}} IsBoard slots id (v, held) 0 (λ n. n) (HasSeenNumber (v, held))
sees_number slots id v held reads s h _ at _ = (
  w,
  keeps,
  tt,
  record {
    seat = h.seat;
    posted = h.posted;
    failed = h.failed;
    words = read_number s.words h.posted (flag_of h.failed) h.words;
    each = each_set (FitsBoard h.seat h.posted h.failed) s.views id w
        (reads_fit h.seat h.posted h.failed id w reads (omega (arith, found)) mine.broken
        mine.heard_number mine.heard_broken)
        (λ j u other e. h.each j u e);
  },
  ((let seen = mine.number in omega (arith, seen, found)), refl, refl),
)
  where
    w : BoardView
    w = record v {
      number = slice_index s.words 0;
      loads = v.loads ++ Number (slice_index s.words 0) ∷ [];
    }

    mine : FitsBoard h.seat h.posted h.failed id v
    mine = h.each id v at

    found : slice_index s.words 0 ≡ h.posted
    found = number_found s.words h.posted (flag_of h.failed) h.words

pub sees_broken : (slots id : ℕ) (v : BoardView) (held : List (ℕ × Unit {0})) → v.posts ≡ false
    → Allows {S = Unit {0}} IsBoard slots id (v, held) 1 (λ n. n) (HasSeenBroken (v, held))
sees_broken slots id v held reads s h _ at _ = (
  w,
  keeps,
  tt,
  record {
    seat = h.seat;
    posted = h.posted;
    failed = h.failed;
    words = read_flag s.words h.posted (flag_of h.failed) h.words;
    each = each_set (FitsBoard h.seat h.posted h.failed) s.views id w
        (reads_fit h.seat h.posted h.failed id w reads mine.number (λ b. sym found ∙ b)
        mine.heard_number mine.heard_broken)
        (λ j u other e. h.each j u e);
  },
  ((λ b. found ∙ mine.broken b), refl, refl),
)
  where
    w : BoardView
    w = record v {
      broken = is_set (slice_index s.words 1);
      loads = v.loads ++ Broken (is_set (slice_index s.words 1)) ∷ [];
    }

    mine : FitsBoard h.seat h.posted h.failed id v
    mine = h.each id v at

    found : is_set (slice_index s.words 1) ≡ h.failed
    found = ap is_set (flag_found s.words h.posted (flag_of h.failed) h.words)
        ∙ is_set-flag h.failed

pub hears : (id : ℕ) (v : BoardView) (other : ℕ) (u : BoardView)
    → Joins {S = Unit {0}} IsBoard id v other u (hearing v u) (reader 0)
hears id v other u s h at two at' = record {
  seat = h.seat;
  posted = h.posted;
  failed = h.failed;
  words = h.words;
  each = each_set (FitsBoard h.seat h.posted h.failed) (set s.views id w) other (reader 0)
      (reads_fit h.seat h.posted h.failed other (reader 0) refl (omega arith)
      (λ b. absurd (off b)) (omega arith) (λ b. absurd (off b)))
      (λ j y _ e. each_set (FitsBoard h.seat h.posted h.failed) s.views id w
      (record {
        posts = mine.posts;
        number = mine.number;
        broken = mine.broken;
        heard_number = theirs.number;
        heard_broken = theirs.broken;
      })
      (λ i z _ e'. h.each i z e') j y e);
}
  where
    w : BoardView
    w = hearing v u

    mine : FitsBoard h.seat h.posted h.failed id v
    mine = h.each id v at

    was : get_elem? s.views other ≡ some u
    was = ⊎_elim (λ x. absurd (two x.0)) (λ x. x.1) (at_set s.views id other w u at')

    theirs : FitsBoard h.seat h.posted h.failed other u
    theirs = h.each other u was

pub compares : (slots id : ℕ) (v : BoardView) (held : List (ℕ × Unit {0})) → v.posts ≡ true
    → Allows {S = Unit {0}} IsBoard slots id (v, held) 0 (λ n. n) (HasCompared (v, held))
compares slots id v held may s h _ at _ = (
  v,
  keeps,
  tt,
  record {
    seat = h.seat;
    posted = h.posted;
    failed = h.failed;
    words = read_number s.words h.posted (flag_of h.failed) h.words;
    each = each_set (FitsBoard h.seat h.posted h.failed) s.views id v mine
        (λ j u other e. h.each j u e);
  },
  (
    refl,
    refl,
    (let heard = mine.heard_number in let is = known.1 in omega (arith, heard, is)),
    λ b. known.2 ∙ mine.heard_broken b,
  ),
)
  where
    mine : FitsBoard h.seat h.posted h.failed id v
    mine = h.each id v at

    known : (id ≡ h.seat) × (v.number ≡ h.posted) × (v.broken ≡ h.failed)
    known = mine.posts may
