-- A trim: how many roots rows use, and what holds while the file is truncated after these.
-- For `Committer::advance`, `Committer::roots`, `Committer::trim`, `trims_stand`.
use Rattle.std.proofs.Common.{◌≡◌, ℕ, ◌+◌, ◌<◌, ◌≤◌, ◌^◌, inl, inr, Bool, true, false, List, []}
use Rattle.std.proofs.Common.{◌∷◌, length, take, refl, sym, ap, ◌∙◌, arith}
use Rattle.std.proofs.Common.{get_or-take, length-take}
use Rattle.std.specs.Prelude.{max, nat_lt}
use Rattle.std.proofs.lemmas.Bool.{ltb-true, ltb-false}
use Rattle.cm_pool.specs.Geometry.{Sizes}
use Rattle.cm_pool.specs.Lists.{Among}
use Rattle.cm_layout.specs.declared.class_row.ClassRow.{ClassRow}
use Rattle.cm_layout.specs.declared.row.Row.{Row}
use Rattle.cm_layout.specs.declared.row.Row.TheVariants.{Loader, Class}
use Rattle.cm_layout.specs.Offsets.{root_at}
use Rattle.cm_layout.specs.Rows.{classes_in, rows_with}
use Rattle.cm_layout.specs.Framing.{needs}
use Rattle.cm_guards.specs.Guards.{Agrees}
use Rattle.cm_commit.specs.Committed.{Committed}
use Rattle.cm_commit.specs.Guarding.{IsCommitted, ContentsShow, guard_of}
use Rattle.cm_commit.specs.GroupPlans.{whole_roots}
use Rattle.cm_commit.specs.Laws.{TrimsStand}
use Rattle.cm_commit.specs.Trims.{roots_of_rows}
use Rattle.cm_commit.proofs.Guards.{guarded, guard_bounded, rows_inside}
use Rattle.cm_commit.proofs.Places.{IsInside}
use Rattle.cm_commit.proofs.Records.{roots-mono}
use Rattle.cm_commit.proofs.Renewing.{rests}
use Rattle.cm_commit.proofs.Roots.{whole-is, root_some}

-- ---- how many roots

-- the same with what is kept as without
pub roots-with : {P : Type 0} (f : P → List ℕ) (rows : List (Row P))
    → roots_of_rows (rows_with f rows) ≡ roots_of_rows rows
roots-with f [] = refl
roots-with f (Loader r ∷ rows) = ap (λ (n : ℕ). max 0 n) (roots-with f rows)
roots-with f (Class r p ∷ rows) =
    ap (λ (n : ℕ). max (r.place.chunk.root + 1) n) (roots-with f rows)

few_of : (sizes : Sizes) (rows : List (Row (List ℕ)))
    → ((r : ClassRow) → Among r (classes_in rows) → IsInside sizes r.place)
    → roots_of_rows rows ≤ sizes.roots
few_of sizes [] is = omega arith
few_of sizes (Loader r ∷ rows) is = let rest = few_of sizes rows is in omega (arith, rest)
few_of sizes (Class r words ∷ rows) is =
    let rest = few_of sizes rows (λ s m. is s (inr m)) in
    let here = is r (inl refl) in
    omega (arith, rest, here.root)

-- no more than the region may have
pub few_used : (c : Committed) → IsCommitted c → roots_of_rows c.rows < 2 ^ 32
few_used c right =
    let few = few_of c.sizes c.rows (rows_inside c.sizes c.framing c.rows c.number right) in
    omega (arith, few, right.lawful.roots_to)

pub whole_used : (sizes : Sizes) (count : ℕ) → whole_roots sizes (root_at sizes count) ≡ count
whole_used sizes count =
    let some = root_some sizes in
    whole-is sizes count (root_at sizes count) (omega arith) (omega (arith, some))

-- ---- how many bytes rows need

greater_root : (sizes : Sizes) (a b : ℕ)
    → max (root_at sizes a) (root_at sizes b) ≡ root_at sizes (max a b)
greater_root sizes a b = by_test (nat_lt a b) refl
  where
    by_test : (t : Bool) → nat_lt a b ≡ t
        → max (root_at sizes a) (root_at sizes b) ≡ root_at sizes (max a b)
    by_test true e =
        let below = ltb-true a b e in
        let behind = roots-mono sizes a b (omega (arith, below)) in
        let one : max (root_at sizes a) (root_at sizes b) ≡ root_at sizes b =
        omega (arith, behind) in
        let same : b ≡ max a b = omega (arith, below) in
        one ∙ ap (root_at sizes) same
    by_test false e =
        let above = ltb-false a b e in
        let behind = roots-mono sizes b a (omega (arith, above)) in
        let one : max (root_at sizes a) (root_at sizes b) ≡ root_at sizes a =
        omega (arith, behind) in
        let same : a ≡ max a b = omega (arith, above) in
        one ∙ ap (root_at sizes) same

pub needs_used : (sizes : Sizes) (rows : List (Row (List ℕ)))
    → needs sizes rows ≡ root_at sizes (roots_of_rows rows)
needs_used sizes [] = omega arith
needs_used sizes (Loader r ∷ rows) =
    let same : roots_of_rows rows ≡ max 0 (roots_of_rows rows) = omega arith in
    needs_used sizes rows ∙ ap (root_at sizes) same
needs_used sizes (Class r words ∷ rows) =
    ap (max (root_at sizes (r.place.chunk.root + 1))) (needs_used sizes rows)
    ∙ greater_root sizes (r.place.chunk.root + 1) (roots_of_rows rows)

-- ---- the cut

module _ (c : Committed) (contents : List ℕ) (right : IsCommitted c)
    (shows : ContentsShow c contents) where
  abbrev end : ℕ
  end = root_at c.sizes (roots_of_rows c.rows)

  within : end ≤ length contents
  within = let needed = needs_used c.sizes c.rows in omega (arith, needed, shows.long)

  size : length (take end contents) ≡ end
  size = length-take end contents ∙ omega (arith, within)

  cut_agrees : Agrees (guard_of c) contents (take end contents)
  cut_agrees = record {
    long = let needed = needs_used c.sizes c.rows in omega (arith, needed, size);
    same = λ i is.
        let needed = needs_used c.sizes c.rows in
        sym (get_or-take end contents i 0
        (omega (arith, needed, guard_bounded c right i is)));
  }

pub trims_stand : TrimsStand
trims_stand c contents right shows = record {
  needed = needs_used c.sizes c.rows;
  ready = record {
    guard = guard_of c;
    rests = rests c contents right shows;
    enough = let needed = needs_used c.sizes c.rows in omega (arith, needed);
    within = within c contents right shows;
    behind = record {
      holds = (guarded c right).carries contents _ shows.long (cut_agrees c contents right shows)
          shows;
      size = size c contents right shows;
    };
  };
  roots = whole_used c.sizes (roots_of_rows c.rows);
}
