-- What a framing rests on is guarded, and lies within the bytes that the rows need.
-- For `committed_is_guarded`.
use Rattle.std.proofs.Common.{◌≡◌, ℕ, ◌+◌, ◌≤◌, Bool, true, false, cond, List, [], ◌∷◌}
use Rattle.std.proofs.Common.{Some, None, inl, inr, refl, sym, subst, arith}
use Rattle.std.specs.Prelude.{nat_lt, Option}
use Rattle.std.proofs.lemmas.Bool.{ltb-true}
use Rattle.cm_pool.specs.Geometry.{Sizes}
use Rattle.cm_pool.specs.Lists.{Among}
use Rattle.cm_layout.specs.declared.heads.HalfHead.{HalfHead}
use Rattle.cm_layout.specs.declared.class_row.ClassRow.{ClassRow}
use Rattle.cm_layout.specs.declared.row.Row.{Row}
use Rattle.cm_layout.specs.declared.row.Row.TheVariants.{Loader, Class}
use Rattle.cm_layout.specs.Offsets.{half_size, roots_at}
use Rattle.cm_layout.specs.Rows.{classes_in, bare}
use Rattle.cm_layout.specs.Frames.{LiveRowsKeep, number_at_end}
use Rattle.cm_layout.specs.Framing.{Framing, IsRightFraming, Range, guards, needs, used_size}
use Rattle.cm_layout.specs.Framing.{other_half, older_size, record_ranges, open_half}
use Rattle.cm_layout.proofs.{agreement_matches, live_rows_stay, classes-bare}
use Rattle.cm_guards.specs.Guards.{Guards, IsBounded}
use Rattle.cm_commit.specs.Committed.{Committed}
use Rattle.cm_commit.specs.Guarding.{guard_of, ContentsShow}
use Rattle.cm_commit.proofs.Ranges.{AreWithin, agree, bounded, half_ends}
use Rattle.cm_commit.proofs.Places.{IsInside, AreStacked, are_stacked, ends_in_root}

-- ---- how many bytes rows need

pub needs_roots : (sizes : Sizes) (rows : List (Row (List ℕ))) → roots_at sizes ≤ needs sizes rows
needs_roots sizes [] = omega arith
needs_roots sizes (Loader r ∷ rows) = needs_roots sizes rows
needs_roots sizes (Class r words ∷ rows) = omega (arith, needs_roots sizes rows)

wider : (n m : ℕ) (ranges : List Range) → n ≤ m → AreWithin n ranges → AreWithin m ranges
wider n m [] le within = tt
wider n m (r ∷ ranges) le within = (omega (arith, within.0, le), wider n m ranges le within.1)

records_within : (sizes : Sizes) (rows : List (Row (List ℕ)))
    → ((r : ClassRow) → Among r (classes_in rows) → IsInside sizes r.place)
    → AreWithin (needs sizes rows) (record_ranges sizes rows)
records_within sizes [] is = tt
records_within sizes (Loader r ∷ rows) is = records_within sizes rows is
records_within sizes (Class r words ∷ rows) is = (
  omega (arith, ends_in_root sizes r.place (is r (inl refl))),
  wider (needs sizes rows) (needs sizes (Class r words ∷ rows)) (record_ranges sizes rows)
      (omega arith) (records_within sizes rows (λ s m. is s (inr m))),
)

pub older_ends : (older : Option HalfHead) → older_size older ≤ 64
older_ends None = omega arith
older_ends (Some head) = omega arith

pub end_size : (a b : ℕ) → a ≤ b → a + cond (nat_lt a b) 1 0 ≤ b
end_size a b le = by_test (nat_lt a b) refl
  where
    by_test : (t : Bool) → nat_lt a b ≡ t → a + cond t 1 0 ≤ b
    by_test true h = omega (arith, ltb-true a b h)
    by_test false h = omega (arith, le)

-- ---- rows of a framing that is right

pub rows_live : (sizes : Sizes) (f : Framing) (rows : List (Row (List ℕ))) (n : ℕ)
    → IsRightFraming sizes f rows n → LiveRowsKeep sizes n [] (bare rows)
rows_live sizes f rows n right =
    subst (λ (m : ℕ). LiveRowsKeep sizes m [] (bare rows)) (sym right.number_is)
    (subst (LiveRowsKeep sizes (number_at_end (open_half f)) []) (sym right.rows_are)
    (live_rows_stay sizes (open_half f) right.good))

pub rows_stacked : (sizes : Sizes) (f : Framing) (rows : List (Row (List ℕ))) (n : ℕ)
    → IsRightFraming sizes f rows n → AreStacked sizes (bare rows)
rows_stacked sizes f rows n right =
    are_stacked sizes n (bare rows) (rows_live sizes f rows n right)

pub rows_inside : (sizes : Sizes) (f : Framing) (rows : List (Row (List ℕ))) (n : ℕ)
    → IsRightFraming sizes f rows n → (r : ClassRow) → Among r (classes_in rows)
    → IsInside sizes r.place
rows_inside sizes f rows n right r m =
    (rows_stacked sizes f rows n right).each r
    (subst (λ (l : List ClassRow). Among r l) (sym (classes-bare rows)) m)

-- ---- what is guarded

pub guards_within : (sizes : Sizes) (f : Framing) (rows : List (Row (List ℕ))) (n : ℕ)
    → IsRightFraming sizes f rows n → AreWithin (needs sizes rows) (guards sizes f rows)
guards_within sizes f rows n right =
    let roots = needs_roots sizes rows in
    let here = half_ends sizes f.counting in
    let there = half_ends sizes (other_half f.counting) in
    let end = end_size (used_size f) (half_size sizes) right.fits in
    let older = older_ends f.older in (
      omega (arith, roots),
      (
        omega (arith, roots, here, right.fits),
        (
          omega (arith, roots, here, end),
          (
            omega (arith, roots, there, older, right.lawful.slots_from),
            records_within sizes rows (rows_inside sizes f rows n right),
          ),
        ),
      ),
    )

pub guard_bounded : (c : Committed) → IsRightFraming c.sizes c.framing c.rows c.number
    → IsBounded (guard_of c)
guard_bounded c right i guarded =
    bounded (needs c.sizes c.rows) (guards c.sizes c.framing c.rows)
    (guards_within c.sizes c.framing c.rows c.number right) i guarded

pub guarded : (c : Committed) → IsRightFraming c.sizes c.framing c.rows c.number
    → Guards (guard_of c) (ContentsShow c)
guarded c right = record {
  carries = λ a b long agrees shows.
      agreement_matches c.sizes c.framing c.rows a b agrees.long
      (agree (needs c.sizes c.rows) (guards c.sizes c.framing c.rows) a b
      (guards_within c.sizes c.framing c.rows c.number right) long agrees.long agrees.same)
      shows;
}
