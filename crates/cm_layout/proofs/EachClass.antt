-- What is true of all that is kept of classes stays true after each change of the rows.
-- On `EachClass`, for crates above.
use Rattle.std.proofs.Common.{ℕ, Bool, true, false, cond, List, [], ◌∷◌, ◌++◌, eqb}
use Rattle.std.specs.Prelude.{not}
use Rattle.cm_pool.specs.declared.chunk.Chunk.{Chunk}
use Rattle.cm_pool.specs.Chunks.{same_chunk}
use Rattle.cm_layout.specs.declared.row.Row.{Row}
use Rattle.cm_layout.specs.declared.row.Row.TheVariants.{Loader, Class}
use Rattle.cm_layout.specs.Rows.{EachClass, without_loader, without_loaders, moved}

module _ {P : Type 0} (Is : P → Type 0) where
  pub each-append : (rows more : List (Row P)) → EachClass Is rows → EachClass Is more
      → EachClass Is (rows ++ more)
  each-append [] more each new = new
  each-append (Loader r ∷ rows) more each new = each-append rows more each new
  each-append (Class r p ∷ rows) more each new = (each.0, each-append rows more each.1 new)

  pub each-without : (u : ℕ) (rows : List (Row P)) → EachClass Is rows
      → EachClass Is (without_loader u rows)
  each-without u [] each = tt
  each-without u (Loader r ∷ rows) each = by_test (eqb r.number u) (each-without u rows each)
    where
      by_test : (t : Bool) → EachClass Is (without_loader u rows)
          → EachClass Is (cond (not t) (Loader r ∷ without_loader u rows) (without_loader u rows))
      by_test true rest = rest
      by_test false rest = rest
  each-without u (Class r p ∷ rows) each = by_test (eqb r.loader u) (each-without u rows each.1)
    where
      by_test : (t : Bool) → EachClass Is (without_loader u rows)
          → EachClass Is (cond (not t) (Class r p ∷ without_loader u rows) (without_loader u rows))
      by_test true rest = rest
      by_test false rest = (each.0, rest)

  pub each-without-all : (us : List ℕ) (rows : List (Row P)) → EachClass Is rows
      → EachClass Is (without_loaders us rows)
  each-without-all [] rows each = each
  each-without-all (u ∷ us) rows each =
      each-without-all us (without_loader u rows) (each-without u rows each)

  pub each-moved : (from to : Chunk) (rows : List (Row P)) → EachClass Is rows
      → EachClass Is (moved from to rows)
  each-moved from to [] each = tt
  each-moved from to (Loader r ∷ rows) each = each-moved from to rows each
  each-moved from to (Class r p ∷ rows) each =
      by_test (same_chunk r.place.chunk from) (each-moved from to rows each.1)
    where
      by_test : (t : Bool) → EachClass Is (moved from to rows)
          → EachClass Is (cond t (Class (record r { place = record r.place { chunk = to } }) p)
          (Class r p) ∷ moved from to rows)
      by_test true rest = (each.0, rest)
      by_test false rest = (each.0, rest)
