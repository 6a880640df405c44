-- What the place of a class says about the rules on its row.
-- For `LiveRows::define`.
use Rattle.std.proofs.Common.{◌≡◌, ◌⊎◌, ℕ, Bool, true, false, List, Some, None, inl, inr}
use Rattle.std.proofs.Common.{arith}
use Rattle.cm_pool.specs.Geometry.{Sizes}
use Rattle.cm_pool.specs.FreeSpace.{FreeSpace}
use Rattle.cm_layout.specs.declared.class_row.ClassRow.{ClassRow}
use Rattle.cm_layout.specs.declared.entry_rule.EntryRule.{EntryRule}
use Rattle.cm_layout.specs.declared.entry_rule.EntryRule.TheVariants.{OnRows, OnChunks}
use Rattle.cm_layout.specs.declared.row.Row.{Row}
use Rattle.cm_layout.specs.declared.row.Row.TheVariants.{Class}
use Rattle.cm_layout.specs.Rows.{slots_of_rows}
use Rattle.cm_layout.specs.Rules.{broken_live_rule, class_fits, has_place, has_room, is_live}
use Rattle.cm_index.specs.declared.slot.BookSlot.{BookSlot}
use Rattle.cm_index.specs.Living.{living}
use Rattle.cm_rows.specs.declared.live_loader.LiveLoader.{LiveLoader}
use Rattle.cm_rows.specs.LiveRows.{AreRowsInPlace}
use Rattle.cm_rows.specs.Held.{HasNoPlace}
use Rattle.cm_rows.specs.Loaders.{LoaderIsAt}
use Rattle.cm_rows.specs.Placing.{is_inside, MayCome, IsPlaced, Breaches}
use Rattle.cm_rows.proofs.Books.{placed, unplaced}
use Rattle.cm_rows.proofs.KeptPlaces.{StandsAmong, at-living, same-kept, stands}
use Rattle.cm_rows.proofs.Verdicts.{inside-chunk, live-at, no_room-is, not_live, on_chunks-inside}
use Rattle.cm_rows.proofs.Verdicts.{on_chunks-place, on_none, on_rows-live, on_rows-room, room-is}

module _ {P : Type 0} (sizes : Sizes) (rows : List (Row P))
    (loaders : List (BookSlot LiveLoader)) (old new : FreeSpace) (r : ClassRow)
    (kept : P) (taken : ℕ) (counted : taken ≡ slots_of_rows rows)
    (book : AreRowsInPlace sizes rows (living loaders) old) where
  abbrev live : Bool
  live = is_live r.loader rows

  abbrev room : Bool
  room = has_room sizes rows (Class r kept)

  module _ (at : ℕ) (slot : BookSlot LiveLoader) (may : MayCome sizes taken loaders r at slot) where
    pub among : StandsAmong loaders at
    among = stands loaders r.loader at may.kept

    pub found : LoaderIsAt (living loaders) r.loader among.place
    found = at-living loaders r.loader at may.kept among

    lives : live ≡ true
    lives = live-at rows (living loaders) r.loader among.place book.loaders found

    roomy : room ≡ true
    roomy = room-is sizes rows r kept (omega (arith, may.few, counted))

  -- the rule that the row breaks is the one returned
  pub broken : (rule : EntryRule) → Breaches sizes taken loaders r old new rule
      → Some rule ≡ broken_live_rule sizes 0 rows (Class r kept)
  broken OnRows (inl absent) =
      on_rows-live live room (class_fits sizes rows r)
      (not_live rows (living loaders) r.loader book.loaders absent)
  broken OnRows (inr full) =
      on_rows-room live room (class_fits sizes rows r)
      (no_room-is sizes rows r kept (omega (arith, full, counted)))
  broken OnChunks u = by_why u.why
    where
      by_why : (is_inside sizes r ≡ false)
          ⊎ ((is_inside sizes r ≡ true) × HasNoPlace u.slot.item.last r.place old new)
          → Some OnChunks ≡ broken_live_rule sizes 0 rows (Class r kept)
      by_why (inl outside) =
          on_chunks-inside live room (is_inside sizes r) (has_place rows r)
          (lives u.at u.slot u.may) (roomy u.at u.slot u.may) outside
      by_why (inr (inside, none)) =
          on_chunks-place live room (is_inside sizes r) (has_place rows r)
          (lives u.at u.slot u.may) (roomy u.at u.slot u.may)
          (unplaced sizes rows (living loaders) old new r
          (among u.at u.slot u.may).place u.slot.item book (found u.at u.slot u.may)
          (same-kept loaders u.at (among u.at u.slot u.may) u.slot u.may.slot_is)
          (inside-chunk sizes r inside).0 none)

  -- the row breaks no rule
  pub keeps_all : IsPlaced sizes taken loaders r old new
      → None ≡ broken_live_rule sizes 0 rows (Class r kept)
  keeps_all p =
      on_none live room (is_inside sizes r) (has_place rows r) (lives p.at p.slot p.may)
      (roomy p.at p.slot p.may) p.inside
      (placed sizes rows (living loaders) old new r
      (among p.at p.slot p.may).place p.slot.item book (found p.at p.slot p.may)
      (same-kept loaders p.at (among p.at p.slot p.may) p.slot p.may.slot_is) p.takes)
