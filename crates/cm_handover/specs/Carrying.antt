-- What is handed over, group by group, continues what was handed over before it, however much of
-- that is committed by then.
use Rattle.std.specs.Prelude.{◌≡◌, ℕ, ◌+◌, ◌≤◌, true, List, ◌++◌, length}
use Rattle.std.specs.List.{AllByRecursion}
use Rattle.cm_pool.specs.Geometry.{Sizes}
use Rattle.cm_layout.specs.declared.row.Row.{Row}
use Rattle.cm_group.specs.Groups.{Carried, Handed, IsGroup, IsContinuedBy, joined_group}
use Rattle.cm_commit.specs.Offers.{MayCome, writes_apart, rows_after_group}
use Rattle.cm_front.specs.Front.{FrontState, IsFront}
use Rattle.cm_front.specs.Accepting.{HandsOut}
use Rattle.cm_handover.specs.Ahead.{AllFollow, IsAhead}

-- A group continues these entries, which come after rows that were opened with this number. Its
-- numbers continue theirs, and each of its entries may follow. None writes into a chunk that rows
-- use at any number from the one learnt when the group was handed over to the one before its first,
-- other than after the records on its loader's last one: so it may be written whichever of these is
-- committed.
pub record GroupMayFollow (sizes : Sizes) (rows : List (Row (List ℕ))) (number : ℕ)
    (before : List Carried) (group : Handed) : Type 0 where
  pub is : IsGroup group
  pub first : group.first ≡ number + length before + 1
  pub follow : AllFollow sizes (rows_after_group rows before) (number + length before)
      group.entries
  pub apart : (stored rest : List Carried) → before ≡ stored ++ rest
      → group.learnt ≤ number + length stored
      → AllByRecursion
      (λ (c : Carried). writes_apart (rows_after_group rows stored) c.entry ≡ true) group.entries

-- What an accepted cache hands out continues all that it handed out before, if what it has learnt
-- is durable.
abbrev pub HandedCarriesOn : Type 0
HandedCarriesOn =
    (rows : List (Row (List ℕ))) (number : ℕ) (stored out : List Carried)
    (s new : FrontState) (group : Handed) → IsFront s → IsGroup group
    → IsAhead (rows_after_group rows stored) (number + length stored) out s
    → s.learnt ≡ number + length stored → HandsOut s group new
    → GroupMayFollow s.sizes rows number (stored ++ out) group

-- If two groups continue these entries, one after the other, so do both joined into one.
abbrev pub JoinedCarriesOn : Type 0
JoinedCarriesOn =
    (sizes : Sizes) (rows : List (Row (List ℕ))) (number : ℕ) (before : List Carried)
    (one two : Handed) → GroupMayFollow sizes rows number before one
    → GroupMayFollow sizes rows number (before ++ one.entries) two → IsContinuedBy one two
    → GroupMayFollow sizes rows number before (joined_group one two)

-- A group that continues what is committed may come next.
abbrev pub CarriedMayCome : Type 0
CarriedMayCome =
    (sizes : Sizes) (rows : List (Row (List ℕ))) (number : ℕ) (before : List Carried)
    (group : Handed) → GroupMayFollow sizes rows number before group
    → MayCome sizes (rows_after_group rows before) (number + length before) group
