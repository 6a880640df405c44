-- What is guarded while a group is stored: all that what is committed rests on. While a checkpoint
-- is written, it is the same except for the other half, of which only the shut gate counts.
use Rattle.std.specs.Prelude.{◌≡◌, ℕ, ◌≤◌, Bool, false, ◌||◌, List, [], ◌∷◌, None}
use Rattle.cm_disk.specs.Disk.{is_among}
use Rattle.cm_pool.specs.Geometry.{Sizes}
use Rattle.cm_layout.specs.declared.row.Row.{Row}
use Rattle.cm_layout.specs.Frames.{entry_version}
use Rattle.cm_layout.specs.Framing.{Framing, Range, IsRightFraming, Matches, guards}
use Rattle.cm_layout.specs.Framing.{needs}
use Rattle.cm_guards.specs.Guards.{Guard}
use Rattle.cm_commit.specs.Committed.{Committed}

-- the position is in one of the ranges
abbrev pub is_in_any : List Range → ℕ → Bool
is_in_any [] i = false
is_in_any (r ∷ ranges) i = is_among r.at r.count i || is_in_any ranges i

-- the halves are right for the rows and the number, whatever contents show them
abbrev pub IsCommitted : Committed → Type 0
IsCommitted c = IsRightFraming c.sizes c.framing c.rows c.number

-- the half that counts is of the version that is written now, which also has long names
abbrev pub CountsNewest : Committed → Type 0
CountsNewest c = c.framing.head.version ≡ entry_version

-- the positions that what is committed rests on, and the bytes that it needs
abbrev pub guard_of : Committed → Guard
guard_of c = record {
  is_guarded = is_in_any (guards c.sizes c.framing c.rows);
  needs = needs c.sizes c.rows;
}

-- the contents show what is committed
abbrev pub ContentsShow : Committed → List ℕ → Type 0
ContentsShow c contents = Matches c.sizes c.framing c.rows contents

-- the contents frame these rows and this number, in halves of which the one that counts is of this
-- version or a newer one
pub record HoldsFrom (version : ℕ) (sizes : Sizes) (rows : List (Row (List ℕ))) (number : ℕ)
    (contents : List ℕ) : Type 0 where
  pub framing : Framing
  pub right : IsRightFraming sizes framing rows number
  pub matches : Matches sizes framing rows contents
  pub no_older : version ≤ framing.head.version

-- the contents show what is committed, in these halves or in others of the same version or a newer
-- one
abbrev pub HoldsCommitted : Committed → List ℕ → Type 0
HoldsCommitted c contents = HoldsFrom c.framing.head.version c.sizes c.rows c.number contents

-- what is committed with the other half's gate shut
abbrev pub shut_other : Committed → Committed
shut_other c = record c { framing = record c.framing { older = None } }
