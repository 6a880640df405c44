-- What a file is before it is made, meanwhile and afterwards.
use Rattle.std.specs.Prelude.{◌≢◌, ℕ, List, get_or}
use Rattle.cm_pool.specs.Geometry.{Sizes, IsGeometry}
use Rattle.cm_layout.specs.Slots.{open_gate}
use Rattle.cm_layout.specs.Laws.{IsNewest}
use Rattle.cm_guards.specs.Gates.{Turns}
use Rattle.cm_recover.specs.Opened.{IsOlderFile}
use Rattle.cm_recover.specs.NewFile.{gate_at, new_bytes, shut_bytes, IsNoCache, IsEmptyCache}

-- Contents whose superblock isn't open are no cache, whatever else they hold.
abbrev pub ShutIsNoCache : Type 0
ShutIsNoCache = (contents : List ℕ) → get_or contents gate_at 0 ≢ open_gate → IsNoCache contents

-- A new file stands for the empty cache.
abbrev pub NewIsEmpty : Type 0
NewIsEmpty = (sizes : Sizes) → IsGeometry sizes → IsEmptyCache sizes (new_bytes sizes)

-- Its half is of the version that is written now.
abbrev pub NewIsNewest : Type 0
NewIsNewest = (sizes : Sizes) → IsGeometry sizes → IsNewest (new_bytes sizes)

-- A file whose half that counts is of that version isn't a file of version 1.
abbrev pub NewestIsNotOlder : Type 0
NewestIsNotOlder = (contents : List ℕ) → IsNewest contents → IsOlderFile contents → ⊥

-- The superblock's gate turns no cache into the empty one.
abbrev pub GateTurns : Type 0
GateTurns =
    (sizes : Sizes) → IsGeometry sizes
    → Turns IsNoCache (IsEmptyCache sizes) gate_at open_gate (shut_bytes sizes)
