-- The image that a choice yields: a length, and bytes for the positions that a crash may change.
use Rattle.std.specs.Prelude.{◌≡◌, ◌<◌, ◌+◌, ◌||◌, ℕ, zero, suc, Bool, nat_le, min, max, List}
use Rattle.std.specs.Prelude.{length}
use Rattle.std.specs.Prelude.{get_or, if◌then◌else◌}
use Rattle.cm_disk.specs.Disk.{Unsynced}

-- a crash may leave any byte at the position
abbrev pub is_loose : Unsynced → ℕ → Bool
is_loose unsynced i = unsynced.is_open i || nat_le unsynced.least i

-- how many positions before i are unsynced
abbrev pub loose_before : Unsynced → ℕ → ℕ
loose_before unsynced zero = 0
loose_before unsynced (suc i) =
    loose_before unsynced i + (if is_loose unsynced i then 1 else 0)

-- the byte at i: an unsynced position with j unsynced ones before it takes byte j of the fill; if
-- the fill is shorter, and at all other positions, it is the current byte, or 0 if there is none
abbrev pub chosen_byte : List ℕ → Unsynced → List ℕ → ℕ → ℕ
chosen_byte contents unsynced fill i =
    if is_loose unsynced i
    then get_or fill (loose_before unsynced i) (get_or contents i 0)
    else get_or contents i 0

-- the image that a length and a fill choose: the length is clamped to least and greatest
pub record IsChosen (contents : List ℕ) (unsynced : Unsynced) (len : ℕ)
    (fill image : List ℕ) : Type 0 where
  pub size : length image ≡ max unsynced.least (min len unsynced.greatest)
  pub bytes : (i : ℕ) → i < length image
      → get_or image i 0 ≡ chosen_byte contents unsynced fill i
