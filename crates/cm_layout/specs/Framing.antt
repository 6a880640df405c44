-- Contents matched place by place: the working form of `Frames`, which joins whole parts. A framing
-- has no contents in it; contents match it if each guarded range holds what the framing says.
use Rattle.std.specs.Prelude.{◌≡◌, ◌≢◌, ℕ, ◌+◌, ◌*◌, ◌<◌, ◌≤◌, max, List, [], ◌∷◌, ◌++◌, length}
use Rattle.std.specs.Prelude.{take, drop, get_or, Option, Some, None, nat_lt, if◌then◌else◌}
use Rattle.std.specs.List.{flat_map, AllByRecursion}
use Rattle.cm_pool.specs.Geometry.{Sizes, IsGeometry}
use Rattle.cm_layout.specs.declared.half.Half.{Half}
use Rattle.cm_layout.specs.declared.half.Half.TheVariants.{Zero, One}
use Rattle.cm_layout.specs.declared.heads.HalfHead.{HalfHead}
use Rattle.cm_layout.specs.declared.row.Row.{Row}
use Rattle.cm_layout.specs.declared.row.Row.TheVariants.{Loader, Class}
use Rattle.cm_layout.specs.Offsets.{superblock_size, slot_size, half_size, half_at, roots_at}
use Rattle.cm_layout.specs.Offsets.{root_at, record_at}
use Rattle.cm_layout.specs.Slots.{open_gate, half_head_slot, row_slots}
use Rattle.cm_layout.specs.Superblock.{superblock_bytes}
use Rattle.cm_layout.specs.Rows.{classes_in, bare}
use Rattle.cm_layout.specs.Frames.{BareRow, BareEntry, OpenHalf, IsGoodHead, IsGoodHalf, AreApart}
use Rattle.cm_layout.specs.Frames.{HoldsRow, groups_slots, rows_of, number_at_end}

-- ---- ranges of bytes

pub record Range : Type 0 where
  pub at : ℕ
  pub count : ℕ

abbrev pub part : ℕ → ℕ → List ℕ → List ℕ
part at count contents = take count (drop at contents)

-- two contents have the same bytes in each range
abbrev pub Agree : List Range → List ℕ → List ℕ → Type 0
Agree [] a b = Unit {0}
Agree (r ∷ ranges) a b = (part r.at r.count a ≡ part r.at r.count b) × Agree ranges a b

-- ---- a framing

-- which half counts, what it holds up to its end, and the head of the other, if that is open
pub record Framing : Type 0 where
  pub counting : Half
  pub head : HalfHead
  pub live : List BareRow
  pub groups : List (List BareEntry)
  pub older : Option HalfHead

abbrev pub other_half : Half → Half
other_half Zero = One
other_half One = Zero

-- the bytes of the half that counts, up to its end
unfoldable pub used_bytes : Framing → List ℕ
used_bytes f =
    half_head_slot f.head ++ (flat_map row_slots f.live ++ groups_slots f.head.base f.groups)

abbrev pub used_size : Framing → ℕ
used_size f = length (used_bytes f)

abbrev pub open_half : Framing → OpenHalf
open_half f = record { head = f.head; live = f.live; groups = f.groups; behind = [] }

abbrev pub IsRightOlder : Sizes → ℕ → Option HalfHead → Type 0
IsRightOlder sizes epoch None = Unit {0}
IsRightOlder sizes epoch (Some head) = IsGoodHead sizes head × (head.epoch < epoch)

-- the framing is right for these rows and this number, whichever contents match it
pub record IsRightFraming (sizes : Sizes) (f : Framing) (rows : List (Row (List ℕ)))
    (number : ℕ) : Type 0 where
  pub lawful : IsGeometry sizes
  pub fits : used_size f ≤ half_size sizes
  pub good : IsGoodHalf sizes (open_half f)
  pub older : IsRightOlder sizes f.head.epoch f.older
  pub rows_are : bare rows ≡ rows_of (open_half f)
  pub number_is : number ≡ number_at_end (open_half f)
  pub apart : AreApart (classes_in rows)

-- ---- what contents match

-- how many bytes the rows' roots need
abbrev pub needs : Sizes → List (Row (List ℕ)) → ℕ
needs sizes [] = roots_at sizes
needs sizes (Loader r ∷ rows) = needs sizes rows
needs sizes (Class r words ∷ rows) = max (root_at sizes (r.place.chunk.root + 1)) (needs sizes rows)

-- the other half's gate is shut, or its older head is there
abbrev pub HasOlder : ℕ → Option HalfHead → List ℕ → Type 0
HasOlder at None contents = get_or contents at 0 ≢ open_gate
HasOlder at (Some head) contents = part at slot_size contents ≡ half_head_slot head

pub record Matches (sizes : Sizes) (f : Framing) (rows : List (Row (List ℕ)))
    (contents : List ℕ) : Type 0 where
  pub long : needs sizes rows ≤ length contents
  pub superblock : part 0 superblock_size contents ≡ superblock_bytes sizes
  pub used : part (half_at sizes f.counting) (used_size f) contents ≡ used_bytes f
  pub end : used_size f < half_size sizes
      → get_or contents (half_at sizes f.counting + used_size f) 0 ≢ open_gate
  pub other : HasOlder (half_at sizes (other_half f.counting)) f.older contents
  pub records : AllByRecursion (HoldsRow sizes (drop (roots_at sizes) contents)) rows

-- ---- what is guarded: nothing else in the contents affects what they frame

abbrev pub older_size : Option HalfHead → ℕ
older_size None = 1
older_size (Some head) = slot_size

abbrev pub record_ranges : Sizes → List (Row (List ℕ)) → List Range
record_ranges sizes [] = []
record_ranges sizes (Loader r ∷ rows) = record_ranges sizes rows
record_ranges sizes (Class r words ∷ rows) =
    record { at = record_at sizes r.place; count = 8 * r.place.words } ∷ record_ranges sizes rows

-- the superblock, the half that counts, the byte after its end, the other half's gate with its head
-- if that is open, and the records
abbrev pub guards : Sizes → Framing → List (Row (List ℕ)) → List Range
guards sizes f rows =
    record { at = 0; count = superblock_size }
    ∷ record { at = half_at sizes f.counting; count = used_size f }
    ∷ record {
      at = half_at sizes f.counting + used_size f;
      count = if nat_lt (used_size f) (half_size sizes) then 1 else 0;
    }
    ∷ record { at = half_at sizes (other_half f.counting); count = older_size f.older }
    ∷ record_ranges sizes rows
