-- Which groups a committer takes, and what is committed after one.
use Rattle.std.specs.Prelude.{◌≡◌, ℕ, ◌+◌, ◌^◌, ◌≤◌, ◌<◌, Bool, true, ◌==◌, ◌&&◌, ◌||◌}
use Rattle.std.specs.Prelude.{nat_le, List, [], ◌∷◌, length, map}
use Rattle.cm_pool.specs.Geometry.{Sizes}
use Rattle.cm_layout.specs.declared.row.Row.{Row}
use Rattle.cm_layout.specs.declared.row.Row.TheVariants.{Loader, Class}
use Rattle.cm_layout.specs.declared.entry.Entry.{Entry}
use Rattle.cm_layout.specs.declared.entry.Entry.TheVariants as entry
use Rattle.cm_layout.specs.Names.{unload_limit}
use Rattle.cm_layout.specs.Rows.{used_words, rows_after, rows_after_all}
use Rattle.cm_layout.specs.Rules.{is_unused, is_last_chunk}
use Rattle.cm_group.specs.Groups.{Carried, Handed, entries_in, slots_taken, moved_with}
use Rattle.cm_state.specs.State.{words_show}
use Rattle.cm_state.specs.Entries.{MayFollow}
use Rattle.cm_commit.specs.Committed.{Committed, end_slot, with_group}

-- ---- an entry of a group

-- the entry, with a class's record
abbrev pub filled : Carried → Entry (List ℕ)
filled c = c.entry

-- A class's record has as many words as its row says.
abbrev pub HasOwn : Entry (List ℕ) → Type 0
HasOwn (entry.Live (Loader r)) = Unit {0}
HasOwn (entry.Live (Class r words)) = length words ≡ r.place.words
HasOwn (entry.Unload e) = Unit {0}
HasOwn (entry.Move e) = Unit {0}
HasOwn (entry.UnloadAll e) = Unit {0}

-- the entry carries the records that it needs, and no others
abbrev pub HasRecords : List (Row (List ℕ)) → Entry (List ℕ) → List (List ℕ) → Type 0
HasRecords rows e moved = HasOwn e × (moved ≡ moved_with rows e)

-- at least one loader, and no more than can be unloaded at once
abbrev pub are_some : List ℕ → Bool
are_some loaders = nat_le 1 (length loaders) && nat_le (length loaders) unload_limit

-- the same as a test, except for the records that move, which depend on other entries; and a list
-- of loaders is one that a slot has room for
abbrev pub has_own : Entry (List ℕ) → List (List ℕ) → Bool
has_own (entry.Live (Loader r)) moved = length moved == 0
has_own (entry.Live (Class r words)) moved =
    (length moved == 0) && (length words == r.place.words)
has_own (entry.Unload e) moved = length moved == 0
has_own (entry.Move e) moved = true
has_own (entry.UnloadAll e) moved = (length moved == 0) && are_some e.loaders

abbrev pub carries_own : Carried → Bool
carries_own c = has_own c.entry c.moved

-- The entry writes into no chunk that committed rows use, other than after the records on its
-- loader's last one.
abbrev pub writes_apart : {P Q : Type 0} → List (Row P) → Entry Q → Bool
writes_apart committed (entry.Live (Loader r)) = true
writes_apart committed (entry.Live (Class r p)) =
    is_unused r.place.chunk committed
    || (is_last_chunk r.loader r.place.chunk committed
    && nat_le (used_words r.place.chunk committed) r.place.offset)
writes_apart committed (entry.Unload e) = true
writes_apart committed (entry.Move e) = is_unused e.to committed
writes_apart committed (entry.UnloadAll e) = true

-- The entry keeps the rules on the rows before it, its class is new in its loader, and it writes
-- only where it may.
pub record MayJoin (sizes : Sizes) (committed rows : List (Row (List ℕ))) (n : ℕ)
    (c : Carried) : Type 0 where
  pub follows : MayFollow words_show sizes n rows (filled c)
  pub records : HasRecords rows c.entry c.moved
  pub apart : writes_apart committed c.entry ≡ true

-- the entries may join one after another, where the first has the number after n
abbrev pub MayJoinAll : Sizes → List (Row (List ℕ)) → List (Row (List ℕ)) → ℕ → List Carried
    → Type 0
MayJoinAll sizes committed rows n [] = Unit {0}
MayJoinAll sizes committed rows n (c ∷ carried) =
    MayJoin sizes committed rows n c
    × MayJoinAll sizes committed (rows_after rows (filled c)) (n + 1) carried

-- ---- a group

-- The group begins one past the last committed command, and its entries may join.
pub record MayCome (sizes : Sizes) (rows : List (Row (List ℕ))) (number : ℕ)
    (group : Handed) : Type 0 where
  pub begins : group.first ≡ number + 1
  pub ends : number + length group.entries ≤ 2 ^ 63
  pub entries : MayJoinAll sizes rows rows number group.entries

-- The same for a group that has room in the half that counts, from the slot where that ends.
pub record IsNext (c : Committed) (group : Handed) : Type 0 where
  pub begins : group.first ≡ c.number + 1
  pub ends : c.number + length group.entries ≤ 2 ^ 63
  pub entries : MayJoinAll c.sizes c.rows c.rows c.number group.entries
  pub room : end_slot c.framing + slots_taken group.entries < c.sizes.slots

-- the rows after a group, and all that is committed then
abbrev pub rows_after_group : List (Row (List ℕ)) → List Carried → List (Row (List ℕ))
rows_after_group rows carried = rows_after_all rows (map filled carried)

abbrev pub committed_after : Committed → Handed → Committed
committed_after c group = record {
  sizes = c.sizes;
  rows = rows_after_group c.rows group.entries;
  number = c.number + length group.entries;
  framing = with_group c.framing (entries_in group.entries);
}
