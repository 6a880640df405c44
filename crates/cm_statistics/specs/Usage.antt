-- How much of a region classes take, by the rows of these classes. Sizes are in bytes, of which a
-- word has eight.
use Rattle.std.specs.Prelude.{◌≡◌, ℕ, ◌+◌, ◌*◌, ◌<◌, ◌≤◌, ◌^◌, ◌==◌, Bool, true, if◌then◌else◌}
use Rattle.std.specs.Prelude.{List, [], ◌∷◌, length, map, filter, unwrap_or, Option, Some, None}
use Rattle.std.specs.List.{AllByRecursion, range_with_len, sum_by}
use Rattle.std.specs.BTreeMap as tree
use Rattle.std.specs.BTreeMap.{BTreeMap}
use Rattle.std.specs.Ordering.{nat_cmp}
use Rattle.cm_pool.specs.declared.chunk.Chunk.{Chunk}
use Rattle.cm_pool.specs.Chunks.{chunk_size, same_chunk}
use Rattle.cm_layout.specs.declared.class_row.ClassRow.{ClassRow}
use Rattle.cm_layout.specs.declared.loader_row.LoaderRow.{LoaderRow}
use Rattle.cm_layout.specs.declared.row.Row.{Row}
use Rattle.cm_layout.specs.declared.row.Row.TheVariants.{Loader, Class}
use Rattle.cm_layout.specs.Rows.{classes_in}
use Rattle.cm_statistics.specs.declared.usage.Usage.{Usage}
use Rattle.cm_statistics.specs.declared.among.Among.{Among}
use Rattle.cm_statistics.specs.declared.among.Among.TheVariants.{All, OfOrder}
use Rattle.cm_statistics.specs.declared.counting.By.{By}
use Rattle.cm_statistics.specs.declared.counting.By.TheVariants as by
use Rattle.cm_statistics.specs.declared.by_loader.LoaderUse.{LoaderUse}
use Rattle.cm_statistics.specs.declared.chunks.OwnedChunk.{OwnedChunk}

-- ---- classes

-- the record is the first on its chunk
abbrev pub begins : ClassRow → Bool
begins r = r.place.offset == 0

abbrev pub chunk_bytes : ClassRow → ℕ
chunk_bytes r = 8 * chunk_size r.place.chunk.order

abbrev pub record_bytes : ClassRow → ℕ
record_bytes r = 8 * r.place.words

-- What these classes take. Each chunk on which records lie has one that is the first there.
abbrev pub usage : List ClassRow → Usage
usage rows = record {
  classes = length rows;
  chunks = length (filter begins rows);
  owned = sum_by chunk_bytes (filter begins rows);
  used = sum_by record_bytes rows;
}

-- ---- some of them

abbrev pub of_loader : ℕ → List ClassRow → List ClassRow
of_loader u rows = filter (λ r. r.loader == u) rows

abbrev pub of_order : ℕ → List ClassRow → List ClassRow
of_order k rows = filter (λ r. r.place.chunk.order == k) rows

abbrev pub on_chunk : Chunk → List ClassRow → List ClassRow
on_chunk c rows = filter (λ r. same_chunk r.place.chunk c) rows

abbrev pub is_among : Among → ClassRow → Bool
is_among All r = true
is_among (OfOrder k) r = r.place.chunk.order == k

-- what the classes on chunks of each order take, from order 0 up to `top`
abbrev pub usage_by_order : ℕ → List ClassRow → List Usage
usage_by_order top rows = map (λ k. usage (of_order k rows)) (range_with_len 0 (top + 1))

-- ---- by rows

abbrev pub loaders_in : {P : Type 0} → List (Row P) → List LoaderRow
loaders_in [] = []
loaders_in (Loader r ∷ rows) = r ∷ loaders_in rows
loaders_in (Class r p ∷ rows) = loaders_in rows

-- a loader in memory, as its contents
pub record LoaderShown : Type 0 where
  pub number : ℕ
  pub name : List ℕ
  pub usage : Usage

abbrev pub loader_shown : LoaderUse → LoaderShown
loader_shown l = record { number = l.number; name = l.name.items; usage = l.usage }

-- what each live loader takes, in the order of the rows
abbrev pub loader_use : List ClassRow → LoaderRow → LoaderShown
loader_use classes r = record {
  number = r.number;
  name = r.name;
  usage = usage (of_loader r.number classes);
}

abbrev pub usage_by_loader : {P : Type 0} → List (Row P) → List LoaderShown
usage_by_loader rows = map (loader_use (classes_in rows)) (loaders_in rows)

-- the chunks that loaders own, in the order in which they were taken
abbrev pub owned_chunk : List ClassRow → ClassRow → OwnedChunk
owned_chunk classes r = record {
  loader = r.loader;
  chunk = r.place.chunk;
  used = (usage (on_chunk r.place.chunk classes)).used;
}

abbrev pub owned_chunks : List ClassRow → List OwnedChunk
owned_chunks classes = map (owned_chunk classes) (filter begins classes)

-- ---- counting

-- the numbers of rows have the bounds that a region has
pub record IsSmallChunk (c : Chunk) : Type 0 where
  pub root : c.root < 256
  pub order : c.order ≤ 12
  pub at : c.at < 2 ^ 32

pub record IsSmallRow (r : ClassRow) : Type 0 where
  pub chunk : IsSmallChunk r.place.chunk
  pub words : r.place.words ≤ 2 ^ 19

pub record AreSmall {P : Type 0} (rows : List (Row P)) : Type 0 where
  pub few : length (classes_in rows) ≤ 2 ^ 16
  pub each : AllByRecursion IsSmallRow (classes_in rows)

abbrev pub RowIsSmall : {P : Type 0} → Row P → Type 0
RowIsSmall (Loader r) = Unit {0}
RowIsSmall (Class r p) = IsSmallRow r

abbrev pub no_usage : Usage
no_usage = record { classes = 0; chunks = 0; owned = 0; used = 0 }

abbrev pub with_class : Usage → ClassRow → Usage
with_class u r = record {
  classes = u.classes + 1;
  chunks = u.chunks + (if begins r then 1 else 0);
  owned = u.owned + (if begins r then chunk_bytes r else 0);
  used = u.used + record_bytes r;
}

-- no sum is too great with one more class
pub record HasRoom (u : Usage) (r : ClassRow) : Type 0 where
  pub classes : u.classes + 1 < 2 ^ 64
  pub chunks : u.chunks + 1 < 2 ^ 64
  pub owned : u.owned + chunk_bytes r < 2 ^ 64
  pub used : u.used + record_bytes r < 2 ^ 64

-- the usage with the class of a row, if that is meant
abbrev pub with_row : {P : Type 0} → Usage → Among → Row P → Usage
with_row u among (Loader r) = u
with_row u among (Class r p) = if is_among among r then with_class u r else u

abbrev pub RowHasRoom : {P : Type 0} → Usage → Row P → Type 0
RowHasRoom u (Loader r) = Unit {0}
RowHasRoom u (Class r p) = IsSmallRow r × HasRoom u r

-- what was counted and what is left make all
pub record AddUp (counted left all : Usage) : Type 0 where
  pub classes : counted.classes + left.classes ≡ all.classes
  pub chunks : counted.chunks + left.chunks ≡ all.chunks
  pub owned : counted.owned + left.owned ≡ all.owned
  pub used : counted.used + left.used ≡ all.used

-- ---- counting by a number

-- a number that a chunk of a region has alone
abbrev pub chunk_key : Chunk → ℕ
chunk_key c = (c.root * 2 ^ 32 + c.at) * 256 + c.order

abbrev pub key_of : By → ClassRow → ℕ
key_of by.Loader r = r.loader
key_of by.Chunk r = chunk_key r.place.chunk

-- what is kept of a number
abbrev pub usage_kept : BTreeMap ℕ Usage → ℕ → Usage
usage_kept m k = unwrap_or (tree.get nat_cmp m k) no_usage

abbrev pub RowHasRoomIn : {P : Type 0} → BTreeMap ℕ Usage → By → Row P → Type 0
RowHasRoomIn m b (Loader r) = Unit {0}
RowHasRoomIn m b (Class r p) = IsSmallRow r × HasRoom (usage_kept m (key_of b r)) r

-- what is kept of the number k after one more row
abbrev pub row_kept : {P : Type 0} → By → Usage → Row P → ℕ → Usage
row_kept b kept (Loader r) k = kept
row_kept b kept (Class r p) k = if key_of b r == k then with_class kept r else kept

-- the chunk that a row's record is the first on
abbrev pub chunk_begun : {P : Type 0} → (ℕ → Usage) → Row P → Option OwnedChunk
chunk_begun kept (Loader r) = None
chunk_begun kept (Class r p) =
    if begins r
    then Some (record {
      loader = r.loader;
      chunk = r.place.chunk;
      used = (kept (chunk_key r.place.chunk)).used;
    })
    else None
