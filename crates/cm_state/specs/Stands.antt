-- Which contents stand for which cache: they frame rows whose records are those of classes that
-- keep the class rules, none of them twice in a loader; the state is the map of these rows, and
-- each loader's arena has the chunks of its rows.
use Rattle.std.specs.Prelude.{◌≡◌, ℕ, ◌==◌, ◌&&◌, filter, List, [], ◌∷◌, map as map_list}
use Rattle.std.specs.FinMap as map
use Rattle.cm_class.specs.declared.class_file.ClassFile.{ClassFile}
use Rattle.cm_record.specs.Layout.{lay}
use Rattle.cm_pool.specs.Geometry.{Sizes}
use Rattle.cm_pool.specs.declared.chunk.Chunk.{Chunk}
use Rattle.cm_layout.specs.declared.class_row.ClassRow.{ClassRow}
use Rattle.cm_layout.specs.declared.row.Row.{Row}
use Rattle.cm_layout.specs.declared.row.Row.TheVariants.{Loader, Class}
use Rattle.cm_layout.specs.Rows.{EachClass, classes_in, rows_with}
use Rattle.cm_layout.specs.Frames.{Frames}
use Rattle.cm_rules.specs.Keeps.{KeepsRules}
use Rattle.cm_state.specs.State.{ByName, CacheState, NamesDiffer, class_shows, state_of}

-- each class keeps the rules
abbrev pub EachKeepsRules : List (Row ClassFile) → Type 0
EachKeepsRules rows = EachClass KeepsRules rows

-- a loader's chunks, in the order of their first records
abbrev pub chunks_of : ℕ → List ClassRow → List Chunk
chunks_of u rows =
    map_list (λ r. r.place.chunk) (filter (λ r. (r.loader == u) && (r.place.offset == 0)) rows)

-- the chunks of each loader, by its name
abbrev pub Arenas : Type 0
Arenas = ByName (List Chunk)

abbrev pub arenas_among : List ClassRow → List (Row ClassFile) → Arenas
arenas_among classes [] = map.empty
arenas_among classes (Loader r ∷ rows) =
    map.insert (arenas_among classes rows) r.name (chunks_of r.number classes)
arenas_among classes (Class r c ∷ rows) = arenas_among classes rows

-- The contents stand for this state, these arenas and this number.
pub record Stands (sizes : Sizes) (contents : List ℕ) (m : CacheState) (arenas : Arenas)
    (n : ℕ) : Type 0 where
  pub rows : List (Row ClassFile)
  pub framed : Frames sizes contents (rows_with lay rows) n
  pub kept : EachKeepsRules rows
  pub differ : NamesDiffer class_shows [] rows
  pub state_is : m ≡ state_of class_shows rows
  pub arenas_are : arenas ≡ arenas_among (classes_in rows) rows
