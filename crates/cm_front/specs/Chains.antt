-- The arena that rows give a loader: each class's record follows the one before it, or begins a
-- chunk.
use Rattle.std.specs.Prelude.{ℕ, ◌==◌, if◌then◌else◌, List, [], ◌∷◌, Option}
use Rattle.std.specs.Option.{option_map}
use Rattle.cm_arena.specs.Chains.{Filled}
use Rattle.cm_arena.specs.Placing.{with_place}
use Rattle.cm_layout.specs.declared.class_row.ClassRow.{ClassRow}
use Rattle.cm_layout.specs.declared.row.Row.{Row}
use Rattle.cm_layout.specs.Rows.{classes_in, last_chunk, used_words}

-- a loader's chain after one that it has, with the places of its classes in order
abbrev pub chain_from : List Filled → ℕ → List ClassRow → List Filled
chain_from chain u [] = chain
chain_from chain u (r ∷ rows) =
    if r.loader == u then chain_from (with_place chain r.place) u rows else chain_from chain u rows

abbrev pub chain_of : {P : Type 0} → ℕ → List (Row P) → List Filled
chain_of u rows = chain_from [] u (classes_in rows)

-- the chunk of a loader's last class, with its used words
abbrev pub top_of : {P : Type 0} → ℕ → List (Row P) → Option Filled
top_of u rows =
    option_map (λ c. record { chunk = c; used = used_words c rows })
    (last_chunk u (classes_in rows))
