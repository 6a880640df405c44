-- The search for the records on a chunk, from the newest entry back.
use Rattle.std.specs.Prelude.{◌≡◌, ℕ, List, [], ◌∷◌, ◌++◌, map}
use Rattle.std.specs.Arc.{arc_value}
use Rattle.cm_pool.specs.declared.chunk.Chunk.{Chunk}
use Rattle.cm_group.specs.Groups.{Carried}
use Rattle.cm_commit.specs.declared.move_records.OnChunk.{OnChunk}
use Rattle.cm_commit.specs.declared.move_records.OnChunk.TheVariants.{Same, More, First, All}
use Rattle.cm_commit.specs.Joining.{records_then}

-- the last of the records is this one, and these are before it
abbrev pub EndsIn : List (List ℕ) → List ℕ → List (List ℕ) → Type 0
EndsIn records last rest = records ≡ rest ++ last ∷ []

abbrev pub DoesntEndIn : List (List ℕ) → List ℕ → Type 0
DoesntEndIn records last = (rest : List (List ℕ)) → EndsIn records last rest → ⊥

-- what an entry does to the records on a chunk
abbrev pub AreThen : Chunk → Carried → OnChunk → Type 0
AreThen c k Same = (records : List (List ℕ)) → records_then c records k.entry k.moved ≡ records
AreThen c k (More r) =
    (records : List (List ℕ)) → records_then c records k.entry k.moved ≡ records ++ r.now ∷ []
AreThen c k (First r) =
    (records : List (List ℕ)) → records_then c records k.entry k.moved ≡ r.now ∷ []
AreThen c k (All rs) =
    (records : List (List ℕ)) → records_then c records k.entry k.moved ≡ map arc_value rs.now
