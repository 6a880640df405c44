-- A class beside the one that a cache has.
use Rattle.std.specs.Prelude.{◌≡◌, ◌⊎◌, ℕ, ℤ, pos, List, Option, Some, None}
use Rattle.cm_commands.specs.Machine.{Machine}
use Rattle.cm_handover.specs.Laws.{Finds}
use Rattle.cm_stepped.specs.declared.stepped.SteppedSession.{SteppedSession}
use Rattle.cm_stepped.specs.Stepping.{SteppedMatches}
use Rattle.cm_core.specs.declared.inner.Inner.{Inner}
use Rattle.cm_core.specs.declared.inner.Inner.TheVariants.{Cache, Calls, Prepared, Record, Names}
use Rattle.cm_core.specs.Calls.{DeferredDisk}

-- what is told of the record that was found, and this one
abbrev pub Compared : Option (List ℕ) → List ℕ → ℤ → Type 0
Compared None words status = status ≡ pos 24
Compared (Some found) words status =
    ((status ≡ pos 0) × (found ≡ words)) ⊎ ((status ≡ pos 28) × (found ≡ words → ⊥))

-- the class of this name that the loader has is the one with these words, or another, or there is
-- none
pub record Compares (cache : SteppedSession DeferredDisk) (loader name words : List ℕ) (status : ℤ)
    : Type 0 where
  pub answer : Option (List ℕ)
  pub finds : (k : Machine) → SteppedMatches k cache
      → Finds cache.session.committer.sizes k loader name answer
  pub told : Compared answer words status

abbrev pub ComparesIn : Inner → List ℕ → List ℕ → List ℕ → ℤ → Type 0
ComparesIn (Cache cache) loader name words status = Compares cache loader name words status
ComparesIn (Calls calls) loader name words status = status ≡ pos 25
ComparesIn (Prepared ready) loader name words status = status ≡ pos 25
ComparesIn (Record share) loader name words status = status ≡ pos 25
ComparesIn (Names names) loader name words status = status ≡ pos 25
