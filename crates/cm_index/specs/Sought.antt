-- What is searched for in an index, as its key.
use Rattle.std.specs.Prelude.{◌≡◌, ℕ, List, ◌∷◌}
use Rattle.cm_index.specs.declared.sought.Name.{Name}
use Rattle.cm_index.specs.declared.sought.Name.TheVariants.{Bytes, Of}
use Rattle.cm_index.specs.declared.sought.Sought.{Sought}
use Rattle.cm_index.specs.Index.{rank, key}

abbrev pub name_sought : {P : Type 0} → (P → List ℕ) → Name P → List ℕ
name_sought name_of (Bytes bytes) = bytes.now
name_sought name_of (Of class) = name_of class.now

abbrev pub key_sought : {P : Type 0} → (P → List ℕ) → Sought P → List ℕ
key_sought name_of s = s.fingerprint ∷ rank s.owner ∷ name_sought name_of s.name

-- the fingerprint is that of the owner and the name
pub record IsKey {P : Type 0} (mark : ℕ → List ℕ → ℕ) (name_of : P → List ℕ)
    (s : Sought P) : Type 0 where
  pub is : key_sought name_of s ≡ key mark (rank s.owner) (name_sought name_of s.name)
