-- The fingerprint of a name and of its owner.
use Rattle.std.specs.Prelude.{ℕ, ◌%◌, ◌^◌, List}
use Rattle.cm_record.specs.Fingerprints.{fingerprint}

-- the fingerprint of an owner's rank and a name
unfoldable pub mark_of : ℕ → List ℕ → ℕ
mark_of owner name = fingerprint (owner % 2 ^ 64) name
