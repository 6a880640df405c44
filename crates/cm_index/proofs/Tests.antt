-- Tests of numbers and of two tests together.
-- For `IndexBlock::sweep`, `add_entry`, `block_of` and others.
use Rattle.std.proofs.Common.{◌≡◌, ◌≢◌, ℕ, Bool, true, false, eqb, refl}
use Rattle.std.specs.Prelude.{◌&&◌}
use Rattle.std.proofs.lemmas.Bool.{eqb-true}

pub both_true : (a b : Bool) → (a && b) ≡ true → (a ≡ true) × (b ≡ true)
both_true true true h = (refl, refl)
both_true true false h = absurd (cc)
both_true false b h = absurd (cc)

pub ne-eqb : (a b : ℕ) → a ≢ b → eqb a b ≡ false
ne-eqb a b n = by_test (eqb a b) refl
  where
    by_test : (t : Bool) → eqb a b ≡ t → t ≡ false
    by_test true e = absurd (n (eqb-true a b e))
    by_test false e = refl
