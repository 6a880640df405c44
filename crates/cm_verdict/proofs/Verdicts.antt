-- The verdict, step by step, and the result for it.
-- For `SecondPass::take_all`, `SecondPass::take_class`, `read_verdict` and others.
use Rattle.std.proofs.Common.{◌≡◌, ◌⊎◌, ℕ, List, [], length, Ok, Err, ap, subst, sym, ◌∙◌, inl, inr}
use Rattle.std.proofs.Common.{Bool, true, None, if◌then◌else◌}
use Rattle.std.specs.Prelude.{Result, IsErrAnd}
use Rattle.cm_class.specs.declared.class_file.ClassFile.{ClassFile}
use Rattle.cm_pool.specs.Geometry.{Sizes}
use Rattle.cm_pool.specs.declared.place.Place.{Place}
use Rattle.cm_layout.specs.declared.row.Row.{Row}
use Rattle.cm_verdict.specs.declared.fault.FileFault.{FileFault}
use Rattle.cm_verdict.specs.Faults.{◌>>=◌}
use Rattle.cm_verdict.specs.Found.{Found, found_in}
use Rattle.cm_verdict.specs.declared.fault.Damage.TheVariants as damage
use Rattle.cm_verdict.specs.Verdict.{Standing, standing, classes_found, verdict}
use Rattle.cm_verdict.specs.Verdict.{is_whole, class_kept, words_at}
use Rattle.cm_verdict.specs.declared.fault.OpenFault.{OpenFault}
use Rattle.cm_verdict.specs.declared.fault.OpenFault.TheVariants as open_fault
use Rattle.cm_verdict.specs.Opening.{IsFaultIn}
use Rattle.cm_verdict.specs.Standing.{FollowsVerdict, if_class, class_in_place}

-- a fault is passed on
pub through : {A B : Type 0} (e : OpenFault) (x : Result A FileFault) (f : A → Result B FileFault)
    → IsFaultIn e x → IsFaultIn e (x >>= f)
through (open_fault.File fault) x f told = ap (λ r. r >>= f) told
through open_fault.Device x f told = tt
through open_fault.NoMemory x f told = tt

-- the verdict has no faults of the device or of allocations
pub quiet_fault : {B : Type 0} (e : OpenFault) (x : Result B FileFault)
    → (e ≡ open_fault.Device) ⊎ (e ≡ open_fault.NoMemory) → IsFaultIn e x
quiet_fault (open_fault.File fault) x (inl e) = absurd (cc)
quiet_fault (open_fault.File fault) x (inr e) = absurd (cc)
quiet_fault open_fault.Device x h = tt
quiet_fault open_fault.NoMemory x h = tt

-- words that are no record of a class that keeps the rules
pub bad_record : (sizes : Sizes) (contents : List ℕ) (place : Place)
    → is_whole sizes (length contents) place ≡ true
    → class_kept (words_at sizes contents place) ≡ None
    → class_in_place sizes contents place ≡ Err damage.Record
bad_record sizes contents place whole none =
    let words = words_at sizes contents place in
    ap (λ (b : Bool). if b then if_class (class_kept words) else Err damage.Chunks) whole
    ∙ ap if_class none

-- the fault is returned unchanged
pub fault_told : {A B : Type 0} (Alike : A → B → Type 0) (r : Result A OpenFault) (e : OpenFault)
    (x : Result B FileFault) → IsErrAnd r (λ f. f ≡ e) → IsFaultIn e x → FollowsVerdict Alike r x
fault_told Alike (Ok value) e x none told = absurd none
fault_told Alike (Err f) e x same told = subst (λ (g : OpenFault). IsFaultIn g x) (sym same) told

abbrev second_pass : List ℕ → Found → Result Standing FileFault
second_pass contents f =
    classes_found f.sizes contents [] f.rows >>= λ rows. Ok (standing f rows)

pub no_found : (contents : List ℕ) (e : OpenFault) → IsFaultIn e (found_in contents)
    → IsFaultIn e (verdict contents)
unfolding verdict
no_found contents e told = through e (found_in contents) (second_pass contents) told

module _ (contents : List ℕ) (f : Found) (found : found_in contents ≡ Ok f) where
  behind : verdict contents ≡ second_pass contents f
  unfolding verdict
  behind = ap (λ r. r >>= second_pass contents) found

  pub no_classes : (e : OpenFault) → IsFaultIn e (classes_found f.sizes contents [] f.rows)
      → IsFaultIn e (verdict contents)
  no_classes e told =
      subst (IsFaultIn e) (sym behind)
      (through e (classes_found f.sizes contents [] f.rows) (λ rows. Ok (standing f rows)) told)

  pub stands_for : (rows : List (Row ClassFile))
      → classes_found f.sizes contents [] f.rows ≡ Ok rows
      → verdict contents ≡ Ok (standing f rows)
  stands_for rows classes = behind ∙ ap (λ r. r >>= λ l. Ok (standing f l)) classes
