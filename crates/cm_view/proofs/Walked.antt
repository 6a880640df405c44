-- What is found in a file is what is found in its bytes after its sizes.
-- For `walk_bytes`.
use Rattle.std.proofs.Common.{◌≡◌, ℕ, ◌<◌, ◌≤◌, Bool, true, false, cond, List, length, take, Option}
use Rattle.std.proofs.Common.{Some, None, Ok, Err, refl, sym, ap, subst}
use Rattle.std.specs.Prelude.{Result, nat_le, IsErrAnd}
use Rattle.std.proofs.lemmas.Bool.{lt-leb, leb-true}
use Rattle.cm_pool.specs.Geometry.{Sizes}
use Rattle.cm_layout.specs.Offsets.{roots_at}
use Rattle.cm_verdict.specs.declared.fault.Damage.TheVariants as damage
use Rattle.cm_verdict.specs.declared.fault.FileFault.{FileFault}
use Rattle.cm_verdict.specs.declared.fault.FileFault.TheVariants.{NotACache, Damaged}
use Rattle.cm_verdict.specs.Faults.{◌>>=◌}
use Rattle.cm_verdict.specs.Decoding.{sizes_in}
use Rattle.cm_verdict.specs.Found.{is_cache, sizes_spelled, sizes_found, found_in}
use Rattle.cm_verdict.specs.declared.fault.OpenFault.{OpenFault}
use Rattle.cm_verdict.specs.declared.fault.OpenFault.TheVariants as open_fault
use Rattle.cm_verdict.specs.Opening.{IsFaultIn, IsAnswer}
use Rattle.cm_view.specs.declared.walking.WalkedFile.{WalkedFile}
use Rattle.cm_view.specs.Walking.{found_of, found_after_sizes}

pub short_file : (long : ℕ) (block : List ℕ) → long < 4096 → sizes_found long block ≡ Err NotACache
unfolding sizes_found
short_file long block short = rw (lt-leb 4096 long short) refl

abbrev sizes_ok : Sizes → Result Sizes FileFault
sizes_ok sizes = Ok sizes

sizes_same : (a b : Sizes) → sizes_ok a ≡ sizes_ok b → a ≡ b
sizes_same a b e = cc

-- a file whose sizes are found has both halves
pub has_halves : (long : ℕ) (block : List ℕ) (sizes : Sizes) → sizes_found long block ≡ Ok sizes
    → roots_at sizes ≤ long
unfolding sizes_found
has_halves long block sizes = by_cache (is_cache long block)
  where
    by_length : (g : Sizes) (t : Bool) → nat_le (roots_at g) long ≡ t
        → cond t (Ok g) (Err (Damaged damage.Length 0)) ≡ Ok sizes → roots_at sizes ≤ long
    by_length g true enough e =
        subst (λ (s : Sizes). roots_at s ≤ long) (sizes_same g sizes e)
        (leb-true (roots_at g) long enough)
    by_length g false enough e = absurd (cc)

    by_sizes : (o : Option Sizes) → sizes_spelled long o ≡ Ok sizes → roots_at sizes ≤ long
    by_sizes None e = absurd (cc)
    by_sizes (Some g) e = by_length g (nat_le (roots_at g) long) refl e

    by_cache : (t : Bool) → cond t (sizes_spelled long (sizes_in block)) (Err NotACache) ≡ Ok sizes
        → roots_at sizes ≤ long
    by_cache true e = by_sizes (sizes_in block) e
    by_cache false e = absurd (cc)

pub no_sizes : (contents : List ℕ) (f : FileFault)
    → sizes_found (length contents) (take 4096 contents) ≡ Err f → found_in contents ≡ Err f
unfolding found_in
no_sizes contents f e = ap (λ r. r >>= found_after_sizes contents) e

pub after_sizes : (contents : List ℕ) (sizes : Sizes)
    → sizes_found (length contents) (take 4096 contents) ≡ Ok sizes
    → found_in contents ≡ found_after_sizes contents sizes
unfolding found_in
after_sizes contents sizes e = ap (λ r. r >>= found_after_sizes contents) e

-- the fault of the sizes is returned
pub told : (contents : List ℕ) (r : Result WalkedFile OpenFault) (f : FileFault)
    → IsErrAnd r (λ e. e ≡ open_fault.File f) → found_in contents ≡ Err f
    → IsAnswer found_of r (found_in contents)
told contents (Ok file) f none e = absurd none
told contents (Err g) f same e =
    subst (λ (h : OpenFault). IsFaultIn h (found_in contents)) (sym same) e
