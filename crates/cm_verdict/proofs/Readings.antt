-- Runs of reads, one after the other, where the fault of the last one is returned.
-- For `SecondPass::take_all`, `read_found`, `read_verdict`.
use Rattle.std.proofs.Common.{◌≡◌, Ok, Err, inr, ◌⊎◌, ⊎_elim}
use Rattle.std.specs.Prelude.{Result, IsErr, IsErrAnd}
use Rattle.cm_disk.specs.Disk.{View}
use Rattle.cm_guards.specs.Calls.{Reads}
use Rattle.cm_guards.proofs.{reads_on, reads_as}
use Rattle.cm_verdict.specs.declared.fault.OpenFault.{OpenFault}

-- the result is no fault then
pub ok_no_fault : {A : Type 0} (r : Result A OpenFault) (x : A) (f : OpenFault) → r ≡ Ok x
    → r ≡ Err f
    → ⊥
ok_no_fault r x f ok err = absurd (cc)

pub ok_no_err : {A E : Type 0} (r : Result A E) (x : A) → r ≡ Ok x → IsErr r → ⊥
ok_no_err r x ok err = absurd (cc)

module _ {D : Type 0} (view : View D) where
  pub then_reads : (a b c : D) (F G : Type 0) → (F → ⊥)
      → Reads view a b F
      → Reads view b c G
      → Reads view a c G
  then_reads a b c F G none first second =
      reads_as view a c (F ⊎ G) G (λ g. inr g)
      (λ faulted. ⊎_elim (λ f. absurd (none f)) (λ g. g) faulted)
      (reads_on view a b c F G first second)

  -- if nothing can fail any more
  pub no_more : (a b : D) (F G : Type 0) → (G → ⊥) → (F → ⊥)
      → Reads view a b F
      → Reads view a b G
  no_more a b F G never none run =
      reads_as view a b F G (λ g. absurd (never g))
      (λ f. absurd (none f)) run

  -- a fault that is passed on
  pub passed_on : {A B : Type 0} (a b : D) (r : Result A OpenFault) (s : Result B OpenFault)
      (e f : OpenFault) → r ≡ Err e → IsErrAnd s (λ g. g ≡ e)
      → Reads view a b (r ≡ Err f)
      → Reads view a b (s ≡ Err f)
  passed_on a b r (Ok value) e f was none reads = absurd none
  passed_on a b r (Err g) e f was same reads =
      reads_as view a b (r ≡ Err f) (Err g ≡ Err f)
      (λ told. cc) (λ told. cc) reads
