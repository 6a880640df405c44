-- The gate of a new file is written.
-- For `NewFile::write_gate`.
use Rattle.std.proofs.Common.{◌≡◌, ℕ, List, [], ◌∷◌, arith, inl, sym, subst}
use Rattle.std.specs.Prelude.{Result, Ok, Err, OnOk}
use Rattle.cm_pool.specs.Geometry.{Sizes, IsGeometry}
use Rattle.cm_disk.specs.Calls.{overwritten}
use Rattle.cm_guards.specs.Gates.{Turns}
use Rattle.cm_guards.proofs.{turned}
use Rattle.cm_recover.specs.NewFile.{new_bytes, shut_bytes, IsNoCache, IsEmptyCache}
use Rattle.cm_recover.proofs.Empty.{gate_turns, shut_new, opened, length-shut}

-- if the file is there, shut
pub turns_here : (sizes : Sizes) → IsGeometry sizes → (base : List ℕ) → base ≡ shut_bytes sizes
    → Turns IsNoCache (IsEmptyCache sizes) 4095 165 base
turns_here sizes g base is =
    subst (Turns IsNoCache (IsEmptyCache sizes) 4095 165) (sym is) (gate_turns sizes g)

pub none_here : (sizes : Sizes) → IsGeometry sizes → (base : List ℕ) → base ≡ shut_bytes sizes
    → IsNoCache base
none_here sizes g base is = subst IsNoCache (sym is) (shut_new sizes g)

-- once it is written, the file is new
pub gate_done : {T E : Type 0} (r : Result T E) (sizes : Sizes) → IsGeometry sizes
    → (base now : List ℕ) → base ≡ shut_bytes sizes
    → OnOk r (now ≡ overwritten 4095 (165 ∷ []) base) → OnOk r (now ≡ new_bytes sizes)
gate_done (Ok x) sizes g base now is done =
    turned (λ l. Unit {0}) (λ l. l ≡ new_bytes sizes) 4095 165 base now
    (subst (Turns (λ l. Unit {0}) (λ l. l ≡ new_bytes sizes) 4095 165) (sym is) (record {
      inside = omega (arith, length-shut sizes g);
      either = λ b small. record { which = inl tt };
      last = opened sizes g;
    }))
    done
gate_done (Err e) sizes g base now is done = tt
