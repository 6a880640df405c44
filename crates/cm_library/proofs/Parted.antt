-- Works with their passes, and outputs parted from them.
-- For `do_works`.
use Rattle.std.proofs.Common.{◌≡◌, suc, List, [], ◌∷◌, map, length, refl, sym, subst, arith}
use Rattle.std.proofs.Common.{Result, Ok, Err, IfOk}
use Rattle.std.specs.Prelude.{OnOk}
use Rattle.std.specs.Global.{Vec}
use Rattle.std.proofs.lemmas.List.Elements.{All-nil, All-cons, All-head, All-tail}
use Rattle.std.specs.List.{All, zip}
use Rattle.cm_cache.specs.Shared.{PassState}
use Rattle.cm_library.specs.Running.{EachTwo, KeepsEach}

-- each worker's output and pass are put at its place in two lists
module _ {U W D T : Type 0} (work : U → W) (output : D → T) (pass : D → PassState)
    (keeps : W → T → PassState → Type 0) where
  abbrev Kept : U → D → Type 0
  Kept u d = keeps (work u) (output d) (pass d)

  each : (workers : List U) (all : List D) → EachTwo Kept workers all
      → KeepsEach keeps (map work workers) (map output all) (map pass all)
  each [] [] h = tt
  each [] (d ∷ ds) h = let same = h.0 in absurd (omega (arith, same))
  each (u ∷ us) [] h = let same = h.0 in absurd (omega (arith, same))
  each (u ∷ us) (d ∷ ds) h = (
    h.1 0 u d (omega arith),
    each us ds (
      (let same = h.0 in omega (arith, same)),
      (λ k x y below. h.1 (suc k) x y (omega (arith, below))),
    ),
  )

  pub parted : {E : Type 0} (workers : List U) (all : List D) (works : List W)
      (outputs : Result (Vec T) E) (passes : List PassState) → map work workers ≡ works
      → IfOk outputs (λ v. v.items ≡ map output all) → OnOk outputs (passes ≡ map pass all)
      → EachTwo Kept workers all → IfOk outputs (λ v. KeepsEach keeps works v.items passes)
  parted workers all works (Ok outputs) passes ws os ps h =
      subst (λ (x : List W × (List T × List PassState)). KeepsEach keeps x.0 x.1.0 x.1.1)
      (λ i. (ws i, (sym os i, sym ps i))) (each workers all h)
  parted workers all works (Err e) passes ws os ps h = tt

-- works that were given a pass each
pub works_of : {U W P : Type 0} (work : U → W) (worker : W × P → U)
    → ((p : W × P) → work (worker p) ≡ p.0) → (works : List W) (passes : List P)
    → length works ≡ length passes → map work (map worker (zip works passes)) ≡ works
works_of work worker is [] passes same = refl
works_of work worker is (w ∷ ws) [] same = absurd (omega (arith, same))
works_of work worker is (w ∷ ws) (p ∷ ps) same =
    λ i. is (w, p) i ∷ works_of work worker is ws ps (omega (arith, same)) i

module _ {D T : Type 0} (work : D → T) (May : T → Type 0) where
  of_each : (all : List D) → All May (map work all) → All (λ (d : D). May (work d)) all
  of_each [] h = All-nil (λ (d : D). May (work d))
  of_each (d ∷ ds) h =
      All-cons (λ (x : D). May (work x)) d ds (All-head May (work d) (map work ds) h)
      (of_each ds (All-tail May (work d) (map work ds) h))

  pub given : (all : List D) (works : List T) → map work all ≡ works → All May works
      → All (λ (d : D). May (work d)) all
  given all works is h = of_each all (subst (λ xs. All May xs) (sym is) h)
