-- Texts that are cut at a byte.
-- For `parse` and others.
use Rattle.std.proofs.Common.{◌≡◌, ◌≢◌, ℕ, Bool, true, false, cond, eqb, List, [], ◌∷◌, ◌++◌, All}
use Rattle.std.proofs.Common.{refl, ap, ◌∙◌, eq-eqb, ne_eqb}
use Rattle.std.specs.List.{onto_first}
use Rattle.std.proofs.lemmas.List.Elements.{All-weaker}
use Rattle.std.proofs.lemmas.List.Splits.{slice_split_at, slice_split_none}
use Rattle.cm_lines.specs.Lines.{pieces}

pub pieces_cut : (at : ℕ) (text front back : List ℕ) → text ≡ front ++ at ∷ back
    → All (λ b. b ≢ at) front → pieces at text ≡ front ∷ pieces at back
pieces_cut at text front back e h =
    ap (pieces at) e ∙ slice_split_at (λ b. eqb b at) front at back
    (All-weaker (λ b. b ≢ at) (λ b. eqb b at ≡ false) (λ b. ne_eqb b at) front h)
    (eq-eqb at at refl)

pub pieces_none : (at : ℕ) (text : List ℕ) → All (λ b. b ≢ at) text → pieces at text ≡ text ∷ []
pieces_none at text h =
    slice_split_none (λ b. eqb b at) text
    (All-weaker (λ b. b ≢ at) (λ b. eqb b at ≡ false) (λ b. ne_eqb b at) text h)

onto_some : (b : ℕ) (parts : List (List ℕ))
    → (first : List ℕ) × (more : List (List ℕ)) × (onto_first b parts ≡ first ∷ more)
onto_some b [] = (b ∷ [], [], refl)
onto_some b (part ∷ parts) = (b ∷ part, parts, refl)

-- there is always a first part
pub pieces_some : (at : ℕ) (text : List ℕ)
    → (first : List ℕ) × (more : List (List ℕ)) × (pieces at text ≡ first ∷ more)
pieces_some at [] = ([], [], refl)
pieces_some at (b ∷ text) = chosen (eqb b at)
  where
    chosen : (t : Bool)
        → (first : List ℕ) × (more : List (List ℕ))
        × (cond t ([] ∷ pieces at text) (onto_first b (pieces at text)) ≡ first ∷ more)
    chosen true = ([], pieces at text, refl)
    chosen false = onto_some b (pieces at text)
