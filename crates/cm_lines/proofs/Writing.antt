-- A text that is written in parts.
-- On `rest`, `part`.
use Rattle.std.proofs.Common.{◌≡◌, ℕ, List, ◌++◌, take, drop, Option, sym, ap, ◌∙◌, append_assoc}
use Rattle.std.proofs.Common.{take-append-drop}
use Rattle.std.proofs.KnownBytes.{Appends-trans}
use Rattle.std.specs.Io.KnownBytes.{Appends}

-- all but this remainder is written
pub record WrittenBut (held holds : Option (List ℕ)) (text rest : List ℕ) : Type 0 where
  pub part : List ℕ
  pub whole : text ≡ part ++ rest
  pub written : Appends held holds part

pub written_more : (a b c : Option (List ℕ)) (text rest : List ℕ) (n : ℕ) → WrittenBut a b text rest
    → Appends b c (take n rest) → WrittenBut a c text (drop n rest)
written_more a b c text rest n so more =
    record {
      part = so.part ++ take n rest;
      whole = so.whole ∙ ap (λ l. so.part ++ l) (sym (take-append-drop n rest)) ∙ sym
          (append_assoc so.part (take n rest) (drop n rest));
      written = Appends-trans a b c so.part (take n rest) so.written more;
    }
