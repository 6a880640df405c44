-- Lines that are taken one after another.
-- On `TakesLines`, `lines_of`, `ScriptBegins`.
use Rattle.std.proofs.Common.{◌≡◌, ℕ, List, [], ◌++◌, Option, Some, None, refl, sym, ap, ◌∙◌}
use Rattle.std.proofs.Common.{append_assoc, append-nil}
use Rattle.std.specs.Option.{IfSome}
use Rattle.cm_lines.specs.Lines.{lines_of}
use Rattle.cm_lines.specs.Streams.{TakesLines, HasNoLine, ScriptBegins}

pub takes_none : (a : Option (List ℕ)) → TakesLines a a []
takes_none None = tt
takes_none (Some script) = refl

pub takes_more : (a b c : Option (List ℕ)) (lines more : List (List ℕ)) → TakesLines a b lines
    → TakesLines b c more → TakesLines a c (lines ++ more)
takes_more None b c lines more p q = tt
takes_more (Some x) None c lines more p q = absurd p
takes_more (Some x) (Some y) None lines more p q = absurd q
takes_more (Some x) (Some y) (Some z) lines more p q =
    p ∙ ap (λ l. lines ++ l) q ∙ sym (append_assoc lines more (lines_of z))

pub takes_all : (a b : Option (List ℕ)) (lines : List (List ℕ)) → TakesLines a b lines → HasNoLine b
    → IfSome a (λ text. lines ≡ lines_of text)
takes_all None b lines p none = tt
takes_all (Some x) None lines p none = absurd p
takes_all (Some x) (Some y) lines p none = sym (p ∙ ap (λ l. lines ++ l) none ∙ append-nil lines)

pub begins_with : (a b : Option (List ℕ)) (lines : List (List ℕ)) → TakesLines a b lines
    → ScriptBegins a lines
begins_with None b lines p = tt
begins_with (Some x) None lines p = absurd p
begins_with (Some x) (Some y) lines p = (lines_of y, p)

pub begins_more : (a b : Option (List ℕ)) (lines more : List (List ℕ)) → TakesLines a b lines
    → ScriptBegins b more → ScriptBegins a (lines ++ more)
begins_more None b lines more p q = tt
begins_more (Some x) None lines more p q = absurd p
begins_more (Some x) (Some y) lines more p q =
    (q.0, p ∙ ap (λ l. lines ++ l) q.1 ∙ sym (append_assoc lines more q.0))

-- the lines after those that were taken
pub behind : Option (List ℕ) → List (List ℕ)
behind None = []
behind (Some script) = lines_of script

pub all_lines : (a b : Option (List ℕ)) (lines : List (List ℕ)) → TakesLines a b lines
    → IfSome a (λ text. lines ++ behind b ≡ lines_of text)
unfolding behind
all_lines None b lines p = tt
all_lines (Some x) None lines p = absurd p
all_lines (Some x) (Some y) lines p = sym p
