use Rattle.std.proofs.Common.{◌≡◌, ℕ, List, [], ◌∷◌, ◌++◌, Option, Some, None, Ok, ap, sym, refl}
use Rattle.std.proofs.Common.{◌∙◌, append_assoc}
use Rattle.std.specs.Option.{option_map}
use Rattle.cm_lines.specs.Escapes.{named_by, spelled_from, spelled_after}
use Rattle.cm_lines.specs.declared.escape.Awaited.TheVariants.{Any}
use Rattle.cm_lines.proofs.escape.advance.Goals as goal

named_by-push : (front : List ℕ) (b : ℕ) (o : Option (List ℕ))
    → named_by (front ++ b ∷ []) o ≡ named_by front (option_map (λ n. b ∷ n) o)
named_by-push front b None = refl
named_by-push front b (Some n) = ap Some (append_assoc front (b ∷ []) n)

pub returns-in-Ok-Awaits-clause-spelled : goal.returns-in-Ok-Awaits-clause-spelled
returns-in-Ok-Awaits-clause-spelled c text =
    let step = c.in-Ok-Awaits.ensures.spelled text ∙ ap (λ r. spelled_after (Ok r) text)
    c.in-Ok-Awaits.field-0-is in
    ap (named_by c.args.name.now.items) (sym step)

pub returns-in-Ok-clause-spelled : goal.returns-in-Ok-clause-spelled
returns-in-Ok-clause-spelled c text =
    let step = c.in-Ok-Byte.ensures.spelled text ∙ ap (λ r. spelled_after (Ok r) text)
    c.in-Ok-Byte.field-0-is in
    ap (λ front. named_by front (spelled_from Any text)) c.in-Ok.ensures.items
    ∙ named_by-push c.args.name.now.items c.in-Ok-Byte.value (spelled_from Any text) ∙ ap
    (named_by c.args.name.now.items) (sym step)
