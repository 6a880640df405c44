use Rattle.std.proofs.Common.{◌≡◌, ◌++◌, ◌∷◌, [], List, map, reverse, refl, sym, ap, ◌∙◌}
use Rattle.std.specs.Arc.{arc_value}
use Rattle.std.proofs.lemmas.List.{map-append, reverse-append}
use Rattle.cm_front.proofs.accept.share_all.Goals as goal

map-reversed : {X Y : Type 0} (f : X → Y) (xs : List X) → map f (reverse xs) ≡ reverse (map f xs)
map-reversed f [] = refl
map-reversed {X} {Y} f (x ∷ xs) =
    ap (map f) (reverse-append (x ∷ []) xs) ∙ map-append f (reverse xs) (x ∷ [])
    ∙ ap (λ (l : List Y). l ++ f x ∷ []) (map-reversed f xs)
    ∙ sym (reverse-append (f x ∷ []) (map f xs))

pub returns : goal.returns
returns c =
    let old = c.loop-class.shared.items in
    ap (map arc_value) c.reverse.ensures.items ∙ map-reversed arc_value old
    ∙ sym (c.loop-class.invariant
    ∙ ap (λ l. l ++ reverse (map arc_value old)) c.in_default.ensures)
