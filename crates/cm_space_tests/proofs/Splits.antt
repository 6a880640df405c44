-- A list at one of its elements.
-- For `give_held`.
use Rattle.std.proofs.Common.{◌≡◌, ℕ, suc, ◌+◌, ◌<◌, List, ◌∷◌, ◌++◌, length, get_or, take, drop}
use Rattle.std.proofs.Common.{sym, ap, ◌∙◌, arith, take-append-drop}
use Rattle.std.proofs.lemmas.List.{drop_more}

pub split_at : {X : Type 0} (xs : List X) (at : ℕ) (d : X) → at < length xs
    → xs ≡ take at xs ++ get_or xs at d ∷ drop (suc at) xs
split_at xs at d h =
    let next : at + 1 ≡ suc at = omega arith in
    sym (take-append-drop at xs) ∙ ap (λ ys. take at xs ++ ys) (drop_more xs at d h ∙ ap
    (λ k. get_or xs at d ∷ drop k xs) next)
