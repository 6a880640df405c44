-- Changes one after another: later ones continue from where the earlier ones lead.
-- For `changes_go_on`.
use Rattle.std.proofs.Common.{◌≡◌, ℕ, ◌+◌, List, [], ◌∷◌, ◌++◌, length, Option, Some, None, Result}
use Rattle.std.proofs.Common.{Ok, Err, refl, ap, arith}
use Rattle.std.specs.Option.{option_and_then}
use Rattle.cm_pool.specs.Geometry.{Sizes}
use Rattle.cm_state.specs.State.{Loaders, Shows}
use Rattle.cm_state.specs.Step.{Change, Cause, step}
use Rattle.cm_state.specs.Fold.{fold}

pub fold_both : {A : Type 0} (shows : Shows A) (sizes : Sizes) (m : Loaders A) (n : ℕ)
    (front behind : List (Change A))
    → fold shows sizes m n (front ++ behind)
    ≡ option_and_then (λ (p : Loaders A × ℕ). fold shows sizes p.0 p.1 behind)
    (fold shows sizes m n front)
fold_both {A} shows sizes m n [] behind = refl
fold_both {A} shows sizes m n (change ∷ front) behind =
    by_step (step shows sizes m n change) (λ next. fold_both shows sizes next (n + 1) front behind)
  where
    by_step : (r : Result (Loaders A) Cause)
        → ((next : Loaders A)
        → fold shows sizes next (n + 1) (front ++ behind)
        ≡ option_and_then (λ (p : Loaders A × ℕ). fold shows sizes p.0 p.1 behind)
        (fold shows sizes next (n + 1) front))
        → elim r [ Ok next ↦ fold shows sizes next (n + 1) (front ++ behind) | Err cause ↦ None ]
        ≡ option_and_then (λ (p : Loaders A × ℕ). fold shows sizes p.0 p.1 behind)
        (elim r [ Ok next ↦ fold shows sizes next (n + 1) front | Err cause ↦ None ])
    by_step (Ok next) later = later next
    by_step (Err cause) later = refl

pub fold_number : {A : Type 0} (shows : Shows A) (sizes : Sizes) (m : Loaders A) (n : ℕ)
    (changes : List (Change A)) (last : Loaders A) (number : ℕ)
    → fold shows sizes m n changes ≡ Some (last, number) → number ≡ n + length changes
fold_number {A} shows sizes m n [] last number is = omega (arith, number_is m last n number is)
  where
    some_is : {B : Type 0} (x y : B) → Some x ≡ Some y → x ≡ y
    some_is x y e = cc

    number_is : (m last : Loaders A) (n number : ℕ)
        → ◌≡◌ {A = Option (Loaders A × ℕ)} (Some (m, n)) (Some (last, number)) → n ≡ number
    number_is m last n number e =
        ap (λ (p : Loaders A × ℕ). p.1) (some_is {B = Loaders A × ℕ} (m, n) (last, number) e)
fold_number {A} shows sizes m n (change ∷ changes) last number is =
    by_step (step shows sizes m n change)
    (λ next. fold_number shows sizes next (n + 1) changes last number) is
  where
    by_step : (r : Result (Loaders A) Cause)
        → ((next : Loaders A)
        → ◌≡◌ {A = Option (Loaders A × ℕ)} (fold shows sizes next (n + 1) changes)
        (Some (last, number)) → number ≡ n + 1 + length changes)
        → ◌≡◌ {A = Option (Loaders A × ℕ)}
        (elim r [ Ok next ↦ fold shows sizes next (n + 1) changes | Err cause ↦ None ])
        (Some (last, number)) → number ≡ n + length (change ∷ changes)
    by_step (Ok next) later e = omega (arith, later next e)
    by_step (Err cause) later e = absurd cc
