-- If loaders are unloaded at once, exactly these are removed.
-- For `named_loaders_go`.
use Rattle.std.proofs.Common.{◌≡◌, ℕ, Bool, true, false, cond, List, [], ◌∷◌, Option, None, refl}
use Rattle.std.proofs.Common.{ap, ◌∙◌}
use Rattle.std.specs.Prelude.{◌||◌, not, filter}
use Rattle.std.specs.List.{list_any}
use Rattle.std.specs.Str.{bytes_eq}
use Rattle.std.specs.FinMap.{get, remove}
use Rattle.cm_layout.specs.declared.row.Row.{Row}
use Rattle.cm_layout.specs.Rows.{is_of, without_loader}
use Rattle.cm_state.specs.Laws.{LoadersGo, RowsGo}
use Rattle.cm_state.proofs.Maps.{got-remove}

-- ---- names

one_of_both : {X : Type 0} (a b : Bool) (o : Option X)
    → cond b None (cond a None o) ≡ cond (a || b) None o
one_of_both true true o = refl
one_of_both true false o = refl
one_of_both false true o = refl
one_of_both false false o = refl

pub loaders_go : {A : Type 0} → LoadersGo A
loaders_go m [] name = refl
loaders_go m (x ∷ names) name =
    let others = list_any (λ y. bytes_eq y name) names in
    loaders_go (remove m x) names name
    ∙ ap (cond others None) (got-remove m x name)
    ∙ one_of_both (bytes_eq x name) others (get m name)

-- ---- rows

all_stay : {P : Type 0} (rows : List (Row P)) → rows ≡ filter (λ row. true) rows
all_stay [] = refl
all_stay (row ∷ rows) = ap (λ l. row ∷ l) (all_stay rows)

stay_of_both : {P : Type 0} (u : ℕ) (us : List ℕ) (rows : List (Row P))
    → filter (λ row. not (list_any (λ v. is_of v row) us)) (without_loader u rows)
    ≡ filter (λ row. not (list_any (λ v. is_of v row) (u ∷ us))) rows
stay_of_both u us [] = refl
stay_of_both {P} u us (row ∷ rows) =
    by_test (is_of u row) (list_any (λ v. is_of v row) us) refl (stay_of_both u us rows)
  where
    left : List (Row P)
    left = filter (λ r. not (list_any (λ v. is_of v r) us)) (without_loader u rows)

    right : List (Row P)
    right = filter (λ r. not (list_any (λ v. is_of v r) (u ∷ us))) rows

    by_test : (a b : Bool) → list_any (λ v. is_of v row) us ≡ b → left ≡ right
        → filter (λ r. not (list_any (λ v. is_of v r) us))
        (cond (not a) (row ∷ without_loader u rows) (without_loader u rows))
        ≡ cond (not (a || b)) (row ∷ right) right
    by_test true b e rest = rest
    by_test false true e rest = rw e rest
    by_test false false e rest = rw e (ap (λ l. row ∷ l) rest)

pub rows_go : {A : Type 0} → RowsGo A
rows_go [] rows = all_stay rows
rows_go (u ∷ us) rows = rows_go us (without_loader u rows) ∙ stay_of_both u us rows
