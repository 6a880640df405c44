-- What is found has the requested name.
-- For `Cache::find`.
use Rattle.std.proofs.Common.{◌≡◌, ℕ, Bool, true, false, cond, List, [], ◌∷◌, Option, Some, None}
use Rattle.std.proofs.Common.{refl, sym, ◌∙◌, eqb}
use Rattle.std.specs.Prelude.{◌&&◌, IfSome, Result, Ok, Err, IfOk}
use Rattle.std.specs.Option.{option_map}
use Rattle.std.specs.Str.{bytes_eq}
use Rattle.std.proofs.lemmas.Slice.Eq.{bytes_eq-Decides}
use Rattle.std.proofs.lemmas.Option.{option_and_then_some}
use Rattle.cm_record.specs.Names.{class_name_in}
use Rattle.cm_layout.specs.declared.row.Row.{Row}
use Rattle.cm_layout.specs.declared.row.Row.TheVariants.{Loader, Class}
use Rattle.cm_layout.specs.Rows.{number_of}
use Rattle.cm_state.specs.State.{words_show, state_of, class_in, class_among}
use Rattle.cm_state.specs.Laws.{ClassesAreFound}

among : (u : ℕ) (name : List ℕ) (rows : List (Row (List ℕ))) (words : List ℕ)
    → class_among words_show u name rows ≡ Some words → class_name_in words ≡ name
among u name [] words is = absurd (cc)
among u name (Loader r ∷ rows) words is = among u name rows words is
among u name (Class r c ∷ rows) words is =
    by_test (eqb r.loader u) (bytes_eq (class_name_in c) name) refl is
    (λ later. among u name rows words later)
  where
    by_test : (loader same : Bool) → bytes_eq (class_name_in c) name ≡ same
        → cond (loader && same) (Some c) (class_among words_show u name rows) ≡ Some words
        → (class_among words_show u name rows ≡ Some words → class_name_in words ≡ name)
        → class_name_in words ≡ name
    by_test false same e is rest = rest is
    by_test true false e is rest = rest is
    by_test true true e is rest =
        let equal = (bytes_eq-Decides (class_name_in c) name).0 e in
        cc

is_named : ClassesAreFound (List ℕ) → (rows : List (Row (List ℕ))) (loader name : List ℕ)
    (words : List ℕ) → class_in (state_of words_show rows) loader name ≡ Some words
    → class_name_in words ≡ name
is_named law rows loader name words is =
    option_and_then_some (λ u. class_among words_show u name rows) (number_of loader rows) words
    (sym (law words_show rows loader name) ∙ is)
    (λ u at found. among u name rows words found)

pub found_is_named : {A E : Type 0} (value : A → List ℕ) → ClassesAreFound (List ℕ)
    → (rows : List (Row (List ℕ))) (loader name : List ℕ) (r : Result (Option A) E)
    → IfOk r (λ found. option_map value found ≡ class_in (state_of words_show rows) loader name)
    → IfOk r (λ found. IfSome found (λ x. class_name_in (value x) ≡ name))
found_is_named value law rows loader name (Ok None) is = tt
found_is_named value law rows loader name (Ok (Some x)) is =
    is_named law rows loader name (value x) (sym is)
found_is_named value law rows loader name (Err e) is = tt
