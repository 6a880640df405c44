-- The numbers of the loaders of several names, one after another.
-- For `Front::numbers_of`, `Front::unload_all`.
use Rattle.std.proofs.Common.{◌≡◌, ℕ, suc, Bool, true, false, List, [], ◌∷◌, ◌++◌, length, Option}
use Rattle.std.proofs.Common.{Some, None, refl, sym, ap, subst, ◌∙◌, append_assoc, eqb}
use Rattle.std.specs.Prelude.{not}
use Rattle.std.specs.List.{list_all}
use Rattle.std.specs.Option.{option_map, option_and_then}
use Rattle.std.specs.Str.{bytes_eq}
use Rattle.std.specs.Cmp.Lexicographic.{bytes_decides}
use Rattle.std.proofs.lemmas.Bool.{eqb-true, and_parts}
use Rattle.cm_layout.specs.declared.row.Row.{Row}
use Rattle.cm_layout.specs.Rows.{name_of, number_of}
use Rattle.cm_layout.specs.Rules.{are_live, differ}
use Rattle.cm_layout.specs.Laws.{LoadersAreOwn}
use Rattle.cm_state.specs.Step.{names_differ}
use Rattle.cm_state.specs.Entries.{names_of}
use Rattle.cm_front.specs.Front.{FrontState, IsFront}
use Rattle.cm_front.specs.Refusing.{numbers_of}
use Rattle.cm_front.proofs.Causes.{AreAsked}
use Rattle.cm_front.proofs.GoingsClass.{number_lives, name_is}

-- what was found so far, before what is found later
abbrev pub with_front : List ℕ → Option (List ℕ) → Option (List ℕ)
with_front front found = option_map (λ us. front ++ us) found

pub number-more : {A : Type 0} (front : List ℕ) (x : List ℕ) (xs : List (List ℕ))
    (rows : List (Row A)) (u : ℕ)
    → number_of x rows ≡ Some u
    → with_front front (numbers_of (x ∷ xs) rows)
    ≡ with_front (front ++ u ∷ []) (numbers_of xs rows)
number-more front x xs rows u e =
    ap (λ o. with_front front (option_and_then (λ v. option_map (λ us. v ∷ us)
    (numbers_of xs rows)) o)) e
    ∙ by_rest (numbers_of xs rows)
  where
    by_rest : (o : Option (List ℕ)) → with_front front (option_map (λ us. u ∷ us) o)
        ≡ with_front (front ++ u ∷ []) o
    by_rest None = refl
    by_rest (Some us) = ap Some (sym (append_assoc front (u ∷ []) us))

-- these are the numbers of loaders of these names, one by one
abbrev NumbersOf : List (Row (List ℕ)) → List (List ℕ) → List ℕ → Type 0
NumbersOf rows [] [] = Unit {0}
NumbersOf rows (x ∷ xs) (u ∷ us) = (number_of x rows ≡ Some u) × NumbersOf rows xs us
NumbersOf rows _ _ = ⊥

numbers-found : (rows : List (Row (List ℕ))) (xs : List (List ℕ)) (us : List ℕ)
    → numbers_of xs rows ≡ Some us → NumbersOf rows xs us
numbers-found rows [] us e = subst (NumbersOf rows []) (same_list [] us e) tt
  where
    same_list : (vs ws : List ℕ) → Some vs ≡ Some ws → vs ≡ ws
    same_list vs ws e = cc
numbers-found rows (x ∷ xs) us e =
    by_answer (number_of x rows) refl (numbers_of xs rows) (λ vs. numbers-found rows xs vs) e
  where
    same_list : (vs ws : List ℕ) → Some vs ≡ Some ws → vs ≡ ws
    same_list vs ws e = cc

    by_answer : (o : Option ℕ) → number_of x rows ≡ o → (r : Option (List ℕ))
        → ((vs : List ℕ) → r ≡ Some vs → NumbersOf rows xs vs)
        → option_and_then (λ u. option_map (λ vs. u ∷ vs) r) o ≡ Some us
        → NumbersOf rows (x ∷ xs) us
    by_answer None is r rest e = absurd (cc)
    by_answer (Some u) is None rest e = absurd (cc)
    by_answer (Some u) is (Some vs) rest e =
        subst (NumbersOf rows (x ∷ xs)) (same_list (u ∷ vs) us e) (is, rest vs refl)

numbers-count : (rows : List (Row (List ℕ))) (xs : List (List ℕ)) (us : List ℕ)
    → NumbersOf rows xs us → length us ≡ length xs
numbers-count rows [] [] h = refl
numbers-count rows [] (u ∷ us) h = absurd h
numbers-count rows (x ∷ xs) [] h = absurd h
numbers-count rows (x ∷ xs) (u ∷ us) h = ap suc (numbers-count rows xs us h.1)

numbers-live : (rows : List (Row (List ℕ))) (xs : List (List ℕ)) (us : List ℕ)
    → NumbersOf rows xs us → are_live us rows ≡ true
numbers-live rows [] [] h = refl
numbers-live rows [] (u ∷ us) h = absurd h
numbers-live rows (x ∷ xs) [] h = absurd h
numbers-live rows (x ∷ xs) (u ∷ us) h =
    rw (number_lives x u rows h.0) (numbers-live rows xs us h.1)

-- a loader has one name
abbrev NamesAre : List (Row (List ℕ)) → Type 0
NamesAre rows = (x : List ℕ) (u : ℕ) → number_of x rows ≡ Some u → name_of u rows ≡ Some x

numbers-named : (rows : List (Row (List ℕ))) (xs : List (List ℕ)) (us : List ℕ) → NamesAre rows
    → NumbersOf rows xs us → names_of rows us ≡ Some xs
numbers-named rows [] [] named h = refl
numbers-named rows [] (u ∷ us) named h = absurd h
numbers-named rows (x ∷ xs) [] named h = absurd h
numbers-named rows (x ∷ xs) (u ∷ us) named h =
    ap (option_and_then (λ y. option_map (λ ys. y ∷ ys) (names_of rows us))) (named x u h.0)
    ∙ ap (option_map (λ ys. x ∷ ys)) (numbers-named rows xs us named h.1)

-- loaders of different names have different numbers
number-apart : (rows : List (Row (List ℕ))) (x : List ℕ) (u : ℕ) (xs : List (List ℕ))
    (us : List ℕ)
    → NamesAre rows → number_of x rows ≡ Some u
    → list_all (λ y. not (bytes_eq x y)) xs ≡ true → NumbersOf rows xs us
    → list_all (λ v. not (eqb u v)) us ≡ true
number-apart rows x u [] [] named e apart h = refl
number-apart rows x u [] (v ∷ us) named e apart h = absurd h
number-apart rows x u (y ∷ xs) [] named e apart h = absurd h
number-apart rows x u (y ∷ xs) (v ∷ us) named e apart h =
    let parts = and_parts (not (bytes_eq x y)) (list_all (λ z. not (bytes_eq x z)) xs) apart in
    rw (by_test (eqb u v) refl parts.0) (number-apart rows x u xs us named e parts.1 h.1)
  where
    same_name : (a b : List ℕ) → Some a ≡ Some b → a ≡ b
    same_name a b e = cc

    not_both : (t : Bool) → t ≡ true → not t ≡ true → ⊥
    not_both t p q = absurd (cc)

    by_test : (t : Bool) → eqb u v ≡ t → not (bytes_eq x y) ≡ true → t ≡ false
    by_test true is other =
        let same : u ≡ v = eqb-true u v is in
        let named_same : x ≡ y =
        same_name x y (sym (named x u e) ∙ ap (λ k. name_of k rows) same ∙ named y v h.0) in
        absurd (not_both (bytes_eq x y) ((bytes_decides x y).1 named_same) other)
    by_test false is other = refl

numbers-differ : (rows : List (Row (List ℕ))) (xs : List (List ℕ)) (us : List ℕ) → NamesAre rows
    → names_differ xs ≡ true → NumbersOf rows xs us → differ us ≡ true
numbers-differ rows [] [] named apart h = refl
numbers-differ rows [] (u ∷ us) named apart h = absurd h
numbers-differ rows (x ∷ xs) [] named apart h = absurd h
numbers-differ rows (x ∷ xs) (u ∷ us) named apart h =
    let parts = and_parts (list_all (λ y. not (bytes_eq x y)) xs) (names_differ xs) apart in
    rw (number-apart rows x u xs us named h.0 parts.0 h.1)
    (numbers-differ rows xs us named parts.1 h.1)

-- what is known of the numbers that are returned
pub record AreFound (s : FrontState) (xs : List (List ℕ)) (us : List ℕ) : Type 0 where
  pub count : length us ≡ length xs
  pub live : are_live us s.rows ≡ true
  pub differ : differ us ≡ true
  pub named : names_of s.rows us ≡ Some xs

pub are_found : LoadersAreOwn → (s : FrontState) (xs : List (List ℕ)) (us : List ℕ) → IsFront s
    → AreAsked s xs us → AreFound s xs us
are_found own s xs us f asked =
    let found = numbers-found s.rows xs us asked.found in
    let named : NamesAre s.rows = λ x u e. name_is own s x u f e in
    record {
      count = numbers-count s.rows xs us found;
      live = numbers-live s.rows xs us found;
      differ = numbers-differ s.rows xs us named asked.differ found;
      named = numbers-named s.rows xs us named found;
    }
