-- What the state of rows holds, and how it changes with the rows.
-- For `rows_tell_state` and others.
use Rattle.std.proofs.Common.{◌≡◌, ℕ, Bool, true, false, cond, List, [], ◌∷◌, ◌++◌}
use Rattle.std.proofs.Common.{Option, Some, None, inl, inr, refl, sym, ap, subst, ◌∙◌, eqb, is_some}
use Rattle.std.specs.Prelude.{◌&&◌, not, unwrap_or}
use Rattle.std.specs.Option.{option_map, option_and_then}
use Rattle.std.specs.Str.{bytes_eq}
use Rattle.std.specs.Ordering.{nat_cmp}
use Rattle.std.specs.Cmp.Lexicographic.{slice_cmp, bytes_decides}
use Rattle.std.specs.FinMap.{get, insert, remove, empty, get-empty}
use Rattle.std.proofs.lemmas.Bool.{eqb-true, eq-eqb}
use Rattle.cm_pool.specs.declared.chunk.Chunk.{Chunk}
use Rattle.cm_pool.specs.Chunks.{same_chunk}
use Rattle.cm_pool.specs.Lists.{Among}
use Rattle.cm_layout.specs.declared.loader_row.LoaderRow.{LoaderRow}
use Rattle.cm_layout.specs.declared.class_row.ClassRow.{ClassRow}
use Rattle.cm_layout.specs.declared.row.Row.{Row}
use Rattle.cm_layout.specs.declared.row.Row.TheVariants.{Loader, Class}
use Rattle.cm_layout.specs.Rows.{number_of, classes_in, without_loader, moved}
use Rattle.cm_layout.specs.Loaders.{LoadersDiffer}
use Rattle.cm_layout.proofs.{number-moved}
use Rattle.cm_state.specs.State.{ByName, Shows, class_in, classes_of, class_among}
use Rattle.cm_state.specs.State.{loaders_among, state_of}
use Rattle.cm_state.specs.Step.{with_loader, with_class}
use Rattle.cm_state.proofs.Maps.{got-insert, got-remove, same}

-- ---- what is found

pub class_found : {A : Type 0} (shows : Shows A) (u : ℕ) (rows : List (Row A)) (name : List ℕ)
    → get (classes_of shows u rows) name ≡ class_among shows u name rows
class_found shows u [] name = get-empty (slice_cmp nat_cmp) name
class_found shows u (Loader r ∷ rows) name = class_found shows u rows name
class_found {A} shows u (Class r c ∷ rows) name =
    by_test (eqb r.loader u) (class_found shows u rows name)
  where
    by_test : (t : Bool)
        → get (classes_of shows u rows) name ≡ class_among shows u name rows
        → get (cond t (insert (classes_of shows u rows) (shows.name c) c) (classes_of shows u rows))
        name
        ≡ cond (t && bytes_eq (shows.name c) name) (Some c) (class_among shows u name rows)
    by_test true rest =
        got-insert (classes_of shows u rows) (shows.name c) c name
        ∙ ap (cond (bytes_eq (shows.name c) name) (Some c)) rest
    by_test false rest = rest

pub loader_found : {A : Type 0} (shows : Shows A) (all rows : List (Row A)) (x : List ℕ)
    → get (loaders_among shows all rows) x
    ≡ option_map (λ u. classes_of shows u all) (number_of x rows)
loader_found shows all [] x = get-empty (slice_cmp nat_cmp) x
loader_found {A} shows all (Loader r ∷ rows) x =
    got-insert (loaders_among shows all rows) r.name (classes_of shows r.number all) x
    ∙ by_test (bytes_eq r.name x) (loader_found shows all rows x)
  where
    by_test : (t : Bool)
        → get (loaders_among shows all rows) x
        ≡ option_map (λ u. classes_of shows u all) (number_of x rows)
        → cond t (Some (classes_of shows r.number all)) (get (loaders_among shows all rows) x)
        ≡ option_map (λ u. classes_of shows u all) (cond t (Some r.number) (number_of x rows))
    by_test true rest = refl
    by_test false rest = rest
loader_found shows all (Class r c ∷ rows) x = loader_found shows all rows x

pub class_in_rows : {A : Type 0} (shows : Shows A) (rows : List (Row A)) (x name : List ℕ)
    → class_in (state_of shows rows) x name
    ≡ option_and_then (λ u. class_among shows u name rows) (number_of x rows)
class_in_rows {A} shows rows x name =
    ap (option_and_then (λ (classes : ByName A). get classes name)) (loader_found shows rows rows x)
    ∙ by_number (number_of x rows)
  where
    by_number : (o : Option ℕ)
        → option_and_then (λ (classes : ByName A). get classes name)
        (option_map (λ u. classes_of shows u rows) o)
        ≡ option_and_then (λ u. class_among shows u name rows) o
    by_number (Some u) = class_found shows u rows name
    by_number None = refl

pub is_loader_found : {A : Type 0} (shows : Shows A) (rows : List (Row A)) (x : List ℕ)
    → is_some (get (state_of shows rows) x) ≡ is_some (number_of x rows)
is_loader_found {A} shows rows x =
    ap is_some (loader_found shows rows rows x) ∙ by_number (number_of x rows)
  where
    by_number : (o : Option ℕ)
        → is_some (option_map (λ u. classes_of shows u rows) o) ≡ is_some o
    by_number (Some u) = refl
    by_number None = refl

-- two lists of rows with the same loaders, each with the same classes
pub same_state : {A : Type 0} (shows : Shows A) (xs ys : List (Row A))
    → ((x : List ℕ) → number_of x xs ≡ number_of x ys)
    → ((u : ℕ) → classes_of shows u xs ≡ classes_of shows u ys)
    → state_of shows xs ≡ state_of shows ys
same_state {A} shows xs ys numbers classes =
    same (state_of shows xs) (state_of shows ys) (λ x.
    loader_found shows xs xs x
    ∙ (ap (option_map (λ u. classes_of shows u xs)) (numbers x)
    ∙ (by_number (number_of x ys) ∙ sym (loader_found shows ys ys x))))
  where
    by_number : (o : Option ℕ)
        → option_map (λ u. classes_of shows u xs) o ≡ option_map (λ u. classes_of shows u ys) o
    by_number (Some u) = ap Some (classes u)
    by_number None = refl

-- ---- one row more

or_else : {A : Type 0} → Option A → Option A → Option A
or_else (Some a) o = Some a
or_else None o = o

or_none : {A : Type 0} (o : Option A) → or_else o None ≡ o
unfolding or_else
or_none (Some a) = refl
or_none None = refl

number_more : {A : Type 0} (x : List ℕ) (rows : List (Row A)) (row : Row A)
    → number_of x (rows ++ row ∷ []) ≡ or_else (number_of x rows) (number_of x (row ∷ []))
unfolding or_else
number_more x [] row = refl
number_more {A} x (Loader r ∷ rows) row = by_test (bytes_eq r.name x) (number_more x rows row)
  where
    by_test : (t : Bool)
        → number_of x (rows ++ row ∷ []) ≡ or_else (number_of x rows) (number_of x (row ∷ []))
        → cond t (Some r.number) (number_of x (rows ++ row ∷ []))
        ≡ or_else (cond t (Some r.number) (number_of x rows)) (number_of x (row ∷ []))
    by_test true rest = refl
    by_test false rest = rest
number_more x (Class r c ∷ rows) row = number_more x rows row

class_more : {A : Type 0} (shows : Shows A) (u : ℕ) (name : List ℕ) (rows : List (Row A))
    (row : Row A)
    → class_among shows u name (rows ++ row ∷ [])
    ≡ or_else (class_among shows u name rows) (class_among shows u name (row ∷ []))
unfolding or_else
class_more shows u name [] row = refl
class_more shows u name (Loader r ∷ rows) row = class_more shows u name rows row
class_more {A} shows u name (Class r c ∷ rows) row =
    by_test (eqb r.loader u && bytes_eq (shows.name c) name) (class_more shows u name rows row)
  where
    by_test : (t : Bool)
        → class_among shows u name (rows ++ row ∷ [])
        ≡ or_else (class_among shows u name rows) (class_among shows u name (row ∷ []))
        → cond t (Some c) (class_among shows u name (rows ++ row ∷ []))
        ≡ or_else (cond t (Some c) (class_among shows u name rows))
        (class_among shows u name (row ∷ []))
    by_test true rest = refl
    by_test false rest = rest

-- one more loader doesn't affect what others have
classes_beside : {A : Type 0} (shows : Shows A) (u : ℕ) (rows : List (Row A)) (r : LoaderRow)
    → classes_of shows u (rows ++ Loader r ∷ []) ≡ classes_of shows u rows
classes_beside shows u rows r =
    same (classes_of shows u (rows ++ Loader r ∷ [])) (classes_of shows u rows) (λ name.
    class_found shows u (rows ++ Loader r ∷ []) name
    ∙ (class_more shows u name rows (Loader r)
    ∙ (or_none (class_among shows u name rows) ∙ sym (class_found shows u rows name))))

-- a loader that no class names has no classes
none_among : {A : Type 0} (shows : Shows A) (u : ℕ) (name : List ℕ) (rows : List (Row A))
    → ((r : ClassRow) → Among r (classes_in rows) → ¬ (r.loader ≡ u))
    → class_among shows u name rows ≡ None
none_among shows u name [] other = refl
none_among shows u name (Loader r ∷ rows) other = none_among shows u name rows other
none_among {A} shows u name (Class r c ∷ rows) other =
    by_test (eqb r.loader u) refl (none_among shows u name rows (λ s m. other s (inr m)))
  where
    by_test : (t : Bool) → eqb r.loader u ≡ t → class_among shows u name rows ≡ None
        → cond (t && bytes_eq (shows.name c) name) (Some c) (class_among shows u name rows) ≡ None
    by_test true is rest = absurd (other r (inl refl) (eqb-true r.loader u is))
    by_test false is rest = rest

no_classes : {A : Type 0} (shows : Shows A) (u : ℕ) (rows : List (Row A))
    → ((r : ClassRow) → Among r (classes_in rows) → ¬ (r.loader ≡ u))
    → classes_of shows u rows ≡ empty
no_classes shows u rows other =
    same (classes_of shows u rows) empty (λ name.
    class_found shows u rows name
    ∙ (none_among shows u name rows other ∙ sym (get-empty (slice_cmp nat_cmp) name)))

pub state_with_loader : {A : Type 0} (shows : Shows A) (rows : List (Row A)) (r : LoaderRow)
    → number_of r.name rows ≡ None
    → ((s : ClassRow) → Among s (classes_in rows) → ¬ (s.loader ≡ r.number))
    → state_of shows (rows ++ Loader r ∷ []) ≡ with_loader (state_of shows rows) r.name
unfolding or_else
state_with_loader {A} shows rows r new other =
    same (state_of shows more) (with_loader (state_of shows rows) r.name) (λ x.
    loader_found shows more more x
    ∙ (ap (option_map (λ u. classes_of shows u more)) (number_more x rows (Loader r))
    ∙ (by_name x (bytes_eq r.name x) refl
    ∙ (ap (cond (bytes_eq r.name x) (Some empty)) (sym (loader_found shows rows rows x))
    ∙ sym (got-insert (state_of shows rows) r.name empty x)))))
  where
    more : List (Row A)
    more = rows ++ Loader r ∷ []

    by_number : (o : Option ℕ)
        → option_map (λ u. classes_of shows u (rows ++ Loader r ∷ [])) (or_else o None)
        ≡ option_map (λ u. classes_of shows u rows) o
    by_number (Some u) = ap Some (classes_beside shows u rows r)
    by_number None = refl

    by_name : (x : List ℕ) (t : Bool) → bytes_eq r.name x ≡ t
        → option_map (λ u. classes_of shows u (rows ++ Loader r ∷ []))
        (or_else (number_of x rows) (cond t (Some r.number) None))
        ≡ cond t (Some empty) (option_map (λ u. classes_of shows u rows) (number_of x rows))
    by_name x true is =
        let same_name : r.name ≡ x = (bytes_decides r.name x).0 is in
        ap (λ o. option_map (λ u. classes_of shows u (rows ++ Loader r ∷ []))
        (or_else o (Some r.number)))
        (subst (λ (y : List ℕ). number_of y rows ≡ None) same_name new)
        ∙ ap Some (classes_beside shows r.number rows r ∙ no_classes shows r.number rows other)
    by_name x false is = by_number (number_of x rows)

-- ---- one more class

class_beside : {A : Type 0} (shows : Shows A) (u : ℕ) (rows : List (Row A)) (r : ClassRow) (c : A)
    → eqb r.loader u ≡ false
    → classes_of shows u (rows ++ Class r c ∷ []) ≡ classes_of shows u rows
unfolding or_else
class_beside {A} shows u rows r c other =
    same (classes_of shows u (rows ++ Class r c ∷ [])) (classes_of shows u rows) (λ name.
    class_found shows u (rows ++ Class r c ∷ []) name
    ∙ (class_more shows u name rows (Class r c)
    ∙ (ap (λ t. or_else (class_among shows u name rows)
    (cond (t && bytes_eq (shows.name c) name) (Some c) None)) other
    ∙ (or_none (class_among shows u name rows) ∙ sym (class_found shows u rows name)))))

class_joins : {A : Type 0} (shows : Shows A) (rows : List (Row A)) (r : ClassRow) (c : A)
    → class_among shows r.loader (shows.name c) rows ≡ None
    → classes_of shows r.loader (rows ++ Class r c ∷ [])
    ≡ insert (classes_of shows r.loader rows) (shows.name c) c
unfolding or_else
class_joins {A} shows rows r c new =
    same (classes_of shows r.loader (rows ++ Class r c ∷ []))
    (insert (classes_of shows r.loader rows) (shows.name c) c) (λ name.
    class_found shows r.loader (rows ++ Class r c ∷ []) name
    ∙ (class_more shows r.loader name rows (Class r c)
    ∙ (ap (λ t. or_else (class_among shows r.loader name rows)
    (cond (t && bytes_eq (shows.name c) name) (Some c) None)) (eq-eqb r.loader r.loader refl)
    ∙ (by_name name (bytes_eq (shows.name c) name) refl
    ∙ (ap (cond (bytes_eq (shows.name c) name) (Some c))
    (sym (class_found shows r.loader rows name))
    ∙ sym (got-insert (classes_of shows r.loader rows) (shows.name c) c name))))))
  where
    by_name : (name : List ℕ) (t : Bool) → bytes_eq (shows.name c) name ≡ t
        → or_else (class_among shows r.loader name rows) (cond t (Some c) None)
        ≡ cond t (Some c) (class_among shows r.loader name rows)
    by_name name true is =
        ap (λ o. or_else o (Some c))
        (subst (λ (y : List ℕ). class_among shows r.loader y rows ≡ None)
        ((bytes_decides (shows.name c) name).0 is) new)
    by_name name false is = or_none (class_among shows r.loader name rows)

-- x is the only name with a live loader's number
abbrev pub IsOnly : {A : Type 0} → List (Row A) → List ℕ → ℕ → Type 0
IsOnly rows x u = (y : List ℕ) → number_of y rows ≡ Some u → y ≡ x

other_number : {A : Type 0} (rows : List (Row A)) (x y : List ℕ) (u v : ℕ) → IsOnly rows x u
    → number_of y rows ≡ Some v → bytes_eq x y ≡ false → eqb u v ≡ false
other_number rows x y u v only there differ = by_test (eqb u v) refl
  where
    by_test : (t : Bool) → eqb u v ≡ t → t ≡ false
    by_test true e =
        let here =
        only y (subst (λ (w : ℕ). number_of y rows ≡ Some w) (sym (eqb-true u v e)) there) in
        let yes : bytes_eq x y ≡ true = (bytes_decides x y).1 (sym here) in
        absurd (cc)
    by_test false e = refl

pub state_with_class : {A : Type 0} (shows : Shows A) (rows : List (Row A)) (r : ClassRow) (c : A)
    (x : List ℕ) → number_of x rows ≡ Some r.loader → IsOnly rows x r.loader
    → class_among shows r.loader (shows.name c) rows ≡ None
    → state_of shows (rows ++ Class r c ∷ []) ≡ with_class shows (state_of shows rows) x c
unfolding or_else
state_with_class {A} shows rows r c x there only new =
    same (state_of shows more) (with_class shows (state_of shows rows) x c) (λ y.
    loader_found shows more more y
    ∙ (ap (option_map (λ u. classes_of shows u more))
    (number_more y rows (Class r c) ∙ or_none (number_of y rows))
    ∙ (by_name y (bytes_eq x y) refl
    ∙ (ap (cond (bytes_eq x y) (Some (insert old (shows.name c) c)))
    (sym (loader_found shows rows rows y))
    ∙ sym (got-insert (state_of shows rows) x (insert old (shows.name c) c) y)))))
  where
    more : List (Row A)
    more = rows ++ Class r c ∷ []

    old : ByName A
    old = unwrap_or (get (state_of shows rows) x) empty

    old_is : old ≡ classes_of shows r.loader rows
    old_is = ap (λ (o : Option (ByName A)). unwrap_or o empty)
        (loader_found shows rows rows x ∙ ap (option_map (λ u. classes_of shows u rows)) there)

    by_number : (y : List ℕ) → bytes_eq x y ≡ false → (o : Option ℕ) → number_of y rows ≡ o
        → option_map (λ u. classes_of shows u (rows ++ Class r c ∷ [])) o
        ≡ option_map (λ u. classes_of shows u rows) o
    by_number y differ (Some v) is =
        ap Some (class_beside shows v rows r c (other_number rows x y r.loader v only is differ))
    by_number y differ None is = refl

    by_name : (y : List ℕ) (t : Bool) → bytes_eq x y ≡ t
        → option_map (λ u. classes_of shows u (rows ++ Class r c ∷ [])) (number_of y rows)
        ≡ cond t (Some (insert old (shows.name c) c))
        (option_map (λ u. classes_of shows u rows) (number_of y rows))
    by_name y true is =
        ap (option_map (λ u. classes_of shows u (rows ++ Class r c ∷ [])))
        (subst (λ (z : List ℕ). number_of z rows ≡ Some r.loader) ((bytes_decides x y).0 is) there)
        ∙ ap Some (class_joins shows rows r c new
        ∙ ap (λ (m : ByName A). insert m (shows.name c) c) (sym old_is))
    by_name y false is = by_number y is (number_of y rows) refl

-- ---- without a loader

number_still : {A : Type 0} (x : List ℕ) (u : ℕ) (rows : List (Row A)) → number_of x rows ≡ None
    → number_of x (without_loader u rows) ≡ None
number_still x u [] e = refl
number_still {A} x u (Loader r ∷ rows) e =
    by_tests (bytes_eq r.name x) refl (eqb r.number u) (number_still x u rows) e
  where
    by_tests : (s : Bool) → bytes_eq r.name x ≡ s → (t : Bool)
        → (number_of x rows ≡ None → number_of x (without_loader u rows) ≡ None)
        → cond s (Some r.number) (number_of x rows) ≡ None
        → number_of x (cond (not t) (Loader r ∷ without_loader u rows) (without_loader u rows))
        ≡ None
    by_tests true is t rest h = absurd (cc)
    by_tests false is true rest h = rest h
    by_tests false is false rest h = rw is (rest h)
number_still {A} x u (Class r c ∷ rows) e = by_test (eqb r.loader u) (number_still x u rows e)
  where
    by_test : (t : Bool) → number_of x (without_loader u rows) ≡ None
        → number_of x (cond (not t) (Class r c ∷ without_loader u rows) (without_loader u rows))
        ≡ None
    by_test true rest = rest
    by_test false rest = rest

-- a number that isn't this one
unless : ℕ → Option ℕ → Option ℕ
unless u None = None
unless u (Some v) = cond (eqb v u) None (Some v)

number_left : {A : Type 0} (x : List ℕ) (u : ℕ) (rows : List (Row A)) → LoadersDiffer rows
    → number_of x (without_loader u rows) ≡ unless u (number_of x rows)
unfolding unless
number_left x u [] differ = refl
number_left {A} x u (Loader r ∷ rows) differ =
    by_tests (bytes_eq r.name x) refl (eqb r.number u) refl (number_left x u rows differ.2)
  where
    none_behind : bytes_eq r.name x ≡ true → number_of x (without_loader u rows) ≡ None
    none_behind is =
        number_still x u rows
        (subst (λ (y : List ℕ). number_of y rows ≡ None) ((bytes_decides r.name x).0 is) differ.1)

    by_tests : (s : Bool) → bytes_eq r.name x ≡ s → (t : Bool) → eqb r.number u ≡ t
        → number_of x (without_loader u rows) ≡ unless u (number_of x rows)
        → number_of x (cond (not t) (Loader r ∷ without_loader u rows) (without_loader u rows))
        ≡ unless u (cond s (Some r.number) (number_of x rows))
    by_tests true is true e rest = none_behind is ∙ sym (rw e refl)
    by_tests true is false e rest = rw is (rw e refl)
    by_tests false is true e rest = rest
    by_tests false is false e rest = rw is rest
number_left {A} x u (Class r c ∷ rows) differ =
    by_test (eqb r.loader u) (number_left x u rows differ)
  where
    by_test : (t : Bool) → number_of x (without_loader u rows) ≡ unless u (number_of x rows)
        → number_of x (cond (not t) (Class r c ∷ without_loader u rows) (without_loader u rows))
        ≡ unless u (number_of x rows)
    by_test true rest = rest
    by_test false rest = rest

turned : (a b : ℕ) → eqb a b ≡ false → eqb b a ≡ false
turned a b e = by_test (eqb b a) refl
  where
    by_test : (t : Bool) → eqb b a ≡ t → t ≡ false
    by_test true is = let yes : eqb a b ≡ true = eq-eqb a b (sym (eqb-true b a is)) in absurd (cc)
    by_test false is = refl

pub class_left : {A : Type 0} (shows : Shows A) (v u : ℕ) (name : List ℕ) (rows : List (Row A))
    → eqb v u ≡ false
    → class_among shows v name (without_loader u rows) ≡ class_among shows v name rows
class_left shows v u name [] other = refl
class_left {A} shows v u name (Loader r ∷ rows) other =
    by_test (eqb r.number u) (class_left shows v u name rows other)
  where
    by_test : (t : Bool)
        → class_among shows v name (without_loader u rows) ≡ class_among shows v name rows
        → class_among shows v name
        (cond (not t) (Loader r ∷ without_loader u rows) (without_loader u rows))
        ≡ class_among shows v name rows
    by_test true rest = rest
    by_test false rest = rest
class_left {A} shows v u name (Class r c ∷ rows) other =
    by_test (eqb r.loader u) refl (class_left shows v u name rows other)
  where
    its : Bool → Option A → Option A
    its t o = cond (t && bytes_eq (shows.name c) name) (Some c) o

    by_test : (t : Bool) → eqb r.loader u ≡ t
        → class_among shows v name (without_loader u rows) ≡ class_among shows v name rows
        → class_among shows v name
        (cond (not t) (Class r c ∷ without_loader u rows) (without_loader u rows))
        ≡ cond (eqb r.loader v && bytes_eq (shows.name c) name) (Some c)
        (class_among shows v name rows)
    by_test true is rest =
        let own : eqb r.loader v ≡ false =
        ap (λ (w : ℕ). eqb w v) (eqb-true r.loader u is) ∙ turned v u other in
        rest ∙ sym (ap (λ t. cond (t && bytes_eq (shows.name c) name) (Some c)
        (class_among shows v name rows)) own)
    by_test false is rest =
        ap (cond (eqb r.loader v && bytes_eq (shows.name c) name) (Some c)) rest

classes_left : {A : Type 0} (shows : Shows A) (v u : ℕ) (rows : List (Row A)) → eqb v u ≡ false
    → classes_of shows v (without_loader u rows) ≡ classes_of shows v rows
classes_left shows v u rows other =
    same (classes_of shows v (without_loader u rows)) (classes_of shows v rows) (λ name.
    class_found shows v (without_loader u rows) name
    ∙ (class_left shows v u name rows other ∙ sym (class_found shows v rows name)))

pub state_without : {A : Type 0} (shows : Shows A) (rows : List (Row A)) (u : ℕ) (x : List ℕ)
    → number_of x rows ≡ Some u → IsOnly rows x u → LoadersDiffer rows
    → state_of shows (without_loader u rows) ≡ remove (state_of shows rows) x
unfolding unless
state_without {A} shows rows u x there only differ =
    same (state_of shows left) (remove (state_of shows rows) x) (λ y.
    loader_found shows left left y
    ∙ (ap (option_map (λ v. classes_of shows v left)) (number_left y u rows differ)
    ∙ (by_name y (bytes_eq x y) refl
    ∙ (ap (cond (bytes_eq x y) None) (sym (loader_found shows rows rows y))
    ∙ sym (got-remove (state_of shows rows) x y)))))
  where
    left : List (Row A)
    left = without_loader u rows

    by_test : (v : ℕ) (t : Bool) → eqb v u ≡ t → t ≡ false
        → option_map (λ w. classes_of shows w (without_loader u rows)) (cond t None (Some v))
        ≡ Some (classes_of shows v rows)
    by_test v true is e = absurd (cc)
    by_test v false is e = ap Some (classes_left shows v u rows is)

    by_number : (y : List ℕ) → bytes_eq x y ≡ false → (o : Option ℕ) → number_of y rows ≡ o
        → option_map (λ v. classes_of shows v (without_loader u rows)) (unless u o)
        ≡ option_map (λ v. classes_of shows v rows) o
    by_number y differs (Some v) is = by_test v (eqb v u) refl (other_way v (eqb v u) refl)
      where
        other_way : (w : ℕ) (t : Bool) → eqb v u ≡ t → t ≡ false
        other_way w true e =
            let apart = other_number rows x y u v only is differs in
            let yes : eqb u v ≡ true = eq-eqb u v (sym (eqb-true v u e)) in
            absurd (cc)
        other_way w false e = refl
    by_number y differs None is = refl

    by_name : (y : List ℕ) (t : Bool) → bytes_eq x y ≡ t
        → option_map (λ v. classes_of shows v (without_loader u rows)) (unless u (number_of y rows))
        ≡ cond t None (option_map (λ v. classes_of shows v rows) (number_of y rows))
    by_name y true is =
        ap (λ o. option_map (λ v. classes_of shows v (without_loader u rows)) (unless u o))
        (subst (λ (z : List ℕ). number_of z rows ≡ Some u) ((bytes_decides x y).0 is) there)
        ∙ ap (λ t. option_map (λ v. classes_of shows v (without_loader u rows))
        (cond t None (Some u)))
        (eq-eqb u u refl)
    by_name y false is = by_number y is (number_of y rows) refl

-- ---- records on another chunk

pub class_moved : {A : Type 0} (shows : Shows A) (u : ℕ) (name : List ℕ) (from to : Chunk)
    (rows : List (Row A))
    → class_among shows u name (moved from to rows) ≡ class_among shows u name rows
class_moved shows u name from to [] = refl
class_moved shows u name from to (Loader r ∷ rows) = class_moved shows u name from to rows
class_moved {A} shows u name from to (Class r c ∷ rows) =
    by_test (same_chunk r.place.chunk from) (class_moved shows u name from to rows)
  where
    by_test : (t : Bool)
        → class_among shows u name (moved from to rows) ≡ class_among shows u name rows
        → class_among shows u name
        (cond t (Class (record r { place = record r.place { chunk = to } }) c) (Class r c)
        ∷ moved from to rows)
        ≡ class_among shows u name (Class r c ∷ rows)
    by_test true rest = ap (cond (eqb r.loader u && bytes_eq (shows.name c) name) (Some c)) rest
    by_test false rest = ap (cond (eqb r.loader u && bytes_eq (shows.name c) name) (Some c)) rest

pub state_moved : {A : Type 0} (shows : Shows A) (from to : Chunk) (rows : List (Row A))
    → state_of shows (moved from to rows) ≡ state_of shows rows
state_moved shows from to rows =
    same_state shows (moved from to rows) rows (λ x. number-moved x from to rows) (λ u.
    same (classes_of shows u (moved from to rows)) (classes_of shows u rows) (λ name.
    class_found shows u (moved from to rows) name
    ∙ (class_moved shows u name from to rows ∙ sym (class_found shows u rows name))))
