-- Live rows that keep the rules: their loaders differ, have numbers of past commands, and own each
-- class.
-- For `loaders_are_own` and others.
use Rattle.std.proofs.Common.{◌≡◌, ℕ, ◌<◌, ◌≤◌, Bool, true, false, cond, List, [], ◌∷◌, ◌++◌}
use Rattle.std.proofs.Common.{Option, Some, None, inl, inr, refl, sym, subst, ◌∙◌, ap, arith}
use Rattle.std.proofs.Common.{append_assoc, eqb, is_some, is_none}
use Rattle.std.specs.Prelude.{nat_lt}
use Rattle.std.specs.Str.{bytes_eq}
use Rattle.std.specs.List.{list_all}
use Rattle.std.specs.Cmp.Lexicographic.{bytes_decides}
use Rattle.std.proofs.lemmas.Bool.{eqb-true, leb-true, ltb-true, and_parts}
use Rattle.cm_pool.specs.Geometry.{Sizes}
use Rattle.cm_pool.specs.Lists.{Among}
use Rattle.cm_layout.specs.declared.class_row.ClassRow.{ClassRow}
use Rattle.cm_layout.specs.declared.row.Row.TheVariants.{Loader, Class}
use Rattle.cm_layout.specs.Rows.{name_of, number_of, numbers_in, classes_in}
use Rattle.cm_layout.specs.Names.{is_loader_name}
use Rattle.cm_layout.specs.Rules.{is_live}
use Rattle.cm_layout.specs.Loaders.{LoadersDiffer, HasOwnLoaders}
use Rattle.cm_layout.specs.Frames.{BareRow, LiveRowsKeep}
use Rattle.cm_layout.proofs.StayLive.{loader_keeps, class_keeps}

-- ---- rows after others

pub or_else : {A : Type 0} → Option A → Option A → Option A
or_else (Some a) o = Some a
or_else None o = o

pub number_of-append : (x : List ℕ) (rows more : List BareRow)
    → number_of x (rows ++ more) ≡ or_else (number_of x rows) (number_of x more)
unfolding or_else
number_of-append x [] more = refl
number_of-append x (Loader r ∷ rows) more =
    by_test (bytes_eq r.name x) (number_of-append x rows more)
  where
    by_test : (t : Bool)
        → number_of x (rows ++ more) ≡ or_else (number_of x rows) (number_of x more)
        → cond t (Some r.number) (number_of x (rows ++ more))
        ≡ or_else (cond t (Some r.number) (number_of x rows)) (number_of x more)
    by_test true rest = refl
    by_test false rest = rest
number_of-append x (Class r p ∷ rows) more = number_of-append x rows more

pub name_of-append : (u : ℕ) (rows more : List BareRow)
    → name_of u (rows ++ more) ≡ or_else (name_of u rows) (name_of u more)
unfolding or_else
name_of-append u [] more = refl
name_of-append u (Loader r ∷ rows) more =
    by_test (eqb r.number u) (name_of-append u rows more)
  where
    by_test : (t : Bool)
        → name_of u (rows ++ more) ≡ or_else (name_of u rows) (name_of u more)
        → cond t (Some r.name) (name_of u (rows ++ more))
        ≡ or_else (cond t (Some r.name) (name_of u rows)) (name_of u more)
    by_test true rest = refl
    by_test false rest = rest
name_of-append u (Class r p ∷ rows) more = name_of-append u rows more

some_first : {A : Type 0} (o more : Option A) → is_some o ≡ true → is_some (or_else o more) ≡ true
unfolding or_else
some_first (Some a) more h = refl
some_first None more h = absurd (cc)

some_last : {A : Type 0} (o : Option A) (a : A) → is_some (or_else o (Some a)) ≡ true
unfolding or_else
some_last (Some b) a = refl
some_last None a = refl

number-more : (x : List ℕ) (pre : List BareRow) (row : BareRow)
    → is_some (number_of x pre) ≡ true → is_some (number_of x (pre ++ row ∷ [])) ≡ true
number-more x pre row h =
    ap is_some (number_of-append x pre (row ∷ []))
    ∙ some_first (number_of x pre) (number_of x (row ∷ [])) h

live-more : (u : ℕ) (pre more : List BareRow) → is_live u pre ≡ true
    → is_live u (pre ++ more) ≡ true
live-more u pre more h =
    ap is_some (name_of-append u pre more) ∙ some_first (name_of u pre) (name_of u more) h

numbers-among : (u : ℕ) (rows more : List BareRow) → Among u (numbers_in rows)
    → Among u (numbers_in (rows ++ more))
numbers-among u [] more none = absurd none
numbers-among u (Loader r ∷ rows) more (inl e) = inl e
numbers-among u (Loader r ∷ rows) more (inr m) = inr (numbers-among u rows more m)
numbers-among u (Class r p ∷ rows) more m = numbers-among u rows more m

last-among : (r : _) (rows : List BareRow) → Among r.number (numbers_in (rows ++ Loader r ∷ []))
last-among r [] = inl refl
last-among r (Loader s ∷ rows) = inr (last-among r rows)
last-among r (Class s p ∷ rows) = last-among r rows

own_name_first : (r : _) (pre : List BareRow)
    → is_some (number_of r.name (pre ++ Loader r ∷ [])) ≡ true
own_name_first r pre =
    let own : bytes_eq r.name r.name ≡ true = (bytes_decides r.name r.name).1 refl in
    ap is_some (number_of-append r.name pre (Loader r ∷ []))
    ∙ (ap (λ (t : Bool). is_some (or_else (number_of r.name pre) (cond t (Some r.number) None))) own
    ∙ some_last (number_of r.name pre) r.number)

none_is : {A : Type 0} (o : Option A) → is_none o ≡ true → o ≡ None
none_is None h = refl
none_is (Some a) h = absurd (cc)

some_not_none : {A : Type 0} (o : Option A) → is_some o ≡ true → is_none o ≡ true → ⊥
some_not_none None h n = absurd (cc)
some_not_none (Some a) h n = absurd (cc)

-- ---- names and numbers of rows after others

name-apart : (sizes : Sizes) (n : ℕ) (pre rows : List BareRow) (x : List ℕ)
    → LiveRowsKeep sizes n pre rows → is_some (number_of x pre) ≡ true → number_of x rows ≡ None
name-apart sizes n pre [] x k had = refl
name-apart sizes n pre (Loader r ∷ rows) x k had =
    by_test (bytes_eq r.name x) refl
    (name-apart sizes n (pre ++ Loader r ∷ []) rows x k.2 (number-more x pre (Loader r) had))
  where
    by_test : (t : Bool) → bytes_eq r.name x ≡ t → number_of x rows ≡ None
        → cond t (Some r.number) (number_of x rows) ≡ None
    by_test true is rest =
        let same : r.name ≡ x = (bytes_decides r.name x).0 is in
        absurd (some_not_none (number_of x pre) had
        (subst (λ (y : List ℕ). is_none (number_of y pre) ≡ true) same
        (loader_keeps sizes n pre r k.1).new))
    by_test false is rest = rest
name-apart sizes n pre (Class r p ∷ rows) x k had =
    name-apart sizes n (pre ++ Class r p ∷ []) rows x k.2 (number-more x pre (Class r p) had)

all-among : (m : ℕ) (numbers : List ℕ) (u : ℕ) → list_all (λ v. nat_lt v m) numbers ≡ true
    → Among u numbers → u < m
all-among m [] u h none = absurd none
all-among m (v ∷ numbers) u h (inl e) =
    let parts = and_parts (nat_lt v m) (list_all (λ w. nat_lt w m) numbers) h in
    omega (arith, ltb-true v m parts.0, e)
all-among m (v ∷ numbers) u h (inr more) =
    let parts = and_parts (nat_lt v m) (list_all (λ w. nat_lt w m) numbers) h in
    all-among m numbers u parts.1 more

number-apart : (sizes : Sizes) (n : ℕ) (pre rows : List BareRow) (u : ℕ)
    → LiveRowsKeep sizes n pre rows → Among u (numbers_in pre) → name_of u rows ≡ None
number-apart sizes n pre [] u k had = refl
number-apart sizes n pre (Loader r ∷ rows) u k had =
    by_test (eqb r.number u) refl
    (number-apart sizes n (pre ++ Loader r ∷ []) rows u k.2
    (numbers-among u pre (Loader r ∷ []) had))
  where
    by_test : (t : Bool) → eqb r.number u ≡ t → name_of u rows ≡ None
        → cond t (Some r.name) (name_of u rows) ≡ None
    by_test true is rest =
        let same = eqb-true r.number u is in
        let above =
        all-among r.number (numbers_in pre) u (loader_keeps sizes n pre r k.1).above had in
        absurd (omega (arith, same, above))
    by_test false is rest = rest
number-apart sizes n pre (Class r p ∷ rows) u k had =
    number-apart sizes n (pre ++ Class r p ∷ []) rows u k.2
    (numbers-among u pre (Class r p ∷ []) had)

differ : (sizes : Sizes) (n : ℕ) (pre rows : List BareRow) → LiveRowsKeep sizes n pre rows
    → LoadersDiffer rows
differ sizes n pre [] k = tt
differ sizes n pre (Loader r ∷ rows) k = (
  number-apart sizes n (pre ++ Loader r ∷ []) rows r.number k.2 (last-among r pre),
  name-apart sizes n (pre ++ Loader r ∷ []) rows r.name k.2 (own_name_first r pre),
  differ sizes n (pre ++ Loader r ∷ []) rows k.2,
)
differ sizes n pre (Class r p ∷ rows) k = differ sizes n (pre ++ Class r p ∷ []) rows k.2

past : (sizes : Sizes) (n : ℕ) (pre rows : List BareRow) → LiveRowsKeep sizes n pre rows
    → (u : ℕ) → Among u (numbers_in rows) → u ≤ n
past sizes n pre [] k u none = absurd none
past sizes n pre (Loader r ∷ rows) k u (inl e) =
    omega (arith, e, leb-true r.number n (loader_keeps sizes n pre r k.1).to)
past sizes n pre (Loader r ∷ rows) k u (inr m) = past sizes n (pre ++ Loader r ∷ []) rows k.2 u m
past sizes n pre (Class r p ∷ rows) k u m = past sizes n (pre ++ Class r p ∷ []) rows k.2 u m

named : (sizes : Sizes) (n : ℕ) (pre rows : List BareRow) → LiveRowsKeep sizes n pre rows
    → (u : ℕ) (x : List ℕ) → name_of u rows ≡ Some x → is_loader_name x ≡ true
named sizes n pre [] k u x e = absurd (cc)
named sizes n pre (Loader r ∷ rows) k u x e =
    by_test (eqb r.number u) (λ h. named sizes n (pre ++ Loader r ∷ []) rows k.2 u x h) e
  where
    own : (o : List ℕ) → Some r.name ≡ Some o → r.name ≡ o
    own o h = cc

    by_test : (t : Bool) → (name_of u rows ≡ Some x → is_loader_name x ≡ true)
        → cond t (Some r.name) (name_of u rows) ≡ Some x → is_loader_name x ≡ true
    by_test true rest h =
        subst (λ (y : List ℕ). is_loader_name y ≡ true) (own x h)
        (loader_keeps sizes n pre r k.1).name
    by_test false rest h = rest h
named sizes n pre (Class r p ∷ rows) k u x e = named sizes n (pre ++ Class r p ∷ []) rows k.2 u x e

owned : (sizes : Sizes) (n : ℕ) (pre rows : List BareRow) → LiveRowsKeep sizes n pre rows
    → (r : ClassRow) → Among r (classes_in rows) → is_live r.loader (pre ++ rows) ≡ true
owned sizes n pre [] k r none = absurd none
owned sizes n pre (Loader s ∷ rows) k r m =
    subst (λ (l : List BareRow). is_live r.loader l ≡ true) (append_assoc pre (Loader s ∷ []) rows)
    (owned sizes n (pre ++ Loader s ∷ []) rows k.2 r m)
owned sizes n pre (Class s p ∷ rows) k r (inl e) =
    live-more r.loader pre (Class s p ∷ rows)
    (subst (λ (t : ClassRow). is_live t.loader pre ≡ true) (sym e)
    (class_keeps sizes pre s k.1).live)
owned sizes n pre (Class s p ∷ rows) k r (inr m) =
    subst (λ (l : List BareRow). is_live r.loader l ≡ true) (append_assoc pre (Class s p ∷ []) rows)
    (owned sizes n (pre ++ Class s p ∷ []) rows k.2 r m)

pub own_loaders : (sizes : Sizes) (n : ℕ) (rows : List BareRow) → LiveRowsKeep sizes n [] rows
    → HasOwnLoaders n rows
own_loaders sizes n rows k = record {
  differ = differ sizes n [] rows k;
  past = past sizes n [] rows k;
  named = named sizes n [] rows k;
  owned = owned sizes n [] rows k;
}
