-- How one more row, or one loader less, changes what rows say.
-- For `Front::add_loader`, `Front::define`, `Front::restore` and others.
use Rattle.std.proofs.Common.{◌≡◌, ℕ, ◌+◌, ◌≤◌, Bool, true, false, cond, not, List, [], ◌∷◌, ◌++◌}
use Rattle.std.proofs.Common.{Some, None, inl, inr, refl, sym, ap, ◌∙◌, arith, eqb}
use Rattle.std.proofs.Common.{append-nil}
use Rattle.std.specs.Prelude.{filter, nat_lt, is_some}
use Rattle.std.specs.List.{list_all}
use Rattle.std.proofs.lemmas.Bool.{eqb-true, eq-eqb, lt-ltb}
use Rattle.cm_pool.specs.Lists.{Among}
use Rattle.cm_arena.specs.Chains.{Filled}
use Rattle.cm_arena.specs.Placing.{with_place}
use Rattle.cm_layout.specs.declared.class_row.ClassRow.{ClassRow}
use Rattle.cm_layout.specs.declared.row.Row.{Row}
use Rattle.cm_layout.specs.declared.row.Row.TheVariants.{Loader, Class}
use Rattle.cm_layout.specs.Rows.{classes_in, numbers_in, name_of, without_loader, bare}
use Rattle.cm_layout.proofs.{classes-bare, classes_in-append}
use Rattle.cm_front.specs.Chains.{chain_from, chain_of}

-- ---- without what is kept

pub chain_bare : {A : Type 0} (u : ℕ) (rows : List (Row A)) → chain_of u (bare rows)
    ≡ chain_of u rows
chain_bare u rows = ap (chain_from [] u) (classes-bare rows)

-- ---- one more row

pub name_with_loader : {A : Type 0} (u : ℕ) (rows : List (Row A)) (r : _)
    → is_some (name_of u (rows ++ Loader r ∷ []))
    ≡ cond (is_some (name_of u rows)) true (eqb r.number u)
name_with_loader u [] r = by_test (eqb r.number u)
  where
    by_test : (t : Bool) → is_some (cond t (Some r.name) None) ≡ t
    by_test true = refl
    by_test false = refl
name_with_loader u (Loader s ∷ rows) r = by_test (eqb s.number u) (name_with_loader u rows r)
  where
    by_test : (t : Bool)
        → is_some (name_of u (rows ++ Loader r ∷ []))
        ≡ cond (is_some (name_of u rows)) true (eqb r.number u)
        → is_some (cond t (Some s.name) (name_of u (rows ++ Loader r ∷ [])))
        ≡ cond (is_some (cond t (Some s.name) (name_of u rows))) true (eqb r.number u)
    by_test true rest = refl
    by_test false rest = rest
name_with_loader u (Class s p ∷ rows) r = name_with_loader u rows r

pub name_with_class : {A : Type 0} (u : ℕ) (rows : List (Row A)) (r : ClassRow) (p : A)
    → name_of u (rows ++ Class r p ∷ []) ≡ name_of u rows
name_with_class u [] r p = refl
name_with_class u (Loader s ∷ rows) r p =
    ap (λ o. cond (eqb s.number u) (Some s.name) o) (name_with_class u rows r p)
name_with_class u (Class s q ∷ rows) r p = name_with_class u rows r p

-- ---- numbers

pub all_below : (n : ℕ) (numbers : List ℕ) → ((u : ℕ) → Among u numbers → u ≤ n)
    → list_all (λ u. nat_lt u (n + 1)) numbers ≡ true
all_below n [] h = refl
all_below n (u ∷ numbers) h =
    let first : u ≤ n = h u (inl refl) in
    rw (lt-ltb u (n + 1) (omega (arith, first))) (all_below n numbers (λ v a. h v (inr a)))

pub among_named : {A : Type 0} (u : ℕ) (rows : List (Row A)) → is_some (name_of u rows) ≡ true
    → Among u (numbers_in rows)
among_named u [] e = absurd (cc)
among_named u (Loader r ∷ rows) e =
    by_test (λ h. among_named u rows h) (eqb r.number u) refl e
  where
    by_test : (is_some (name_of u rows) ≡ true → Among u (numbers_in rows))
        → (t : Bool) → eqb r.number u ≡ t
        → is_some (cond t (Some r.name) (name_of u rows)) ≡ true
        → Among u (r.number ∷ numbers_in rows)
    by_test rest true t e = inl (sym (eqb-true r.number u t))
    by_test rest false t e = inr (rest e)
among_named u (Class r p ∷ rows) e = among_named u rows e

-- ---- one loader less

pub classes_left : {A : Type 0} (u : ℕ) (rows : List (Row A))
    → classes_in (without_loader u rows) ≡ filter (λ r. not (eqb r.loader u)) (classes_in rows)
classes_left u [] = refl
classes_left u (Loader r ∷ rows) = by_test (classes_left u rows) (eqb r.number u)
  where
    by_test : classes_in (without_loader u rows)
        ≡ filter (λ r. not (eqb r.loader u)) (classes_in rows)
        → (t : Bool)
        → classes_in (cond (not t) (Loader r ∷ without_loader u rows) (without_loader u rows))
        ≡ filter (λ r. not (eqb r.loader u)) (classes_in rows)
    by_test rest true = rest
    by_test rest false = rest
classes_left u (Class r p ∷ rows) = by_test (classes_left u rows) (eqb r.loader u)
  where
    by_test : classes_in (without_loader u rows)
        ≡ filter (λ r. not (eqb r.loader u)) (classes_in rows)
        → (t : Bool)
        → classes_in (cond (not t) (Class r p ∷ without_loader u rows) (without_loader u rows))
        ≡ cond (not t) (r ∷ filter (λ r. not (eqb r.loader u)) (classes_in rows))
        (filter (λ r. not (eqb r.loader u)) (classes_in rows))
    by_test rest true = rest
    by_test rest false = ap (λ l. r ∷ l) rest

true_not : true ≡ false → ⊥
true_not p = absurd (cc)

-- ---- chains

pub chain_with_loader : {A : Type 0} (v : ℕ) (rows : List (Row A)) (r : _)
    → chain_of v (rows ++ Loader r ∷ []) ≡ chain_of v rows
chain_with_loader v rows r =
    ap (chain_from [] v) (classes_in-append rows (Loader r ∷ []) ∙ append-nil (classes_in rows))

others_from : (chain : List Filled) (v : ℕ) (classes : List ClassRow) (r : ClassRow)
    → eqb r.loader v ≡ false → chain_from chain v (classes ++ r ∷ []) ≡ chain_from chain v classes
others_from chain v [] r e = rw e refl
others_from chain v (s ∷ classes) r e =
    by_test (others_from (with_place chain s.place) v classes r e) (others_from chain v classes r e)
    (eqb s.loader v)
  where
    by_test : chain_from (with_place chain s.place) v (classes ++ r ∷ [])
        ≡ chain_from (with_place chain s.place) v classes
        → chain_from chain v (classes ++ r ∷ []) ≡ chain_from chain v classes → (t : Bool)
        → cond t (chain_from (with_place chain s.place) v (classes ++ r ∷ []))
        (chain_from chain v (classes ++ r ∷ []))
        ≡ cond t (chain_from (with_place chain s.place) v classes) (chain_from chain v classes)
    by_test here there true = here
    by_test here there false = there

pub chain_of_others : {A : Type 0} (v : ℕ) (rows : List (Row A)) (r : ClassRow) (p : A)
    → eqb r.loader v ≡ false → chain_of v (rows ++ Class r p ∷ []) ≡ chain_of v rows
chain_of_others v rows r p e =
    ap (chain_from [] v) (classes_in-append rows (Class r p ∷ [])) ∙ others_from [] v
    (classes_in rows) r e

gone_from : (chain : List Filled) (u : ℕ) (classes : List ClassRow)
    → chain_from chain u (filter (λ r. not (eqb r.loader u)) classes) ≡ chain
gone_from chain u [] = refl
gone_from chain u (r ∷ classes) = by_test (gone_from chain u classes) (eqb r.loader u) refl
  where
    rest : List ClassRow
    rest = filter (λ r. not (eqb r.loader u)) classes

    by_test : chain_from chain u rest ≡ chain → (t : Bool) → eqb r.loader u ≡ t
        → chain_from chain u (cond (not t) (r ∷ rest) rest) ≡ chain
    by_test same true e = same
    by_test same false e = rw e same

left_from : (chain : List Filled) (v u : ℕ) (classes : List ClassRow) → eqb v u ≡ false
    → chain_from chain v (filter (λ r. not (eqb r.loader u)) classes) ≡ chain_from chain v classes
left_from chain v u [] d = refl
left_from chain v u (r ∷ classes) d =
    by_test (left_from (with_place chain r.place) v u classes d) (left_from chain v u classes d)
    (eqb r.loader u) refl
  where
    rest : List ClassRow
    rest = filter (λ r. not (eqb r.loader u)) classes

    differs : eqb r.loader u ≡ true → (t : Bool) → eqb r.loader v ≡ t
        → chain_from chain v classes
        ≡ cond t (chain_from (with_place chain r.place) v classes) (chain_from chain v classes)
    differs e true f =
        let same : v ≡ u = sym (eqb-true r.loader v f) ∙ eqb-true r.loader u e in
        absurd (true_not (sym (eq-eqb v u same) ∙ d))
    differs e false f = refl

    kept : chain_from (with_place chain r.place) v rest
        ≡ chain_from (with_place chain r.place) v classes
        → chain_from chain v rest ≡ chain_from chain v classes → (t : Bool)
        → cond t (chain_from (with_place chain r.place) v rest) (chain_from chain v rest)
        ≡ cond t (chain_from (with_place chain r.place) v classes) (chain_from chain v classes)
    kept here there true = here
    kept here there false = there

    by_test : chain_from (with_place chain r.place) v rest
        ≡ chain_from (with_place chain r.place) v classes
        → chain_from chain v rest ≡ chain_from chain v classes → (t : Bool) → eqb r.loader u ≡ t
        → chain_from chain v (cond (not t) (r ∷ rest) rest)
        ≡ cond (eqb r.loader v) (chain_from (with_place chain r.place) v classes)
        (chain_from chain v classes)
    by_test here there true e = there ∙ differs e (eqb r.loader v) refl
    by_test here there false e = kept here there (eqb r.loader v)

pub chain_gone : {A : Type 0} (u : ℕ) (rows : List (Row A))
    → chain_of u (without_loader u rows) ≡ []
chain_gone u rows = ap (chain_from [] u) (classes_left u rows) ∙ gone_from [] u (classes_in rows)

pub chain_left : {A : Type 0} (v u : ℕ) (rows : List (Row A)) → eqb v u ≡ false
    → chain_of v (without_loader u rows) ≡ chain_of v rows
chain_left v u rows d =
    ap (chain_from [] v) (classes_left u rows) ∙ left_from [] v u (classes_in rows) d
