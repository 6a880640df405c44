-- Loaders and classes that differ: what is found one way is found the other, and they still differ
-- after an entry.
-- For `arenas_are_apart`, `entries_are_steps`, `rows_tell_state`.
use Rattle.std.proofs.Common.{◌≡◌, ℕ, Bool, true, false, cond, List, [], ◌∷◌, ◌++◌, Option, Some}
use Rattle.std.proofs.Common.{None, inl, inr, refl, sym, ap, subst, ◌∙◌, eqb, is_some, append_assoc}
use Rattle.std.proofs.Common.{append-nil}
use Rattle.std.specs.Prelude.{not}
use Rattle.std.specs.Str.{bytes_eq}
use Rattle.std.specs.Cmp.Lexicographic.{bytes_decides}
use Rattle.std.proofs.lemmas.Bool.{eqb-true, eq-eqb}
use Rattle.std.proofs.lemmas.List.{map-append}
use Rattle.std.proofs.lemmas.List.Elements.{filter-append}
use Rattle.cm_pool.specs.declared.chunk.Chunk.{Chunk}
use Rattle.cm_pool.specs.Chunks.{same_chunk}
use Rattle.cm_pool.specs.Lists.{Among}
use Rattle.cm_layout.specs.declared.class_row.ClassRow.{ClassRow}
use Rattle.cm_layout.specs.declared.row.Row.{Row}
use Rattle.cm_layout.specs.declared.row.Row.TheVariants.{Loader, Class}
use Rattle.cm_layout.specs.Rows.{name_of, number_of, numbers_in, is_of, without_loader}
use Rattle.cm_layout.specs.Rows.{without_loaders, moved}
use Rattle.cm_layout.specs.Rows.{moved_row}
use Rattle.cm_layout.specs.Loaders.{LoadersDiffer}
use Rattle.cm_state.specs.State.{Shows, NamesDiffer, class_among}
use Rattle.cm_state.proofs.RowStates.{IsOnly, class_left, class_moved}

same_some : {X : Type 0} (x y : X) → Some x ≡ Some y → x ≡ y
same_some x y e = cc

-- ---- by name and by number

pub name_found : {A : Type 0} (x : List ℕ) (u : ℕ) (rows : List (Row A)) → LoadersDiffer rows
    → number_of x rows ≡ Some u → name_of u rows ≡ Some x
name_found x u [] d e = absurd (cc)
name_found {A} x u (Loader r ∷ rows) d e =
    by_name (bytes_eq r.name x) refl (λ h. name_found x u rows d.2 h) e
  where
    by_number : (t : Bool) → eqb r.number u ≡ t → name_of u rows ≡ Some x
        → cond t (Some r.name) (name_of u rows) ≡ Some x
    by_number true is rest =
        let none : name_of u rows ≡ None =
        subst (λ (v : ℕ). name_of v rows ≡ None) (eqb-true r.number u is) d.0 in
        absurd (cc)
    by_number false is rest = rest

    by_name : (t : Bool) → bytes_eq r.name x ≡ t
        → (number_of x rows ≡ Some u → name_of u rows ≡ Some x)
        → cond t (Some r.number) (number_of x rows) ≡ Some u
        → cond (eqb r.number u) (Some r.name) (name_of u rows) ≡ Some x
    by_name true is rest h =
        ap (λ t. cond t (Some r.name) (name_of u rows)) (eq-eqb r.number u (same_some r.number u h))
        ∙ ap Some ((bytes_decides r.name x).0 is)
    by_name false is rest h = by_number (eqb r.number u) refl (rest h)
name_found x u (Class r c ∷ rows) d e = name_found x u rows d e

pub number_found : {A : Type 0} (x : List ℕ) (u : ℕ) (rows : List (Row A)) → LoadersDiffer rows
    → name_of u rows ≡ Some x → number_of x rows ≡ Some u
number_found x u [] d e = absurd (cc)
number_found {A} x u (Loader r ∷ rows) d e =
    by_number (eqb r.number u) refl (λ h. number_found x u rows d.2 h) e
  where
    by_name : (t : Bool) → bytes_eq r.name x ≡ t → number_of x rows ≡ Some u
        → cond t (Some r.number) (number_of x rows) ≡ Some u
    by_name true is rest =
        let none : number_of x rows ≡ None =
        subst (λ (y : List ℕ). number_of y rows ≡ None) ((bytes_decides r.name x).0 is) d.1 in
        absurd (cc)
    by_name false is rest = rest

    by_number : (t : Bool) → eqb r.number u ≡ t
        → (name_of u rows ≡ Some x → number_of x rows ≡ Some u)
        → cond t (Some r.name) (name_of u rows) ≡ Some x
        → cond (bytes_eq r.name x) (Some r.number) (number_of x rows) ≡ Some u
    by_number true is rest h =
        ap (λ t. cond t (Some r.number) (number_of x rows))
        ((bytes_decides r.name x).1 (same_some r.name x h))
        ∙ ap Some (eqb-true r.number u is)
    by_number false is rest h = by_name (bytes_eq r.name x) refl (rest h)
number_found x u (Class r c ∷ rows) d e = number_found x u rows d e

pub only_name : {A : Type 0} (x : List ℕ) (u : ℕ) (rows : List (Row A)) → LoadersDiffer rows
    → name_of u rows ≡ Some x → IsOnly rows x u
only_name x u rows d named y there =
    same_some y x (sym (name_found y u rows d there) ∙ named)

pub some_name : {A : Type 0} (u : ℕ) (rows : List (Row A)) → is_some (name_of u rows) ≡ true
    → (x : List ℕ) × (name_of u rows ≡ Some x)
some_name {A} u rows h = by_name (name_of u rows) refl h
  where
    by_name : (o : Option (List ℕ)) → name_of u rows ≡ o → is_some o ≡ true
        → (x : List ℕ) × (name_of u rows ≡ Some x)
    by_name (Some x) is some = (x, is)
    by_name None is some = absurd (cc)

pub number_among : {A : Type 0} (u : ℕ) (rows : List (Row A)) → is_some (name_of u rows) ≡ true
    → Among u (numbers_in rows)
number_among u [] h = absurd (cc)
number_among {A} u (Loader r ∷ rows) h =
    by_test (eqb r.number u) refl (λ k. number_among u rows k) h
  where
    by_test : (t : Bool) → eqb r.number u ≡ t
        → (is_some (name_of u rows) ≡ true → Among u (numbers_in rows))
        → is_some (cond t (Some r.name) (name_of u rows)) ≡ true
        → Among u (r.number ∷ numbers_in rows)
    by_test true is rest k = inl (sym (eqb-true r.number u is))
    by_test false is rest k = inr (rest k)
number_among u (Class r c ∷ rows) h = number_among u rows h

-- ---- class names

pub loader_differs : {A : Type 0} (shows : Shows A) (pre rows : List (Row A)) (r : _)
    → NamesDiffer shows pre rows → NamesDiffer shows pre (rows ++ Loader r ∷ [])
loader_differs shows pre [] r d = tt
loader_differs shows pre (Loader s ∷ rows) r d =
    loader_differs shows (pre ++ Loader s ∷ []) rows r d
loader_differs shows pre (Class s c ∷ rows) r d =
    (d.0, loader_differs shows (pre ++ Class s c ∷ []) rows r d.1)

pub class_differs : {A : Type 0} (shows : Shows A) (pre rows : List (Row A)) (r : ClassRow) (c : A)
    → NamesDiffer shows pre rows
    → class_among shows r.loader (shows.name c) (pre ++ rows) ≡ None
    → NamesDiffer shows pre (rows ++ Class r c ∷ [])
class_differs {A} shows pre [] r c d new = (
  subst (λ (l : List (Row A)). class_among shows r.loader (shows.name c) l ≡ None)
      (append-nil pre) new,
  tt,
)
class_differs {A} shows pre (Loader s ∷ rows) r c d new =
    class_differs shows (pre ++ Loader s ∷ []) rows r c d
    (subst (λ (l : List (Row A)). class_among shows r.loader (shows.name c) l ≡ None)
    (sym (append_assoc pre (Loader s ∷ []) rows)) new)
class_differs {A} shows pre (Class s k ∷ rows) r c d new = (
  d.0,
  class_differs shows (pre ++ Class s k ∷ []) rows r c d.1
      (subst (λ (l : List (Row A)). class_among shows r.loader (shows.name c) l ≡ None)
      (sym (append_assoc pre (Class s k ∷ []) rows)) new),
)

without_more : {A : Type 0} (u : ℕ) (pre : List (Row A)) (row : Row A) (t : Bool) → is_of u row ≡ t
    → without_loader u (pre ++ row ∷ [])
    ≡ cond t (without_loader u pre) (without_loader u pre ++ row ∷ [])
without_more {A} u pre row t is =
    filter-append (λ (r : Row A). not (is_of u r)) pre (row ∷ []) ∙ by_test t is
  where
    by_test : (b : Bool) → is_of u row ≡ b
        → without_loader u pre ++ cond (not (is_of u row)) (row ∷ []) []
        ≡ cond b (without_loader u pre) (without_loader u pre ++ row ∷ [])
    by_test true e = rw e (append-nil (without_loader u pre))
    by_test false e = rw e refl

pub differ_without : {A : Type 0} (shows : Shows A) (u : ℕ) (pre rows : List (Row A))
    → NamesDiffer shows pre rows
    → NamesDiffer shows (without_loader u pre) (without_loader u rows)
differ_without shows u pre [] d = tt
differ_without {A} shows u pre (Loader r ∷ rows) d =
    by_test (eqb r.number u) refl (differ_without shows u (pre ++ Loader r ∷ []) rows d)
  where
    by_test : (t : Bool) → eqb r.number u ≡ t
        → NamesDiffer shows (without_loader u (pre ++ Loader r ∷ [])) (without_loader u rows)
        → NamesDiffer shows (without_loader u pre)
        (cond (not t) (Loader r ∷ without_loader u rows) (without_loader u rows))
    by_test true is rest =
        subst (λ (l : List (Row A)). NamesDiffer shows l (without_loader u rows))
        (without_more u pre (Loader r) true is) rest
    by_test false is rest =
        subst (λ (l : List (Row A)). NamesDiffer shows l (without_loader u rows))
        (without_more u pre (Loader r) false is) rest
differ_without {A} shows u pre (Class r c ∷ rows) d =
    by_test (eqb r.loader u) refl (differ_without shows u (pre ++ Class r c ∷ []) rows d.1)
  where
    by_test : (t : Bool) → eqb r.loader u ≡ t
        → NamesDiffer shows (without_loader u (pre ++ Class r c ∷ [])) (without_loader u rows)
        → NamesDiffer shows (without_loader u pre)
        (cond (not t) (Class r c ∷ without_loader u rows) (without_loader u rows))
    by_test true is rest =
        subst (λ (l : List (Row A)). NamesDiffer shows l (without_loader u rows))
        (without_more u pre (Class r c) true is) rest
    by_test false is rest = (
      class_left shows r.loader u (shows.name c) pre is ∙ d.0,
      subst (λ (l : List (Row A)). NamesDiffer shows l (without_loader u rows))
          (without_more u pre (Class r c) false is) rest,
    )

pub differ_without_all : {A : Type 0} (shows : Shows A) (us : List ℕ) (rows : List (Row A))
    → NamesDiffer shows [] rows → NamesDiffer shows [] (without_loaders us rows)
differ_without_all shows [] rows d = d
differ_without_all shows (u ∷ us) rows d =
    differ_without_all shows us (without_loader u rows) (differ_without shows u [] rows d)

pub differ_moved : {A : Type 0} (shows : Shows A) (from to : Chunk) (pre rows : List (Row A))
    → NamesDiffer shows pre rows → NamesDiffer shows (moved from to pre) (moved from to rows)
differ_moved shows from to pre [] d = tt
differ_moved {A} shows from to pre (Loader r ∷ rows) d =
    subst (λ (l : List (Row A)). NamesDiffer shows l (moved from to rows))
    (map-append (λ (row : Row A). moved_row from to row) pre (Loader r ∷ []))
    (differ_moved shows from to (pre ++ Loader r ∷ []) rows d)
differ_moved {A} shows from to pre (Class r c ∷ rows) d =
    by_test (same_chunk r.place.chunk from) refl
    (subst (λ (l : List (Row A)). NamesDiffer shows l (moved from to rows))
    (map-append (λ (row : Row A). moved_row from to row) pre (Class r c ∷ []))
    (differ_moved shows from to (pre ++ Class r c ∷ []) rows d.1))
  where
    new : class_among shows r.loader (shows.name c) (moved from to pre) ≡ None
    new = class_moved shows r.loader (shows.name c) from to pre ∙ d.0

    by_test : (t : Bool) → same_chunk r.place.chunk from ≡ t
        → NamesDiffer shows (moved from to pre ++ moved_row from to (Class r c) ∷ [])
        (moved from to rows)
        → NamesDiffer shows (moved from to pre)
        (cond t (Class (record r { place = record r.place { chunk = to } }) c) (Class r c)
        ∷ moved from to rows)
    by_test true is rest = (
      new,
      subst (λ (row : Row A). NamesDiffer shows (moved from to pre ++ row ∷ [])
          (moved from to rows))
          (rw is refl) rest,
    )
    by_test false is rest = (
      new,
      subst (λ (row : Row A). NamesDiffer shows (moved from to pre ++ row ∷ [])
          (moved from to rows))
          (rw is refl) rest,
    )
