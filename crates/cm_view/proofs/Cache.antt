-- A view of contents that stand for a cache shows that cache.
-- For `views_show_caches`, `View::find`.
use Rattle.std.proofs.Common.{◌≡◌, ℕ, suc, zero, ◌<◌, Bool, true, false, cond, List, [], ◌∷◌}
use Rattle.std.proofs.Common.{length}
use Rattle.std.proofs.Common.{get_or, Option, Some, None, refl, sym, ap, subst, ◌∙◌, arith, is_some}
use Rattle.std.specs.Prelude.{IsSome, IfSome, IfOk, IfErr, Result, Ok, Err}
use Rattle.std.specs.FinMap as map
use Rattle.std.specs.Option.{option_and_then}
use Rattle.std.specs.Str.{bytes_eq}
use Rattle.std.proofs.lemmas.List.Sorted.{All-permutation, Contains-permutation, IsPermutation-sym}
use Rattle.std.proofs.lemmas.Slice.Eq.{bytes_eq-Decides}
use Rattle.cm_class.specs.declared.class_file.ClassFile.{ClassFile}
use Rattle.cm_layout.specs.declared.loader_row.LoaderRow.{LoaderRow}
use Rattle.cm_layout.specs.declared.row.Row.{Row}
use Rattle.cm_layout.specs.declared.row.Row.TheVariants.{Loader, Class}
use Rattle.cm_layout.specs.Rows.{number_of, bare}
use Rattle.cm_layout.specs.Loaders.{LoadersDiffer}
use Rattle.cm_layout.proofs.{own_loaders, number-bare}
use Rattle.cm_state.specs.State.{CacheState, ByName, class_in, class_shows}
use Rattle.cm_state.specs.Laws.{ClassesAreFound, LoadersAreFound}
use Rattle.cm_verdict.specs.declared.defined_at.DefinedAt.{DefinedAt}
use Rattle.cm_verdict.specs.Laws.{FoundIsLive, VerdictStands, StandsInVerdict}
use Rattle.cm_view.specs.declared.view.View.{View}
use Rattle.cm_view.specs.Listing.{loaders_in}
use Rattle.cm_view.specs.Loaders.{HasLoader, HasNoLoader}
use Rattle.cm_view.specs.Views.{IsViewOf, ViewsShowCaches, IsAnswerOf, HasNoneIn}
use Rattle.cm_view_index.specs.declared.row.ViewRow.{ViewRow}
use Rattle.cm_view_index.specs.Index.{IsIndexOf}
use Rattle.cm_view.specs.declared.fault.FindFault.{FindFault}
use Rattle.cm_view.specs.declared.fault.FindFault.TheVariants as find_fault
use Rattle.cm_view.specs.Taking.{HasClass, row_words}
use Rattle.cm_view.specs.Finding.{IsFound, HasNone, IsFaultAmong}
use Rattle.cm_view.specs.Exactness.{IsExact}
use Rattle.cm_view.proofs.Kept.{is_kept}
use Rattle.cm_view.proofs.Exact.{same_number, view_exact}

-- ---- the number of a loader

loaders-bare : {P : Type 0} (rows : List (Row P)) → loaders_in (bare rows) ≡ loaders_in rows
loaders-bare [] = refl
loaders-bare (Loader r ∷ rows) = ap (λ l. r ∷ l) (loaders-bare rows)
loaders-bare (Class r p ∷ rows) = loaders-bare rows

-- a loader among rows whose loaders differ has its number under its name
number_here : {P : Type 0} (rows : List (Row P)) (k : ℕ) (d : LoaderRow) → LoadersDiffer rows
    → k < length (loaders_in rows)
    → number_of (get_or (loaders_in rows) k d).name rows
    ≡ Some (get_or (loaders_in rows) k d).number
number_here [] k d differ lt = absurd (omega arith)
number_here (Class r p ∷ rows) k d differ lt = number_here rows k d differ lt
number_here (Loader r ∷ rows) zero d differ lt =
    rw ((bytes_eq-Decides r.name r.name).1 refl) refl
number_here (Loader r ∷ rows) (suc k) d differ lt =
    by_test (bytes_eq r.name (get_or (loaders_in rows) k d).name) refl
    (number_here rows k d differ.2 (omega arith))
  where
    by_test : (t : Bool) → bytes_eq r.name (get_or (loaders_in rows) k d).name ≡ t
        → number_of (get_or (loaders_in rows) k d).name rows
        ≡ Some (get_or (loaders_in rows) k d).number
        → cond t (Some r.number) (number_of (get_or (loaders_in rows) k d).name rows)
        ≡ Some (get_or (loaders_in rows) k d).number
    by_test true is next =
        let same = (bytes_eq-Decides r.name (get_or (loaders_in rows) k d).name).0 is in
        let none : number_of (get_or (loaders_in rows) k d).name rows ≡ None =
        ap (λ (x : List ℕ). number_of x rows) (sym same) ∙ differ.1 in
        absurd (cc)
    by_test false is next = next

none_here : {P : Type 0} (rows : List (Row P)) (name : List ℕ) → HasNoLoader (loaders_in rows) name
    → number_of name rows ≡ None
none_here [] name none = refl
none_here (Class r p ∷ rows) name none = none_here rows name none
none_here (Loader r ∷ rows) name none =
    by_test (bytes_eq r.name name) refl
    (none_here rows name (λ k d lt. none (suc k) d (omega arith)))
  where
    by_test : (t : Bool) → bytes_eq r.name name ≡ t → number_of name rows ≡ None
        → cond t (Some r.number) (number_of name rows) ≡ None
    by_test true is next = absurd (none 0 r (omega arith) ((bytes_eq-Decides r.name name).0 is))
    by_test false is next = next

-- if a number is found, there is such a loader
some_there : {P : Type 0} (rows : List (Row P)) (name : List ℕ) (u : ℕ)
    → number_of name rows ≡ Some u → HasLoader (loaders_in rows) name u
some_there [] name u e = absurd (cc)
some_there (Class r p ∷ rows) name u e = some_there rows name u e
some_there (Loader r ∷ rows) name u e =
    by_test (bytes_eq r.name name) refl e (some_there rows name u)
  where
    by_test : (t : Bool) → bytes_eq r.name name ≡ t
        → cond t (Some r.number) (number_of name rows) ≡ Some u
        → (number_of name rows ≡ Some u → HasLoader (loaders_in rows) name u)
        → HasLoader (r ∷ loaders_in rows) name u
    by_test true is e rest = record {
      loader = r;
      among = (0, omega arith, refl);
      named = (bytes_eq-Decides r.name name).0 is;
      number_is = cc;
    }
    by_test false is e rest =
        let more = rest e in
        record {
          loader = more.loader;
          among = (suc more.among.0, (let lt = more.among.1 in omega arith), more.among.2);
          named = more.named;
          number_is = more.number_is;
        }

module _ (live : FoundIsLive) (contents : List ℕ) (view : View) (of : IsViewOf contents view) where
  abbrev rows_found : List (Row DefinedAt)
  rows_found = of.found.rows

  differs : LoadersDiffer (bare rows_found)
  differs =
      (own_loaders of.found.sizes of.found.number (bare rows_found)
      (live contents of.found of.rows.found_is).live).differ

  pub number_is_found : (name : List ℕ) (u : ℕ) → HasLoader view.loaders.items name u
      → number_of name rows_found ≡ Some u
  number_is_found name u h =
      let inside = Contains-permutation view.loaders.items (loaders_in rows_found) h.loader
      (IsPermutation-sym (loaders_in rows_found) view.loaders.items of.loaders) h.among in
      let k = inside.0 in
      let lt = inside.1 in
      let bare_is = loaders-bare rows_found in
      let here = number_here (bare rows_found) k h.loader differs
      (omega (arith, ap length bare_is)) in
      let read : get_or (loaders_in (bare rows_found)) k h.loader ≡ h.loader =
      ap (λ (l : List LoaderRow). get_or l k h.loader) bare_is ∙ inside.2 in
      sym (number-bare name rows_found)
      ∙ (ap (λ (x : List ℕ). number_of x (bare rows_found))
      (sym h.named ∙ ap (λ (r : LoaderRow). r.name) (sym read))
      ∙ (here ∙ ap (λ (r : LoaderRow). Some r.number) read ∙ ap (λ n. Some n) h.number_is))

  pub number_isnt_found : (name : List ℕ) → HasNoLoader view.loaders.items name
      → number_of name rows_found ≡ None
  number_isnt_found name none =
      none_here rows_found name
      (All-permutation (λ (r : LoaderRow). r.name ≡ name → ⊥) view.loaders.items
      (loaders_in rows_found)
      (IsPermutation-sym (loaders_in rows_found) view.loaders.items of.loaders) none)

  pub loader_there : (name : List ℕ) (u : ℕ) → number_of name rows_found ≡ Some u
      → HasLoader view.loaders.items name u
  loader_there name u e =
      let there = some_there rows_found name u e in
      record {
        loader = there.loader;
        among = Contains-permutation (loaders_in rows_found) view.loaders.items there.loader
            of.loaders there.among;
        named = there.named;
        number_is = there.number_is;
      }

  -- a name has one number
  pub one_number : (name : List ℕ) (u v : ℕ) → HasLoader view.loaders.items name u
      → HasLoader view.loaders.items name v → u ≡ v
  one_number name u v h k =
      let first = number_is_found name u h in
      let second = number_is_found name v k in
      cc

pub not_both : (loaders : List LoaderRow) (name : List ℕ) (u : ℕ) → HasNoLoader loaders name
    → HasLoader loaders name u → ⊥
not_both loaders name u none h =
    none h.among.0 h.loader h.among.1 (ap (λ (r : LoaderRow). r.name) h.among.2 ∙ h.named)

-- nothing is found in the loader of a name, since nothing is found under its number
pub none_told : FoundIsLive → (contents : List ℕ) (view : View) (loader name : List ℕ)
    (number : ℕ) → HasLoader view.loaders.items loader number
    → (rows : List ViewRow) → rows ≡ view.rows.items
    → (r : Result (Option (List ℕ)) FindFault)
    → IfOk r (λ found. found ≡ None → IsIndexOf contents rows → HasNone contents rows number name)
    → IfOk r (λ found. found ≡ None → IsViewOf contents view
    → HasNoneIn contents view loader name)
none_told live contents view loader name number has rows same (Err e) told = tt
none_told live contents view loader name number has rows same (Ok o) told = λ none of.
    let index = subst (IsIndexOf contents) (sym same) of.index in
    let here =
    subst (λ (l : List ViewRow). HasNone contents l number name) same (told none index) in
    record {
      none = λ other owner.
          subst (λ (u : ℕ). HasNone contents view.rows.items u name)
          (one_number live contents view of loader number other has owner) here;
    }

-- ---- the cache

some_value : {A : Type 0} (o : Option A) → is_some o ≡ true → (x : A) × (o ≡ Some x)
some_value None e = absurd (cc)
some_value (Some x) e = (x, refl)

pub shows_cache : FoundIsLive → VerdictStands → StandsInVerdict → LoadersAreFound ClassFile
    → ClassesAreFound ClassFile → ViewsShowCaches
shows_cache live stands in_verdict loaders classes sizes contents m arenas n view st of =
    let v = in_verdict sizes contents m arenas n st in
    let p = stands contents v.0 v.1.ok in
    let same : (name : List ℕ)
    → is_some (map.get m name) ≡ is_some (number_of name of.found.rows) = λ name.
    ap (λ (k : CacheState). is_some (map.get k name)) (sym v.1.state_is)
    ∙ (loaders class_shows v.0.rows name
    ∙ ap is_some (same_number contents v.0 p of.found view.rows.items of.rows name)) in
    record {
      loaders = λ name. (
        (λ some.
            let u = some_value (number_of name of.found.rows)
            (sym (same name) ∙ some) in
            (u.0, loader_there live contents view of name u.0 u.1)),
        λ h. same name ∙ ap is_some (number_is_found live contents view of name h.0 h.1),
      );
      classes = λ name u h.
          view_exact stands in_verdict classes sizes contents m arenas n of.found view.rows.items
          name u st of.rows (number_is_found live contents view of name u h);
    }

-- ---- answers

pub none_in : (m : CacheState) (loader name : List ℕ) → (IsSome (map.get m loader) → ⊥)
    → class_in m loader name ≡ None
none_in m loader name none = by_loader (map.get m loader) none
  where
    by_loader : (o : Option (ByName ClassFile)) → (IsSome o → ⊥)
        → option_and_then (λ classes. map.get classes name) o ≡ None
    by_loader None no_one = refl
    by_loader (Some x) no_one = absurd (no_one refl)

module _ (contents : List ℕ) (m : CacheState) (loader name : List ℕ) (number : ℕ)
    (rows : List ViewRow) (exact : IsExact contents m loader number rows)
    (index : IsIndexOf contents rows) where
  none_answer : HasNone contents rows number name → class_in m loader name ≡ None
  none_answer none = by_class (class_in m loader name) refl
    where
      by_class : (o : Option ClassFile) → class_in m loader name ≡ o → o ≡ None
      by_class None e = refl
      by_class (Some c) e =
          let is = exact.all name c e in
          let k = is.0.among in
          absurd (none k.0 is.0.row c k.1
          (ap (λ (r : ViewRow). r.loader) k.2 ∙ is.0.owner)
          (subst (λ (r : ViewRow). HasClass contents r c) (sym k.2) is.0.has) is.1)

  pub answer_of : (r : Result (Option (List ℕ)) FindFault)
      → IfOk r (λ found. IfSome found (λ words. IsFound contents rows number name words))
      → IfOk r (λ found. found ≡ None → IsIndexOf contents rows
      → HasNone contents rows number name)
      → IfErr r (λ e. IsFaultAmong contents rows number e) → IsAnswerOf m loader name r
  answer_of (Ok None) found none fault = none_answer (none refl index)
  answer_of (Ok (Some words)) found none fault =
      let c = found.taken.class in
      let has = found.taken.has in
      let there = exact.only c (record {
        row = found.row;
        among = found.among;
        owner = found.owner;
        has = has;
      }) in (
        c,
        ap (λ (x : List ℕ). class_in m loader x) (sym found.named) ∙ there,
        found.taken.words_are ∙ (is_kept (row_words contents found.row) c has.kept).laid,
      )
  answer_of (Err (find_fault.Damaged slot)) found none fault =
      let k = fault.among in
      let has = exact.each k.0 fault.row k.1 in
      absurd (fault.none has.0 (subst (λ (r : ViewRow). HasClass contents r has.0) k.2 has.1))
  answer_of (Err find_fault.NoMemory) found none fault = refl
