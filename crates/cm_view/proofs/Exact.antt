-- The rows of a file that stands for a cache have the cache's classes.
-- For `view_is_exact`, `View::open`.
use Rattle.std.proofs.Common.{◌≡◌, ℕ, suc, zero, ◌<◌, Bool, true, false, cond, List, [], ◌∷◌}
use Rattle.std.proofs.Common.{◌++◌, length, get_or, slice_get, Some, None, Ok, refl, sym, ap}
use Rattle.std.proofs.Common.{subst, ◌∙◌, arith, is_some, eq-eqb}
use Rattle.std.specs.Prelude.{Result, ◌&&◌, ◌==◌}
use Rattle.std.specs.Option.{option_and_then}
use Rattle.std.specs.Str.{bytes_eq}
use Rattle.std.specs.List.{AllByRecursion, AllZip}
use Rattle.std.proofs.lemmas.Bool.{and_parts, eqb-true}
use Rattle.std.proofs.lemmas.List.Elements.{All-from_recursion, recursion_from_All}
use Rattle.std.proofs.lemmas.List.Sorted.{All-permutation, Contains-permutation, IsPermutation-sym}
use Rattle.std.proofs.lemmas.Slice.Eq.{bytes_eq-Decides}
use Rattle.cm_class.specs.declared.class_file.ClassFile.{ClassFile}
use Rattle.cm_class.specs.Names.{class_name_of}
use Rattle.cm_record_layout.specs.Layout.{lay}
use Rattle.cm_pool.specs.Geometry.{Sizes}
use Rattle.cm_layout.specs.declared.class_row.ClassRow.{ClassRow}
use Rattle.cm_layout.specs.declared.row.Row.{Row}
use Rattle.cm_layout.specs.declared.row.Row.TheVariants.{Loader, Class}
use Rattle.cm_layout.specs.Rows.{rows_with, bare, number_of}
use Rattle.cm_layout.proofs.{number-bare, bare-with}
use Rattle.cm_state.specs.State.{CacheState, class_in, class_among, class_shows, NamesDiffer}
use Rattle.cm_state.specs.Stands.{EachKeepsRules}
use Rattle.cm_state.specs.Laws.{ClassesAreFound}
use Rattle.cm_verdict.specs.declared.defined_at.DefinedAt.{DefinedAt}
use Rattle.cm_verdict.specs.declared.fault.FileFault.{FileFault}
use Rattle.cm_verdict.specs.Found.{Found}
use Rattle.cm_verdict.specs.Verdict.{Standing, state_in, class_kept, words_at}
use Rattle.cm_verdict.specs.Laws.{Proves, rows_words, VerdictStands, StandsInVerdict}
use Rattle.cm_verdict.proofs.{bare_words}
use Rattle.cm_view_index.specs.declared.row.ViewRow.{ViewRow}
use Rattle.cm_view.specs.Taking.{IsThere, HasClass, row_words}
use Rattle.cm_view.specs.Listing.{marked_rows}
use Rattle.cm_view.specs.Exactness.{AreRowsOf, IsClassAmong, IsExact, ViewIsExact}
use Rattle.cm_view.proofs.Kept.{kept_again}

-- ---- classes with the numbers of their loaders

pub record Owned : Type 0 where
  pub loader : ℕ
  pub class : ClassFile

unfoldable pub owned : List (Row ClassFile) → List Owned
owned [] = []
owned (Loader r ∷ rows) = owned rows
owned (Class r c ∷ rows) = record { loader = r.loader; class = c } ∷ owned rows

-- a row of a view is of this loader, and has this class
pub record IsRowOf (contents : List ℕ) (row : ViewRow) (o : Owned) : Type 0 where
  pub owner : row.loader ≡ o.loader
  pub has : HasClass contents row o.class

pub rows_alike : (sizes : Sizes) (contents : List ℕ) (rows : List (Row DefinedAt))
    (classes : List (Row ClassFile)) → rows_with lay classes ≡ rows_words sizes contents rows
    → EachKeepsRules classes → AllByRecursion (IsThere contents) (marked_rows contents sizes rows)
    → AllZip (IsRowOf contents) (marked_rows contents sizes rows) (owned classes)
unfolding owned
rows_alike sizes contents [] [] e keep there = tt
rows_alike sizes contents [] (d ∷ classes) e keep there = absurd (cc)
rows_alike sizes contents (q ∷ rows) [] e keep there = absurd (cc)
rows_alike sizes contents (Loader q ∷ rows) (Loader r ∷ classes) e keep there =
    let tail : rows_with lay classes ≡ rows_words sizes contents rows = cc in
    rows_alike sizes contents rows classes tail keep there
rows_alike sizes contents (Class q at ∷ rows) (Class r c ∷ classes) e keep there =
    let same : r ≡ q = cc in
    let laid : lay c ≡ words_at sizes contents q.place = cc in
    let tail : rows_with lay classes ≡ rows_words sizes contents rows = cc in (
      record {
        owner = ap (λ (x : ClassRow). x.loader) (sym same);
        has = record {
          there = there.0;
          kept = ap class_kept (sym laid) ∙ kept_again c keep.0;
        };
      },
      rows_alike sizes contents rows classes tail keep.1 there.1,
    )
rows_alike sizes contents (Loader q ∷ rows) (Class r c ∷ classes) e keep there = absurd (cc)
rows_alike sizes contents (Class q at ∷ rows) (Loader r ∷ classes) e keep there = absurd (cc)

-- ---- what is among them

-- a class of this name in this loader is one of the rows'
pub found_among : (contents : List ℕ) (u : ℕ) (name : List ℕ) (c : ClassFile)
    (rows : List (Row ClassFile)) (views : List ViewRow)
    → AllZip (IsRowOf contents) views (owned rows)
    → class_among class_shows u name rows ≡ Some c
    → IsClassAmong contents views u c × (class_name_of c ≡ name)
unfolding owned
found_among contents u name c [] views zip e = absurd (cc)
found_among contents u name c (Loader r ∷ rows) views zip e =
    found_among contents u name c rows views zip e
found_among contents u name c (Class r d ∷ rows) [] zip e = absurd zip
found_among contents u name c (Class r d ∷ rows) (v ∷ views) zip e =
    by_test ((r.loader == u) && bytes_eq (class_name_of d) name) refl e
    (found_among contents u name c rows views zip.1)
  where
    by_test : (t : Bool) → ((r.loader == u) && bytes_eq (class_name_of d) name) ≡ t
        → cond t (Some d) (class_among class_shows u name rows) ≡ Some c
        → (class_among class_shows u name rows ≡ Some c
        → IsClassAmong contents views u c × (class_name_of c ≡ name))
        → IsClassAmong contents (v ∷ views) u c × (class_name_of c ≡ name)
    by_test true yes_is e rest =
        let same : d ≡ c = cc in
        let both = and_parts (r.loader == u) (bytes_eq (class_name_of d) name) yes_is in (
          record {
            row = v;
            among = (0, omega arith, refl);
            owner = zip.0.owner ∙ eqb-true r.loader u both.0;
            has = subst (HasClass contents v) same zip.0.has;
          },
          ap class_name_of (sym same) ∙ (bytes_eq-Decides (class_name_of d) name).0 both.1,
        )
    by_test false no_is e rest =
        let more = rest e in
        let found = more.0 in (
          record {
            row = found.row;
            among = (suc found.among.0, (let lt = found.among.1 in omega arith), found.among.2);
            owner = found.owner;
            has = found.has;
          },
          more.1,
        )

-- ---- a class that is found is the only one of its name

pub among_more : (u : ℕ) (name : List ℕ) (rows more : List (Row ClassFile))
    → is_some (class_among class_shows u name rows) ≡ true
    → is_some (class_among class_shows u name (rows ++ more)) ≡ true
among_more u name [] more e = absurd (cc)
among_more u name (Loader r ∷ rows) more e = among_more u name rows more e
among_more u name (Class r d ∷ rows) more e =
    by_test ((r.loader == u) && bytes_eq (class_name_of d) name) e (among_more u name rows more)
  where
    by_test : (t : Bool)
        → is_some (cond t (Some d) (class_among class_shows u name rows)) ≡ true
        → (is_some (class_among class_shows u name rows) ≡ true
        → is_some (class_among class_shows u name (rows ++ more)) ≡ true)
        → is_some (cond t (Some d) (class_among class_shows u name (rows ++ more))) ≡ true
    by_test true e next = refl
    by_test false e next = next e

pub among_last : (u : ℕ) (name : List ℕ) (rows : List (Row ClassFile)) (r : ClassRow)
    (c : ClassFile)
    → ((r.loader == u) && bytes_eq (class_name_of c) name) ≡ true
    → is_some (class_among class_shows u name (rows ++ Class r c ∷ [])) ≡ true
among_last u name [] r c e = rw e refl
among_last u name (Loader q ∷ rows) r c e = among_last u name rows r c e
among_last u name (Class q d ∷ rows) r c e =
    by_test ((q.loader == u) && bytes_eq (class_name_of d) name) (among_last u name rows r c e)
  where
    by_test : (t : Bool)
        → is_some (class_among class_shows u name (rows ++ Class r c ∷ [])) ≡ true
        → is_some (cond t (Some d) (class_among class_shows u name (rows ++ Class r c ∷ [])))
        ≡ true
    by_test true next = refl
    by_test false next = next

-- what is among the rows before isn't among those that follow
not_later : (before rows : List (Row ClassFile)) (k : ℕ) (o : Owned)
    → NamesDiffer class_shows before rows
    → is_some (class_among class_shows o.loader (class_name_of o.class) before) ≡ true
    → slice_get (owned rows) k ≡ Some o → ⊥
unfolding owned
not_later before [] k o differ some e = absurd (cc)
not_later before (Loader r ∷ rows) k o differ some e =
    not_later (before ++ Loader r ∷ []) rows k o differ
    (among_more o.loader (class_name_of o.class) before (Loader r ∷ []) some) e
not_later before (Class r c ∷ rows) zero o differ some e =
    let same : record { loader = r.loader; class = c } ≡ o = cc in
    let none : class_among class_shows o.loader (class_name_of o.class) before ≡ None =
    subst (λ (p : Owned). class_among class_shows p.loader (class_name_of p.class) before ≡ None)
    same differ.0 in
    let none_is
    : is_some (class_among class_shows o.loader (class_name_of o.class) before) ≡ false =
    ap is_some none in
    absurd (cc)
not_later before (Class r c ∷ rows) (suc k) o differ some e =
    not_later (before ++ Class r c ∷ []) rows k o differ.1
    (among_more o.loader (class_name_of o.class) before (Class r c ∷ []) some) e

only_one : (before rows : List (Row ClassFile)) (k : ℕ) (o : Owned)
    → NamesDiffer class_shows before rows → slice_get (owned rows) k ≡ Some o
    → class_among class_shows o.loader (class_name_of o.class) rows ≡ Some o.class
unfolding owned
only_one before [] k o differ e = absurd (cc)
only_one before (Loader r ∷ rows) k o differ e =
    only_one (before ++ Loader r ∷ []) rows k o differ e
only_one before (Class r c ∷ rows) zero o differ e =
    let same : record { loader = r.loader; class = c } ≡ o = cc in
    subst
    (λ (p : Owned). class_among class_shows p.loader (class_name_of p.class) (Class r c ∷ rows)
    ≡ Some p.class) same
    (rw (
      eq-eqb r.loader r.loader refl,
      (bytes_eq-Decides (class_name_of c) (class_name_of c)).1 refl,
    ) refl)
only_one before (Class r c ∷ rows) (suc k) o differ e =
    by_test ((r.loader == o.loader) && bytes_eq (class_name_of c) (class_name_of o.class)) refl
    (only_one (before ++ Class r c ∷ []) rows k o differ.1 e)
  where
    by_test : (t : Bool)
        → ((r.loader == o.loader) && bytes_eq (class_name_of c) (class_name_of o.class)) ≡ t
        → class_among class_shows o.loader (class_name_of o.class) rows ≡ Some o.class
        → cond t (Some c) (class_among class_shows o.loader (class_name_of o.class) rows)
        ≡ Some o.class
    by_test true yes_is next =
        absurd (not_later (before ++ Class r c ∷ []) rows k o differ.1
        (among_last o.loader (class_name_of o.class) before r c yes_is) e)
    by_test false no_is next = next

-- ---- a place of both lists

record IsRowAt (contents : List ℕ) (os : List Owned) (k : ℕ) (row : ViewRow) : Type 0 where
  one : Owned
  there : slice_get os k ≡ Some one
  is : IsRowOf contents row one

zip_at : (contents : List ℕ) (views : List ViewRow) (os : List Owned) (k : ℕ) (d : ViewRow)
    → AllZip (IsRowOf contents) views os → k < length views
    → IsRowAt contents os k (get_or views k d)
zip_at contents [] [] k d zip lt = absurd (omega arith)
zip_at contents [] (o ∷ os) k d zip lt = absurd zip
zip_at contents (v ∷ views) [] k d zip lt = absurd zip
zip_at contents (v ∷ views) (o ∷ os) zero d zip lt =
    record { one = o; there = refl; is = zip.0 }
zip_at contents (v ∷ views) (o ∷ os) (suc k) d zip lt =
    let more = zip_at contents views os k d zip.1 (omega arith) in
    record { one = more.one; there = more.there; is = more.is }

one_class : (a b : ClassFile) (words : List ℕ) → class_kept words ≡ Some a
    → class_kept words ≡ Some b → a ≡ b
one_class a b words e f = cc

each_has : (contents : List ℕ) (views : List ViewRow) (os : List Owned)
    → AllZip (IsRowOf contents) views os
    → AllByRecursion (λ (row : ViewRow). (c : ClassFile) × HasClass contents row c) views
each_has contents [] [] zip = tt
each_has contents [] (o ∷ os) zip = absurd zip
each_has contents (v ∷ views) [] zip = absurd zip
each_has contents (v ∷ views) (o ∷ os) zip =
    ((o.class, zip.0.has), each_has contents views os zip.1)

-- ---- all together

abbrev pub found_ok : Found → Result Found FileFault
found_ok f = Ok f

pub found_same : (f g : Found) → found_ok f ≡ found_ok g → f ≡ g
found_same f g e = cc

module _ (contents : List ℕ) (s : Standing) (p : Proves contents s) (found : Found)
    (rows : List ViewRow) (of : AreRowsOf contents found rows) where
  pub found_same_is : found ≡ s.found
  found_same_is = found_same found s.found (sym of.found_is ∙ p.found)

  abbrev pub views : List ViewRow
  views = marked_rows contents found.sizes found.rows

  pub zipped : AllZip (IsRowOf contents) views (owned s.rows)
  zipped =
      rows_alike found.sizes contents found.rows s.rows
      (p.words ∙ ap (λ (f : Found). rows_words f.sizes contents f.rows) (sym found_same_is)) p.kept
      (recursion_from_All (IsThere contents) views (All-permutation (IsThere contents) rows views
      (IsPermutation-sym views rows of.same) of.there))

  -- the loader's number is the same among the classes
  pub same_number : (loader : List ℕ) → number_of loader s.rows ≡ number_of loader found.rows
  same_number loader =
      sym (number-bare loader s.rows)
      ∙ (ap (number_of loader) (sym (bare-with lay s.rows) ∙ (ap bare p.words
      ∙ bare_words s.found.sizes contents s.found.rows))
      ∙ (number-bare loader s.found.rows
      ∙ ap (λ (f : Found). number_of loader f.rows) (sym found_same_is)))

  exact : ClassesAreFound ClassFile → (m : CacheState) → state_in s ≡ m → (loader : List ℕ) (u : ℕ)
      → number_of loader found.rows ≡ Some u → IsExact contents m loader u rows
  exact tells m state loader u number =
      let among : (name : List ℕ)
      → class_in m loader name ≡ class_among class_shows u name s.rows = λ name.
      ap (λ (k : CacheState). class_in k loader name) (sym state)
      ∙ (tells class_shows s.rows loader name
      ∙ ap (option_and_then (λ v. class_among class_shows v name s.rows))
      (same_number loader ∙ number)) in
      record {
        each = All-permutation (λ (row : ViewRow). (c : ClassFile) × HasClass contents row c) views
            rows of.same
            (All-from_recursion (λ (row : ViewRow). (c : ClassFile) × HasClass contents row c) views
            (each_has contents views (owned s.rows) zipped));
        all = λ name c e.
            let f = found_among contents u name c s.rows views zipped (sym (among name) ∙ e) in (
              record {
                row = f.0.row;
                among = Contains-permutation views rows f.0.row of.same f.0.among;
                owner = f.0.owner;
                has = f.0.has;
              },
              f.1,
            );
        only = λ c is.
            let inside = Contains-permutation rows views is.row
            (IsPermutation-sym views rows of.same) is.among in
            let k = inside.0 in
            let at = zip_at contents views (owned s.rows) k is.row zipped inside.1 in
            let here : IsRowOf contents is.row at.one =
            subst (λ (r : ViewRow). IsRowOf contents r at.one) inside.2 at.is in
            let class : at.one.class ≡ c =
            one_class at.one.class c (row_words contents is.row) here.has.kept is.has.kept in
            let owner : at.one.loader ≡ u = sym here.owner ∙ is.owner in
            among (class_name_of c)
            ∙ ((λ i. class_among class_shows (sym owner i) (class_name_of (sym class i)) s.rows)
            ∙ (only_one [] s.rows k at.one p.differ at.there ∙ ap (λ x. Some x) class));
      }

pub view_exact : VerdictStands → StandsInVerdict → ClassesAreFound ClassFile → ViewIsExact
view_exact stands in_verdict tells sizes contents m arenas n found rows loader u st of number =
    let v = in_verdict sizes contents m arenas n st in
    exact contents v.0 (stands contents v.0 v.1.ok) found rows of tells m v.1.state_is loader u
    number
