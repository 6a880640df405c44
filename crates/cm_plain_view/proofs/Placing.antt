-- What a place among rows says.
-- For `find_class`.
use Rattle.std.proofs.Common.{◌≡◌, ℕ, List, [], Option, Some, None, get_or, refl, ap}
use Rattle.std.proofs.Common.{sym, subst, ◌∙◌}
use Rattle.std.specs.Prelude.{IfSome, IfNone, Ok, unwrap_or}
use Rattle.std.proofs.lemmas.List.{get_or_default}
use Rattle.cm_class.specs.declared.class_file.ClassFile.{ClassFile}
use Rattle.cm_class.specs.Names.{class_name_of}
use Rattle.cm_layout.specs.declared.loader_row.LoaderRow.{LoaderRow}
use Rattle.cm_pool.specs.Geometry.{Sizes}
use Rattle.cm_state.specs.State.{CacheState, class_in}
use Rattle.cm_state.specs.Stands.{Arenas, Stands}
use Rattle.cm_verdict.specs.Laws.{FoundIsLive}
use Rattle.cm_view_index.specs.declared.row.ViewRow.{ViewRow}
use Rattle.cm_view_index.specs.Rows.{ShowsName}
use Rattle.cm_view_index.specs.Index.{IsIndexOf, IsRowAt, HasNoRow as NoRowShows}
use Rattle.cm_view.specs.Taking.{HasClass}
use Rattle.cm_view.specs.Finding.{HasNone}
use Rattle.cm_view.specs.Loaders.{AreInOrder, HasLoader as HasRow, HasNoLoader as HasNoRow}
use Rattle.cm_view.specs.Exactness.{IsExact}
use Rattle.cm_view.specs.Views.{HasNoneIn, ViewsShowCaches}
use Rattle.cm_view.proofs.{not_both, none_in, none_told, answer_of}
use Rattle.cm_plain_view.specs.declared.loader.ViewLoader.{ViewLoader}
use Rattle.cm_plain_view.specs.Loaders.{AreSorted, HasLoader, HasNoLoader}
use Rattle.cm_plain_view.specs.Views.{IsPlainView, IsPlaceIn}
use Rattle.cm_plain_view.proofs.Loaders.{sorted_as, has_row, no_row}

module _ (bytes : List ℕ) (rows : List ViewRow) (loaders : List ViewLoader)
    (loader name : List ℕ) where
  -- ---- no loader has the name

  no_row_in : (AreSorted loaders → HasNoLoader loaders loader)
      → (p : IsPlainView bytes rows loaders) → HasNoRow p.view.loaders.items loader
  no_row_in none p =
      subst (λ (l : List LoaderRow). HasNoRow l loader) p.loaders_are
      (no_row loaders loader
      (none (sorted_as loaders (subst AreInOrder (sym p.loaders_are) p.of.in_order))))

  pub none_of_loader : (AreSorted loaders → HasNoLoader loaders loader)
      → (p : IsPlainView bytes rows loaders) → HasNoneIn bytes p.view loader name
  none_of_loader none p = record {
    none = λ number owner.
        absurd (not_both p.view.loaders.items loader number (no_row_in none p) owner);
  }

  pub loader_missing : ViewsShowCaches → (AreSorted loaders → HasNoLoader loaders loader)
      → (sizes : Sizes) (m : CacheState) (arenas : Arenas) (n : ℕ)
      → Stands sizes bytes m arenas n → IsPlainView bytes rows loaders
      → class_in m loader name ≡ None
  loader_missing caches none sizes m arenas n stands p =
      let shows = caches sizes bytes m arenas n p.view stands p.of in
      none_in m loader name
      (λ some. let h = (shows.loaders loader).0 some in
      not_both p.view.loaders.items loader h.0 (no_row_in none p) h.1)

  -- ---- a loader has it

  module _ (number : ℕ) (has : HasLoader loaders loader number)
      (named : (row : ViewRow) (c : ClassFile) → HasClass bytes row c
      → ShowsName bytes row (class_name_of c)) where
    owner_in : (p : IsPlainView bytes rows loaders) → HasRow p.view.loaders.items loader number
    owner_in p =
        subst (λ (l : List LoaderRow). HasRow l loader number) p.loaders_are
        (has_row loaders loader number has)

    index_of : (p : IsPlainView bytes rows loaders) → IsIndexOf bytes rows
    index_of p = subst (IsIndexOf bytes) (sym p.rows_are) p.of.index

    -- what no row shows no row has
    no_class : NoRowShows bytes rows number name → HasNone bytes rows number name
    no_class none k d c lt owner has_class is =
        let row = get_or rows k d in
        none k d lt owner (subst (λ (x : List ℕ). ShowsName bytes row x) is (named row c has_class))

    pub none_of_row : FoundIsLive → (r : Option ℕ)
        → IfNone r (IsIndexOf bytes rows → NoRowShows bytes rows number name)
        → IfNone r ((p : IsPlainView bytes rows loaders) → HasNoneIn bytes p.view loader name)
    none_of_row live None none = λ p.
        none_told live bytes p.view loader name number (owner_in p) rows p.rows_are (Ok None)
        (λ is index. no_class (none index)) refl p.of
    none_of_row live (Some at) none = tt

    module _ (caches : ViewsShowCaches) (sizes : Sizes) (m : CacheState) (arenas : Arenas) (n : ℕ)
        (stands : Stands sizes bytes m arenas n) (p : IsPlainView bytes rows loaders) where
      exact : IsExact bytes m loader number rows
      exact =
          let shows = caches sizes bytes m arenas n p.view stands p.of in
          subst (λ (l : List ViewRow). IsExact bytes m loader number l) (sym p.rows_are)
          (shows.classes loader number (owner_in p))

      placed : (at : ℕ) → IsRowAt bytes rows number name at
          → IsPlaceIn m bytes rows loader name (Some at)
      placed at there =
          let row = there.row in
          let some = exact.each at row there.within in
          let c = some.0 in
          let here : HasClass bytes row c =
          subst (λ (r : ViewRow). HasClass bytes r c) there.is some.1 in
          let is : class_name_of c ≡ name =
          sym (ap (λ (o : Option (List ℕ)). unwrap_or o []) (named row c here)) ∙ there.named in
          let found = exact.only c (record {
            row = row;
            among = (at, there.within, there.is);
            owner = there.owner;
            has = here;
          }) in (
            c,
            ap (λ (x : List ℕ). class_in m loader x) (sym is) ∙ found,
            λ d. subst (λ (r : ViewRow). HasClass bytes r c)
                (sym (get_or_default rows at d row there.within ∙ there.is)) here,
          )

      pub place_in : (r : Option ℕ) → IfSome r (IsRowAt bytes rows number name)
          → IfNone r (IsIndexOf bytes rows → NoRowShows bytes rows number name)
          → IsPlaceIn m bytes rows loader name r
      place_in None some none =
          answer_of bytes m loader name number rows exact (index_of p) (Ok None) tt
          (λ is index. no_class (none index)) tt
      place_in (Some at) some none = placed at some
