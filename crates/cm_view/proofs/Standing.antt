-- Contents that stand for a cache have a view.
-- For `View::open`.
use Rattle.std.proofs.Common.{◌≡◌, ℕ, suc, zero, ◌<◌, ◌≤◌, ◌+◌, Bool, true, false, cond, List, []}
use Rattle.std.proofs.Common.{◌∷◌}
use Rattle.std.proofs.Common.{◌++◌, length, get_or, Some, None, Ok, refl, sym, ap, subst}
use Rattle.std.proofs.Common.{◌∙◌, arith, is_some, eq-eqb}
use Rattle.std.specs.Prelude.{◌&&◌, ◌==◌, unwrap_or}
use Rattle.std.specs.Str.{bytes_eq}
use Rattle.std.specs.List.{AllByRecursion, AllZip, sum_by}
use Rattle.std.proofs.lemmas.Bool.{and_parts, and_from, eqb-true}
use Rattle.std.proofs.lemmas.List.Sums.{sum_by-cons}
use Rattle.std.proofs.lemmas.List.Sorted.{sum_by-IsPermutation}
use Rattle.std.proofs.lemmas.Slice.Eq.{bytes_eq-Decides}
use Rattle.cm_class.specs.declared.class_file.ClassFile.{ClassFile}
use Rattle.cm_class.specs.Names.{class_name_of}
use Rattle.cm_record_layout.specs.Layout.{lay}
use Rattle.cm_pool.specs.Geometry.{Sizes, IsGeometry}
use Rattle.cm_layout.specs.declared.class_row.ClassRow.{ClassRow}
use Rattle.cm_layout.specs.declared.row.Row.{Row}
use Rattle.cm_layout.specs.declared.row.Row.TheVariants.{Loader, Class}
use Rattle.cm_layout.specs.Offsets.{root_at}
use Rattle.cm_layout.specs.Rows.{rows_with, bare}
use Rattle.cm_layout.specs.Frames.{BareRow, LiveRowsKeep}
use Rattle.cm_shown_names.specs.Shown.{name_shown}
use Rattle.cm_state.specs.State.{CacheState, class_among, class_shows, NamesDiffer}
use Rattle.cm_state.specs.Stands.{Arenas, EachKeepsRules, Stands}
use Rattle.cm_verdict.specs.declared.defined_at.DefinedAt.{DefinedAt}
use Rattle.cm_verdict.specs.Found.{Found, found_in}
use Rattle.cm_verdict.specs.Verdict.{Standing, class_kept, words_at}
use Rattle.cm_verdict.specs.Laws.{Proves, rows_words, AreWhole, FoundIsLive, VerdictStands}
use Rattle.cm_verdict.specs.Laws.{StandsInVerdict}
use Rattle.cm_verdict.specs.Standing.{HasPlace}
use Rattle.cm_verdict.proofs.{place_of}
use Rattle.cm_view_index.specs.declared.row.ViewRow.{ViewRow}
use Rattle.cm_view_index.specs.Rows.{ShowsName, name_of, row_bytes}
use Rattle.cm_view.specs.declared.fault.ViewFault.{ViewFault}
use Rattle.cm_view.specs.declared.fault.ViewFault.TheVariants as view_fault
use Rattle.cm_view.specs.Taking.{HasClass}
use Rattle.cm_view.specs.Listing.{view_row, IsClassAt, IsFaultOfRow}
use Rattle.cm_view.specs.Views.{IsViewFault, HasFaultyRow, HasTwinRows}
use Rattle.cm_view.proofs.Kept.{kept_again}
use Rattle.cm_view.proofs.Listings.{lies_there}
use Rattle.cm_view.proofs.Exact.{owned, IsRowOf, among_more, among_last, found_same, zipped}
use Rattle.cm_view.proofs.Exact.{views}

-- ---- the places of live rows

pub all_placed : (sizes : Sizes) → IsGeometry sizes → (number : ℕ) (before : List BareRow)
    (rows : List (Row DefinedAt)) → LiveRowsKeep sizes number before (bare rows)
    → AllByRecursion (HasPlace sizes) rows
all_placed sizes g number before [] live = tt
all_placed sizes g number before (Loader r ∷ rows) live =
    (tt, all_placed sizes g number (before ++ Loader r ∷ []) rows live.2)
all_placed sizes g number before (Class r at ∷ rows) live = (
  place_of sizes g number before r live.1,
  all_placed sizes g number (before ++ Class r tt ∷ []) rows live.2,
)

-- ---- one class among rows

one_of : {A : Type 0} (P : A → Type 0) (before after : List A) (x : A)
    → AllByRecursion P (before ++ x ∷ after) → P x
one_of P [] after x all = all.0
one_of P (y ∷ before) after x all = one_of P before after x all.1

whole_at : (sizes : Sizes) (long : ℕ) (before after : List (Row DefinedAt)) (r : ClassRow)
    (at : DefinedAt) → AreWhole sizes long (before ++ Class r at ∷ after)
    → root_at sizes (r.place.chunk.root + 1) ≤ long
whole_at sizes long [] after r at whole = whole.0
whole_at sizes long (Loader q ∷ before) after r at whole =
    whole_at sizes long before after r at whole
whole_at sizes long (Class q d ∷ before) after r at whole =
    whole_at sizes long before after r at whole.1

class_at : (sizes : Sizes) (contents : List ℕ) (before after : List (Row DefinedAt))
    (classes : List (Row ClassFile)) (r : ClassRow) (at : DefinedAt)
    → rows_with lay classes ≡ rows_words sizes contents (before ++ Class r at ∷ after)
    → EachKeepsRules classes
    → (c : ClassFile) × (class_kept (words_at sizes contents r.place) ≡ Some c)
class_at sizes contents [] after [] r at e keep = absurd (cc)
class_at sizes contents [] after (Loader q ∷ classes) r at e keep = absurd (cc)
class_at sizes contents [] after (Class q c ∷ classes) r at e keep =
    let laid : lay c ≡ words_at sizes contents r.place = cc in
    (c, ap class_kept (sym laid) ∙ kept_again c keep.0)
class_at sizes contents (p ∷ before) after [] r at e keep = absurd (cc)
class_at sizes contents (Loader p ∷ before) after (Loader q ∷ classes) r at e keep =
    let tail : rows_with lay classes ≡ rows_words sizes contents (before ++ Class r at ∷ after) =
    cc in
    class_at sizes contents before after classes r at tail keep
class_at sizes contents (Class p d ∷ before) after (Class q c ∷ classes) r at e keep =
    let tail : rows_with lay classes ≡ rows_words sizes contents (before ++ Class r at ∷ after) =
    cc in
    class_at sizes contents before after classes r at tail keep.1
class_at sizes contents (Loader p ∷ before) after (Class q c ∷ classes) r at e keep = absurd (cc)
class_at sizes contents (Class p d ∷ before) after (Loader q ∷ classes) r at e keep = absurd (cc)

-- ---- no two of one name

abbrev is_alike : List ℕ → ℕ → List ℕ → ViewRow → Bool
is_alike contents u name row = (row.loader == u) && bytes_eq (name_of contents row) name

abbrev alike : List ℕ → ℕ → List ℕ → ViewRow → ℕ
alike contents u name row = cond (is_alike contents u name row) 1 0

record AreFew (contents : List ℕ) (u : ℕ) (name : List ℕ) (before : List (Row ClassFile))
    (rows : List ViewRow) : Type 0 where
  none : is_some (class_among class_shows u name before) ≡ true
      → sum_by (alike contents u name) rows ≡ 0
  few : sum_by (alike contents u name) rows ≤ 1

few_named : (contents : List ℕ)
    → ((row : ViewRow) (c : ClassFile) → HasClass contents row c
    → name_of contents row ≡ class_name_of c)
    → (u : ℕ) (name : List ℕ) (before classes : List (Row ClassFile)) (rows : List ViewRow)
    → NamesDiffer class_shows before classes → AllZip (IsRowOf contents) rows (owned classes)
    → AreFew contents u name before rows
unfolding owned
few_named contents shows u name before [] [] differ zip =
    record { none = λ some. refl; few = omega arith }
few_named contents shows u name before [] (v ∷ rows) differ zip = absurd zip
few_named contents shows u name before (Loader r ∷ classes) rows differ zip =
    let rest = few_named contents shows u name (before ++ Loader r ∷ []) classes rows differ zip in
    record {
      none = λ some. rest.none (among_more u name before (Loader r ∷ []) some);
      few = rest.few;
    }
few_named contents shows u name before (Class r c ∷ classes) [] differ zip = absurd zip
few_named contents shows u name before (Class r c ∷ classes) (v ∷ rows) differ zip =
    by_test ((r.loader == u) && bytes_eq (class_name_of c) name) refl
    (few_named contents shows u name (before ++ Class r c ∷ []) classes rows differ.1 zip.1)
  where
    same_test : is_alike contents u name v ≡ ((r.loader == u) && bytes_eq (class_name_of c) name)
    same_test =
        let owner = zip.0.owner in
        let named = shows v c zip.0.has in
        λ i. (owner i == u) && bytes_eq (named i) name

    all : sum_by (alike contents u name) (v ∷ rows)
        ≡ alike contents u name v + sum_by (alike contents u name) rows
    all = sum_by-cons (alike contents u name) v rows

    by_test : (t : Bool) → ((r.loader == u) && bytes_eq (class_name_of c) name) ≡ t
        → AreFew contents u name (before ++ Class r c ∷ []) rows
        → AreFew contents u name before (v ∷ rows)
    by_test true is rest =
        let one : alike contents u name v ≡ 1 = ap (λ (t : Bool). cond t 1 0) (same_test ∙ is) in
        let others = rest.none (among_last u name before r c is) in
        let both = and_parts (r.loader == u) (bytes_eq (class_name_of c) name) is in
        let none : class_among class_shows u name before ≡ None =
        (λ i. class_among class_shows (sym (eqb-true r.loader u both.0) i)
        (sym ((bytes_eq-Decides (class_name_of c) name).0 both.1) i) before) ∙ differ.0 in
        record {
          none = λ some.
              let none_is : is_some (class_among class_shows u name before) ≡ false =
              ap is_some none in
              absurd (cc);
          few = omega (arith, all, one, others);
        }
    by_test false is rest =
        let zero_is : alike contents u name v ≡ 0 =
        ap (λ (t : Bool). cond t 1 0) (same_test ∙ is) in
        let most = rest.few in
        record {
          none = λ some.
              let others = rest.none (among_more u name before (Class r c ∷ []) some) in
              omega (arith, all, zero_is, others);
          few = omega (arith, all, zero_is, most);
        }

one_place : (f : ViewRow → ℕ) (rows : List ViewRow) (j : ℕ) (d : ViewRow) → j < length rows
    → f (get_or rows j d) ≡ 1 → 1 ≤ sum_by f rows
one_place f [] j d lt e = absurd (omega arith)
one_place f (v ∷ rows) zero d lt e = omega (arith, sum_by-cons f v rows, e)
one_place f (v ∷ rows) (suc j) d lt e =
    omega (arith, sum_by-cons f v rows, one_place f rows j d (omega arith) e)

two_places : (f : ViewRow → ℕ) (rows : List ViewRow) (i j : ℕ) (d : ViewRow) → i < j
    → j < length rows → f (get_or rows i d) ≡ 1 → f (get_or rows j d) ≡ 1 → 2 ≤ sum_by f rows
two_places f [] i j d before lt e g = absurd (omega arith)
two_places f (v ∷ rows) i zero d before lt e g = absurd (omega arith)
two_places f (v ∷ rows) zero (suc j) d before lt e g =
    omega (arith, sum_by-cons f v rows, e, one_place f rows j d (omega arith) g)
two_places f (v ∷ rows) (suc i) (suc j) d before lt e g =
    omega (
      arith,
      sum_by-cons f v rows,
      two_places f rows i j d (omega arith) (omega arith) e g,
    )

is_like_itself : (contents : List ℕ) (row other : ViewRow) → other.loader ≡ row.loader
    → name_of contents other ≡ name_of contents row
    → alike contents row.loader (name_of contents row) other ≡ 1
is_like_itself contents row other owner named =
    ap (λ (t : Bool). cond t 1 0)
    (and_from (other.loader == row.loader)
    (bytes_eq (name_of contents other) (name_of contents row))
    (eq-eqb other.loader row.loader owner)
    ((bytes_eq-Decides (name_of contents other) (name_of contents row)).1 named))

-- ---- all together

module _ (contents : List ℕ) (s : Standing) (p : Proves contents s)
    (shows : (row : ViewRow) (c : ClassFile) → HasClass contents row c
    → ShowsName contents row (class_name_of c)) where
  named_so : (row : ViewRow) (c : ClassFile) → HasClass contents row c
      → name_of contents row ≡ class_name_of c
  named_so row c has = ap (λ o. unwrap_or o []) (shows row c has)

  no_twins : (slot : ℕ) → HasTwinRows contents slot → ⊥
  no_twins slot t =
      let row = t.row in
      let twin = t.twin in
      let f = alike contents row.loader (name_of contents row) in
      let all = views contents s p t.found t.rows t.of in
      let few = few_named contents named_so row.loader (name_of contents row) [] s.rows all p.differ
      (zipped contents s p t.found t.rows t.of) in
      let same = sum_by-IsPermutation f all t.rows t.of.same in
      let first = is_like_itself contents row (get_or t.rows twin.before row) twin.alike.owner
      twin.alike.named in
      let second : f (get_or t.rows twin.at row) ≡ 1 =
      ap f twin.is ∙ is_like_itself contents row row refl refl in
      let two = two_places f t.rows twin.before twin.at row twin.apart twin.within first second in
      let most = few.few in
      omega arith

  module _ (live : FoundIsLive) (row : ClassRow) (at : DefinedAt)
      (among : IsClassAt s.found.rows row at) where
    is_whole : root_at s.found.sizes (row.place.chunk.root + 1) ≤ length contents
    is_whole =
        whole_at s.found.sizes (length contents) among.before among.after row at
        (subst (AreWhole s.found.sizes (length contents)) among.rows_are p.whole)

    shows_some : name_shown (row_bytes contents (view_row s.found.sizes row at)) ≡ None → ⊥
    shows_some none =
        let l = live contents s.found p.found in
        let places = all_placed s.found.sizes l.lawful s.found.number [] s.found.rows l.live in
        let place = one_of (HasPlace s.found.sizes) among.before among.after (Class row at)
        (subst (AllByRecursion (HasPlace s.found.sizes)) among.rows_are places) in
        let kept = class_at s.found.sizes contents among.before among.after s.rows row at
        (p.words ∙ ap (rows_words s.found.sizes contents) among.rows_are) p.kept in
        let shown = shows (view_row s.found.sizes row at) kept.0 (record {
          there = lies_there contents s.found.sizes row at place is_whole;
          kept = kept.1;
        }) in
        absurd (cc)

  at_found : (f : Found) → found_in contents ≡ Ok f → f ≡ s.found
  at_found f e = found_same f s.found (sym e ∙ p.found)

  cut_off : FoundIsLive → (slot : ℕ) → HasFaultyRow contents (view_fault.CutOff slot) → ⊥
  cut_off live slot h =
      let same = at_found h.found h.found_is in
      let faulty =
      subst (λ (f : Found). IsFaultOfRow contents f.sizes f.rows (view_fault.CutOff slot)) same
      h.faulty in
      let whole = is_whole live faulty.row faulty.at faulty.among in
      let past = faulty.fault.1 in
      omega arith

  unnamed : FoundIsLive → (slot : ℕ) → HasFaultyRow contents (view_fault.NoName slot) → ⊥
  unnamed live slot h =
      let same = at_found h.found h.found_is in
      let faulty =
      subst (λ (f : Found). IsFaultOfRow contents f.sizes f.rows (view_fault.NoName slot)) same
      h.faulty in
      shows_some live faulty.row faulty.at faulty.among faulty.fault.1

  pub only_memory : FoundIsLive → (e : ViewFault) → IsViewFault contents e
      → e ≡ view_fault.NoMemory
  only_memory live (view_fault.File f) fault = let found = p.found in absurd (cc)
  only_memory live (view_fault.CutOff slot) fault = absurd (cut_off live slot fault)
  only_memory live (view_fault.NoName slot) fault = absurd (unnamed live slot fault)
  only_memory live (view_fault.SameName slot) fault = absurd (no_twins slot fault)
  only_memory live view_fault.NoMemory fault = refl

pub standing_opens : VerdictStands → StandsInVerdict → FoundIsLive → (contents : List ℕ)
    → ((row : ViewRow) (c : ClassFile) → HasClass contents row c
    → ShowsName contents row (class_name_of c))
    → (sizes : Sizes) (m : CacheState) (arenas : Arenas) (n : ℕ) → Stands sizes contents m arenas n
    → (e : ViewFault) → IsViewFault contents e → e ≡ view_fault.NoMemory
standing_opens stands in_verdict live contents shows sizes m arenas n st e fault =
    let v = in_verdict sizes contents m arenas n st in
    only_memory contents v.0 (stands contents v.0 v.1.ok) shows live e fault
