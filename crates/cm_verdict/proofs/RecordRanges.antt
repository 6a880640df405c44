-- The ranges of words that the records of rows take.
-- For `SecondPass::words_of`, `SecondPass::ranges_of`.
use Rattle.std.proofs.Common.{◌≡◌, ℕ, ◌+◌, ◌*◌, ◌≤◌, Bool, true, false, cond, List, [], ◌∷◌, ◌++◌}
use Rattle.std.proofs.Common.{length, Option, Some, None, refl, sym, ap, subst, ◌∙◌, arith}
use Rattle.std.proofs.Common.{append_assoc}
use Rattle.std.proofs.lemmas.Bool.{leb-true}
use Rattle.std.proofs.lemmas.List.{append-nil}
use Rattle.cm_disk.specs.declared.disk.WordRange.{WordRange}
use Rattle.cm_disk.specs.Calls.{words_in}
use Rattle.cm_record_layout.specs.Layout.{limit}
use Rattle.cm_pool.specs.Geometry.{Sizes, IsGeometry}
use Rattle.cm_pool.specs.declared.place.Place.{Place}
use Rattle.cm_layout.specs.declared.row.Row.{Row}
use Rattle.cm_layout.specs.declared.row.Row.TheVariants.{Loader, Class}
use Rattle.cm_layout.specs.Offsets.{root_at, record_at}
use Rattle.cm_layout.specs.Rows.{bare}
use Rattle.cm_layout.specs.Frames.{BareRow, LiveRowsKeep, bare_row}
use Rattle.cm_verdict.specs.declared.defined_at.DefinedAt.{DefinedAt}
use Rattle.cm_verdict.specs.Verdict.{is_whole, words_at}
use Rattle.cm_verdict.specs.Judging.{words_in_place, words_of_row}
use Rattle.cm_verdict.specs.Ranges.{range_of_place, range_of_row, ranges_of_rows, with_range}
use Rattle.cm_verdict.specs.Standing.{HasPlace}
use Rattle.cm_verdict.proofs.RecordPlaces.{place_of, in_file, short_enough}

-- the range of a place, and what is there
record IsRangeOf (sizes : Sizes) (contents : List ℕ) (place : Place) (range : WordRange)
    : Type 0 where
  at : range.at ≡ record_at sizes place
  count : range.count ≡ place.words
  whole : root_at sizes (place.chunk.root + 1) ≤ length contents
  words : words_in_place sizes contents place ≡ Some (words_in range.at range.count contents)

module _ (sizes : Sizes) (contents : List ℕ) (place : Place) where
  abbrev here : WordRange
  here = record { at = record_at sizes place; count = place.words }

  is_range : (range : WordRange)
      → range_of_place sizes (length contents) place ≡ Some range
      → IsRangeOf sizes contents place range
  is_range range e = by_whole (is_whole sizes (length contents) place) refl e
    where
      by_whole : (t : Bool) → is_whole sizes (length contents) place ≡ t
          → cond t (Some here) None ≡ Some range → IsRangeOf sizes contents place range
      by_whole true whole e =
          let same : here ≡ range = cc in
          record {
            at = ap (λ (r : WordRange). r.at) (sym same);
            count = ap (λ (r : WordRange). r.count) (sym same);
            whole = leb-true (root_at sizes (place.chunk.root + 1)) (length contents) whole;
            words =
                ap (λ (b : Bool). cond b (Some (words_at sizes contents place)) None) whole
                ∙ ap (λ (r : WordRange). Some (words_in r.at r.count contents)) same;
          }
      by_whole false whole e = absurd (cc)

  no_words : range_of_place sizes (length contents) place ≡ None
      → words_in_place sizes contents place ≡ None
  no_words e = by_whole (is_whole sizes (length contents) place) e
    where
      by_whole : (t : Bool) → cond t (Some here) None ≡ None
          → cond t (Some (words_at sizes contents place)) None ≡ None
      by_whole true e = absurd (cc)
      by_whole false e = refl

module _ (sizes : Sizes) (contents : List ℕ) (range : WordRange) where
  pub range_in_file : (row : Row DefinedAt) → HasPlace sizes row
      → range_of_row sizes (length contents) row ≡ Some range
      → range.at + 8 * range.count ≤ length contents
  range_in_file (Loader r) has e = absurd (cc)
  range_in_file (Class r at) has e =
      let is = is_range sizes contents r.place range e in
      let ends = in_file sizes r.place (length contents) has is.whole in
      omega (arith, ends, is.at, is.count)

  pub range_is_short : (row : Row DefinedAt) → HasPlace sizes row
      → range_of_row sizes (length contents) row ≡ Some range → range.count ≤ limit
  range_is_short (Loader r) has e = absurd (cc)
  range_is_short (Class r at) has e =
      let is = is_range sizes contents r.place range e in
      let short = short_enough sizes r.place has in
      omega (arith, short, is.count)

  pub words_of_range : (row : Row DefinedAt)
      → range_of_row sizes (length contents) row ≡ Some range
      → words_of_row sizes contents row ≡ Some (words_in range.at range.count contents)
  words_of_range (Loader r) e = absurd (cc)
  words_of_range (Class r at) e = (is_range sizes contents r.place range e).words

pub no_words_of : (sizes : Sizes) (contents : List ℕ) (row : Row DefinedAt)
    → range_of_row sizes (length contents) row ≡ None → words_of_row sizes contents row ≡ None
no_words_of sizes contents (Loader r) e = refl
no_words_of sizes contents (Class r at) e = no_words sizes contents r.place e

-- ---- ranges that are listed row by row

-- some rows' ranges are listed, and these rows are left
pub record IsListing (sizes : Sizes) (long number : ℕ) (all rest : List (Row DefinedAt))
    (ranges : List WordRange) : Type 0 where
  pub listed : ranges ++ ranges_of_rows sizes long rest ≡ ranges_of_rows sizes long all
  pub before : List BareRow
  pub live : LiveRowsKeep sizes number before (bare rest)

pub listing_begins : (sizes : Sizes) (long number : ℕ) (all rest : List (Row DefinedAt))
    (ranges : List WordRange) → rest ≡ all → ranges ≡ [] → LiveRowsKeep sizes number [] (bare all)
    → IsListing sizes long number all rest ranges
listing_begins sizes long number all rest ranges same none live = record {
  listed =
      ap (λ (r : List WordRange). r ++ ranges_of_rows sizes long rest) none
      ∙ ap (ranges_of_rows sizes long) same;
  before = [];
  live = subst (λ (l : List (Row DefinedAt)). LiveRowsKeep sizes number [] (bare l)) (sym same)
      live;
}

pub place_listed : (sizes : Sizes) → IsGeometry sizes → (long number : ℕ)
    (all rest : List (Row DefinedAt)) (row : Row DefinedAt) (ranges : List WordRange)
    → IsListing sizes long number all (row ∷ rest) ranges → HasPlace sizes row
place_listed sizes g long number all rest (Loader r) ranges l = tt
place_listed sizes g long number all rest (Class r at) ranges l =
    place_of sizes g number l.before r l.live.1

next_live : (sizes : Sizes) (number : ℕ) (before : List BareRow) (row : Row DefinedAt)
    (rest : List (Row DefinedAt)) → LiveRowsKeep sizes number before (bare (row ∷ rest))
    → LiveRowsKeep sizes number (before ++ bare_row row ∷ []) (bare rest)
next_live sizes number before (Loader r) rest live = live.2
next_live sizes number before (Class r at) rest live = live.2

module _ (sizes : Sizes) (long number : ℕ) (all rest : List (Row DefinedAt))
    (row : Row DefinedAt) (ranges : List WordRange)
    (l : IsListing sizes long number all (row ∷ rest) ranges) where
  pub listing_none : range_of_row sizes long row ≡ None
      → IsListing sizes long number all rest ranges
  listing_none none = record {
    listed =
        ap (λ (o : Option WordRange). ranges ++ with_range o (ranges_of_rows sizes long rest))
        (sym none) ∙ l.listed;
    before = l.before ++ bare_row row ∷ [];
    live = next_live sizes number l.before row rest l.live;
  }

  pub listing_one : (range : WordRange) (now : List WordRange)
      → range_of_row sizes long row ≡ Some range → now ≡ ranges ++ range ∷ []
      → IsListing sizes long number all rest now
  listing_one range now one more = record {
    listed =
        ap (λ (r : List WordRange). r ++ ranges_of_rows sizes long rest) more
        ∙ (append_assoc ranges (range ∷ []) (ranges_of_rows sizes long rest)
        ∙ (ap (λ (o : Option WordRange). ranges ++ with_range o (ranges_of_rows sizes long rest))
        (sym one) ∙ l.listed));
    before = l.before ++ bare_row row ∷ [];
    live = next_live sizes number l.before row rest l.live;
  }

pub listing_ends : (sizes : Sizes) (long number : ℕ) (all rest : List (Row DefinedAt))
    (ranges : List WordRange) → rest ≡ [] → IsListing sizes long number all rest ranges
    → ranges ≡ ranges_of_rows sizes long all
listing_ends sizes long number all rest ranges none l =
    sym (append-nil ranges)
    ∙ (ap (λ (r : List (Row DefinedAt)). ranges ++ ranges_of_rows sizes long r) (sym none)
    ∙ l.listed)
