-- Rows with what was taken and judged of their records.
-- For `judge`, `judge_in_threads`, `SecondPass::take_words`, `SecondPass::take_all` and others.
use Rattle.std.proofs.Common.{◌≡◌, ◌≢◌, ◌<◌, ◌≤◌, ◌+◌, ℕ, suc, Bool, true, false, cond, List, []}
use Rattle.std.proofs.Common.{◌∷◌, ◌++◌, length, get_or, take, drop, map, Option, Some, None, refl}
use Rattle.std.proofs.Common.{sym, ap, subst, ◌∙◌, arith, is_some, set, ⊎_elim, Vec, Global}
use Rattle.std.specs.List.{AllZip}
use Rattle.std.proofs.lemmas.List.{take_all, drop_all, append-nil, get_or-set_other}
use Rattle.std.proofs.lemmas.List.{get_or_default}
use Rattle.std.proofs.lemmas.Grind.{get_or-set_at}
use Rattle.std.proofs.lemmas.Bool.{cases_lt}
use Rattle.cm_verdict.specs.declared.row_record.RowRecord.{RowRecord}
use Rattle.std.specs.Prelude.{Result, Ok, Err, IfOk, IfErr, IsErrAnd}
use Rattle.cm_class.specs.declared.class_file.ClassFile.{ClassFile}
use Rattle.cm_pool.specs.Geometry.{Sizes}
use Rattle.cm_pool.specs.declared.place.Place.{Place}
use Rattle.cm_verdict.specs.declared.fault.Damage.{Damage}
use Rattle.cm_verdict.specs.declared.fault.Damage.TheVariants as damage
use Rattle.cm_verdict.specs.declared.fault.FileFault.TheVariants.{Damaged}
use Rattle.cm_verdict.specs.Faults.{at_slot}
use Rattle.cm_verdict.specs.Verdict.{is_whole, class_kept, words_at}
use Rattle.std.proofs.Common.{append_assoc}
use Rattle.std.proofs.lemmas.List.{map-append}
use Rattle.cm_pool.specs.Geometry.{IsGeometry}
use Rattle.cm_layout.specs.declared.row.Row.{Row}
use Rattle.cm_layout.specs.declared.row.Row.TheVariants.{Loader, Class}
use Rattle.cm_layout.specs.Rows.{bare}
use Rattle.cm_layout.specs.Frames.{BareRow, LiveRowsKeep, bare_row}
use Rattle.cm_verdict.specs.declared.defined_at.DefinedAt.{DefinedAt}
use Rattle.cm_verdict.specs.Judging.{IsTaken, IsJudged, words_in_place, words_of_row, AreTaken}
use Rattle.cm_verdict.specs.Standing.{HasPlace}
use Rattle.cm_verdict.specs.declared.fault.OpenFault.{OpenFault}
use Rattle.cm_verdict.proofs.RecordPlaces.{place_of}
use Rattle.cm_verdict.specs.Standing.{ReportsOk, if_class, class_in_place, IsRecorded, IsKeptClass}

-- what is said of a value that was answered
pub if_ok : {T E : Type 0} (r : Result T E) (x : T) (P : T → Type 0) → r ≡ Ok x → IfOk r P → P x
if_ok (Ok y) x P e h = let same : y ≡ x = cc in subst P same h
if_ok (Err f) x P e h = absurd (cc)

pub if_err : {T E : Type 0} (r : Result T E) (e : E) (P : E → Type 0) → IsErrAnd r (λ f. f ≡ e)
    → P e → IfErr r P
if_err (Ok x) e P none h = absurd none
if_err (Err f) e P same h = subst P (sym same) h

pub never : {T : Type 0} (r : Result T OpenFault) (f : OpenFault) → IfErr r (λ e. e ≢ f)
    → r ≡ Err f → ⊥
never (Ok x) f other e = absurd (cc)
never (Err g) f other e = let same : g ≡ f = cc in absurd (other same)

-- at other sizes, another number and other rows that are the same
pub moved : {X : Type 0} (P : Sizes → ℕ → List X → Type 0) (a b : Sizes) (n m : ℕ)
    (xs ys : List X) → a ≡ b → n ≡ m → xs ≡ ys → P b m ys → P a n xs
moved P a b n m xs ys e f g h =
    subst (λ (s : Sizes). P s n xs) (sym e)
    (subst (λ (k : ℕ). P b k xs) (sym f) (subst (P b m) (sym g) h))

-- each was judged
abbrev EachJudged : List RowRecord → List RowRecord → Type 0
EachJudged old new = (k : ℕ) (d : RowRecord) (words : Option (List ℕ)) → k < length old
    → IsTaken words (get_or old k d) → IsJudged words (get_or new k d)

all_judged : (words : List (Option (List ℕ))) (old new : List RowRecord)
    → length new ≡ length old → EachJudged old new
    → AllZip IsTaken words old → AllZip IsJudged words new
all_judged [] [] [] long each taken = tt
all_judged [] [] (n ∷ new) long each taken = absurd (omega (arith, long))
all_judged [] (o ∷ old) new long each taken = absurd taken
all_judged (w ∷ words) [] new long each taken = absurd taken
all_judged (w ∷ words) (o ∷ old) [] long each taken = absurd (omega (arith, long))
all_judged (w ∷ words) (o ∷ old) (n ∷ new) long each taken = (
  each 0 o w (omega arith) taken.0,
  all_judged words old new (omega (arith, long))
      (λ k d ws lt is. each (suc k) d ws (omega (arith, lt)) is) taken.1,
)

-- one more is judged, in its place
pub judged_on : (start now : List RowRecord) (i : ℕ) (old new : RowRecord) → i < length now
    → old ≡ get_or now i old → ((words : Option (List ℕ)) → IsTaken words old → IsJudged words new)
    → ((k : ℕ) (d : RowRecord) (words : Option (List ℕ)) → k < i
    → IsTaken words (get_or start k d) → IsJudged words (get_or now k d))
    → ((k : ℕ) (d : RowRecord) → i ≤ k → get_or now k d ≡ get_or start k d)
    → (k : ℕ) (d : RowRecord) (words : Option (List ℕ)) → k < i + 1
    → IsTaken words (get_or start k d) → IsJudged words (get_or (set now i new) k d)
judged_on start now i old new lt old_is one before left k d words few taken =
    ⊎_elim
    (λ less. subst (IsJudged words) (sym (get_or-set_other now i k new d (omega (arith, less))))
    (before k d words less taken))
    (λ more.
    let here : k ≡ i = omega (arith, few, more) in
    let same : get_or start k d ≡ old =
    sym (left k d more)
    ∙ (ap (λ (j : ℕ). get_or now j d) here
    ∙ (get_or_default now i d old lt ∙ sym old_is)) in
    subst (IsJudged words) (sym (get_or-set_at now i k new d here lt))
    (one words (subst (IsTaken words) same taken)))
    (cases_lt k i)

pub left_on : (start now : List RowRecord) (i : ℕ) (new : RowRecord)
    → ((k : ℕ) (d : RowRecord) → i ≤ k → get_or now k d ≡ get_or start k d)
    → (k : ℕ) (d : RowRecord) → i + 1 ≤ k → get_or (set now i new) k d ≡ get_or start k d
left_on start now i new left k d more =
    get_or-set_other now i k new d (omega (arith, more)) ∙ left k d (omega (arith, more))

-- a list of which all places were written
all_written : {X : Type 0} (n : ℕ) (new old : List X) → n ≡ length old
    → length new ≡ length old → take n (new ++ drop (length new) old) ≡ new
all_written n new old count long =
    ap (λ (l : List _). take n (new ++ l)) (drop_all (length new) old (omega (arith, long)))
    ∙ (ap (take n) (append-nil new) ∙ take_all n new (omega (arith, count, long)))

-- all the rows of a vector were judged through its slice
pub all_are_judged : (old : Vec RowRecord Global) (slice new : List RowRecord)
    → slice ≡ old.items → length new ≡ length slice → EachJudged slice new
    → (words : List (Option (List ℕ))) → AllZip IsTaken words old.items
    → AllZip IsJudged words (take old.len (new ++ drop (length new) old.items))
all_are_judged old slice new same long each words taken =
    let longs = long ∙ ap length same in
    subst (λ (l : List RowRecord). AllZip IsJudged words l)
    (sym (all_written old.len new old.items old.ok.0 longs))
    (all_judged words old.items new longs
    (subst (λ (l : List RowRecord). EachJudged l new) same each) taken)

-- ---- the class of a place, by its words

abbrev class_seen : Option (List ℕ) → Result ClassFile Damage
class_seen None = Err damage.Chunks
class_seen (Some words) = if_class (class_kept words)

none_kept : (o : Option ClassFile) → is_some o ≡ false → o ≡ None
none_kept None e = refl
none_kept (Some c) e = absurd (cc)

module _ (sizes : Sizes) (contents : List ℕ) (place : Place) (slot : ℕ) where
  by_words : class_in_place sizes contents place ≡ class_seen (words_in_place sizes contents place)
  by_words = by_root (is_whole sizes (length contents) place)
    where
      by_root : (t : Bool)
          → cond t (if_class (class_kept (words_at sizes contents place))) (Err damage.Chunks)
          ≡ class_seen (cond t (Some (words_at sizes contents place)) None)
      by_root true = refl
      by_root false = refl

  pub absent_class : words_in_place sizes contents place ≡ None
      → at_slot slot (class_in_place sizes contents place) ≡ Err (Damaged damage.Chunks slot)
  absent_class none = ap (at_slot slot) (by_words ∙ ap class_seen none)

  pub broken_class : (words : List ℕ) → words_in_place sizes contents place ≡ Some words
      → is_some (class_kept words) ≡ false
      → at_slot slot (class_in_place sizes contents place) ≡ Err (Damaged damage.Record slot)
  broken_class words are broken =
      ap (at_slot slot) (by_words ∙ (ap class_seen are
      ∙ ap if_class (none_kept (class_kept words) broken)))

  pub class_seen_there : (words made : List ℕ) → words_in_place sizes contents place ≡ Some words
      → IsKeptClass words (Some made)
      → ReportsOk IsRecorded (at_slot slot (class_in_place sizes contents place)) made
  class_seen_there words made are k = record {
    told = k.0;
    verdict_is = ap (at_slot slot) (by_words ∙ (ap class_seen are ∙ ap if_class k.1));
    alike = k.2;
  }

-- ---- words that are taken row by row

-- some rows' words are taken, and these rows are left
pub record IsTaking (sizes : Sizes) (contents : List ℕ) (number : ℕ)
    (all rest : List (Row DefinedAt)) (records : List RowRecord) : Type 0 where
  pub done : List (Row DefinedAt)
  pub all_is : done ++ rest ≡ all
  pub taken : AreTaken sizes contents done records
  pub before : List BareRow
  pub live : LiveRowsKeep sizes number before (bare rest)

pub taking_begins : (sizes : Sizes) (contents : List ℕ) (number : ℕ)
    (all rest : List (Row DefinedAt)) (records : List RowRecord) → rest ≡ all → records ≡ []
    → LiveRowsKeep sizes number [] (bare all) → IsTaking sizes contents number all rest records
taking_begins sizes contents number all rest records same none live = record {
  done = [];
  all_is = same;
  taken = subst (AreTaken sizes contents []) (sym none) tt;
  before = [];
  live = subst (λ (l : List (Row DefinedAt)). LiveRowsKeep sizes number [] (bare l)) (sym same)
      live;
}

-- one more at the end of both lists
zip_more : {A B : Type 0} (R : A → B → Type 0) (xs : List A) (ys : List B) (x : A) (y : B)
    → AllZip R xs ys → R x y → AllZip R (xs ++ x ∷ []) (ys ++ y ∷ [])
zip_more R [] [] x y zip one = (one, tt)
zip_more R [] (b ∷ ys) x y zip one = absurd zip
zip_more R (a ∷ xs) [] x y zip one = absurd zip
zip_more R (a ∷ xs) (b ∷ ys) x y zip one = (zip.0, zip_more R xs ys x y zip.1 one)

-- the place of the next row
pub next_place : (sizes : Sizes) → IsGeometry sizes → (contents : List ℕ) (number : ℕ)
    (all rest : List (Row DefinedAt)) (row : Row DefinedAt) (records : List RowRecord)
    → IsTaking sizes contents number all (row ∷ rest) records → HasPlace sizes row
next_place sizes g contents number all rest (Loader r) records t = tt
next_place sizes g contents number all rest (Class r at) records t =
    place_of sizes g number t.before r t.live.1

pub taking_on : (sizes : Sizes) (contents : List ℕ) (number : ℕ) (all rest : List (Row DefinedAt))
    (row : Row DefinedAt) (records now : List RowRecord) (one : RowRecord)
    → IsTaking sizes contents number all (row ∷ rest) records → now ≡ records ++ one ∷ []
    → IsTaken (words_of_row sizes contents row) one → IsTaking sizes contents number all rest now
taking_on sizes contents number all rest row records now one t more is = record {
  done = t.done ++ row ∷ [];
  all_is = append_assoc t.done (row ∷ []) rest ∙ t.all_is;
  taken =
      subst (λ (l : List (Option (List ℕ))). AllZip IsTaken l now)
      (sym (map-append (words_of_row sizes contents) t.done (row ∷ [])))
      (subst (λ (l : List RowRecord). AllZip IsTaken (map (words_of_row sizes contents) t.done
      ++ words_of_row sizes contents row ∷ []) l) (sym more)
      (zip_more IsTaken (map (words_of_row sizes contents) t.done) records
      (words_of_row sizes contents row) one t.taken is));
  before = t.before ++ bare_row row ∷ [];
  live = next_live row t.live;
}
  where
    next_live : (row : Row DefinedAt) → LiveRowsKeep sizes number t.before (bare (row ∷ rest))
        → LiveRowsKeep sizes number (t.before ++ bare_row row ∷ []) (bare rest)
    next_live (Loader r) live = live.2
    next_live (Class r at) live = live.2

pub taking_ends : (sizes : Sizes) (contents : List ℕ) (number : ℕ)
    (all rest : List (Row DefinedAt)) (records : List RowRecord) → rest ≡ []
    → IsTaking sizes contents number all rest records → AreTaken sizes contents all records
taking_ends sizes contents number all rest records none t =
    subst (λ (l : List (Row DefinedAt)). AreTaken sizes contents l records)
    (sym (append-nil t.done) ∙ (ap (λ (l : List (Row DefinedAt)). t.done ++ l) (sym none)
    ∙ t.all_is)) t.taken
