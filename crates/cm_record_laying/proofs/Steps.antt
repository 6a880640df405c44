-- Words that are added piece by piece.
-- For `push_eights`, `lay_slots` and others.
use Rattle.std.proofs.Common.{◌≡◌, ◌≤◌, ◌<◌, ◌+◌, ℕ, List, [], ◌∷◌, ◌++◌, length, arith, ap, sym}
use Rattle.std.proofs.Common.{refl, ◌∙◌, append_assoc, length-append, false}
use Rattle.std.specs.Bool.{◌==◌}
use Rattle.std.specs.List.{flat_map, AllByRecursion}
use Rattle.std.proofs.lemmas.List.{append-nil}
use Rattle.std.proofs.lemmas.Grind.{flat_map-append}
use Rattle.cm_record_laying.specs.declared.sections.Sections.{Sections}
use Rattle.cm_record_laying.specs.Laying.{Adds, Lays, next_run, next_attribute}

-- what was added so far and what is still to be added fit, if everything fitted at first
pub room_left : (words rest start all : List ℕ) (capacity room : ℕ)
    → words ++ rest ≡ start ++ all → capacity ≡ room → length start + length all ≤ room
    → length words + length rest ≤ capacity
room_left words rest start all capacity room e same fits =
    omega (arith, ap length e, length-append words rest, length-append start all)

pub some_there : (bytes : List ℕ) → false ≡ (length bytes == 0) → 0 < length bytes
some_there [] e = absurd cc
some_there (b ∷ bytes) e = omega arith

-- ---- additions

pub adds_nothing : (a : Sections) → Adds a a [] [] []
adds_nothing a = record {
  words = sym (append-nil a.words.words);
  attributes = sym (append-nil a.attributes.words);
  runs = sym (append-nil a.runs.words);
  attributes_at = refl;
  runs_at = refl;
}

module _ (a b : Sections) (w t r : List ℕ) (one : Adds a b w t r) where
  pub adds_then : (c : Sections) (w' t' r' : List ℕ) → Adds b c w' t' r'
      → Adds a c (w ++ w') (t ++ t') (r ++ r')
  adds_then c w' t' r' two = record {
    words = two.words ∙ ap (λ l. l ++ w') one.words ∙ append_assoc a.words.words w w';
    attributes = two.attributes ∙ ap (λ l. l ++ t') one.attributes
        ∙ append_assoc a.attributes.words t t';
    runs = two.runs ∙ ap (λ l. l ++ r') one.runs ∙ append_assoc a.runs.words r r';
    attributes_at = two.attributes_at ∙ one.attributes_at;
    runs_at = two.runs_at ∙ one.runs_at;
  }

  -- the same additions, written otherwise
  pub adds_as : (w' t' r' : List ℕ) → w ≡ w' → t ≡ t' → r ≡ r' → Adds a b w' t' r'
  adds_as w' t' r' ew et er = record {
    words = one.words ∙ ap (λ l. a.words.words ++ l) ew;
    attributes = one.attributes ∙ ap (λ l. a.attributes.words ++ l) et;
    runs = one.runs ∙ ap (λ l. a.runs.words ++ l) er;
    attributes_at = one.attributes_at;
    runs_at = one.runs_at;
  }

  -- where the next run and the next attribute begin then
  pub run_moved : next_run b ≡ next_run a + length r
  run_moved = omega (arith, ap length one.runs, length-append a.runs.words r, one.runs_at)

  pub attribute_moved : next_attribute b ≡ next_attribute a + length t
  attribute_moved =
      omega (
        arith,
        ap length one.attributes,
        length-append a.attributes.words t,
        one.attributes_at,
      )

-- ---- items

module _ {A : Type 0} (Fit : List A → Type 0) (spelling : A → List ℕ)
    (words attributes : Sections → List A → List ℕ) (runs : List A → List ℕ) where
  -- no items
  pub lays_nothing : (bytes : List ℕ) (a : Sections) → Fit [] → words a [] ≡ []
      → attributes a [] ≡ [] → runs [] ≡ []
      → Lays Fit spelling words attributes runs 0 bytes a a bytes
  lays_nothing bytes a fit ew et er = record {
    items = [];
    counted = refl;
    fit = fit;
    spelled = refl;
    adds = adds_as a a [] [] [] (adds_nothing a) (words a []) (attributes a []) (runs []) (sym ew)
        (sym et) (sym er);
  }

  module _ (fit_joins : (xs ys : List A) → Fit xs → Fit ys → Fit (xs ++ ys))
      (words_join : (a b : Sections) (xs ys : List A)
      → Adds a b (words a xs) (attributes a xs) (runs xs)
      → words a (xs ++ ys) ≡ words a xs ++ words b ys)
      (attributes_join : (a b : Sections) (xs ys : List A)
      → Adds a b (words a xs) (attributes a xs) (runs xs)
      → attributes a (xs ++ ys) ≡ attributes a xs ++ attributes b ys)
      (runs_join : (xs ys : List A) → runs (xs ++ ys) ≡ runs xs ++ runs ys) where
    -- items, and others after them
    pub lays_then : (m n k : ℕ) (x y z : List ℕ) (a b c : Sections) → m + n ≡ k
        → Lays Fit spelling words attributes runs m x a b y
        → Lays Fit spelling words attributes runs n y b c z
        → Lays Fit spelling words attributes runs k x a c z
    lays_then m n k x y z a b c e one two =
        let xs = one.items in
        let ys = two.items in
        record {
          items = xs ++ ys;
          counted = omega (arith, length-append xs ys, one.counted, two.counted);
          fit = fit_joins xs ys one.fit two.fit;
          spelled = one.spelled ∙ ap (λ l. flat_map spelling xs ++ l) two.spelled
              ∙ sym (append_assoc (flat_map spelling xs) (flat_map spelling ys) z)
              ∙ ap (λ l. l ++ z) (sym (flat_map-append spelling xs ys));
          adds = adds_as a c (words a xs ++ words b ys) (attributes a xs ++ attributes b ys)
              (runs xs ++ runs ys)
              (adds_then a b (words a xs) (attributes a xs) (runs xs) one.adds c (words b ys)
              (attributes b ys) (runs ys) two.adds)
              (words a (xs ++ ys)) (attributes a (xs ++ ys)) (runs (xs ++ ys))
              (sym (words_join a b xs ys one.adds)) (sym (attributes_join a b xs ys one.adds))
              (sym (runs_join xs ys));
        }

-- a list each item of which fits
pub all_join : {A : Type 0} (P : A → Type 0) (xs ys : List A) → AllByRecursion P xs
    → AllByRecursion P ys → AllByRecursion P (xs ++ ys)
all_join P [] ys p q = q
all_join P (x ∷ xs) ys p q = (p.0, all_join P xs ys p.1 q)
