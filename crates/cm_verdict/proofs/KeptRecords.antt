-- The second pass: each live class has a record of a class that keeps the rules, under a name that
-- is new in its loader.
-- For `are_kept`, `read_record`, `verdict_is_exact` and others.
use Rattle.std.proofs.Common.{◌≡◌, ℕ, ◌+◌, ◌<◌, ◌≤◌, ◌^◌, Bool, true, false, cond, List, [], ◌∷◌}
use Rattle.std.proofs.Common.{◌++◌, length, get_or, Option, Some, None, Ok, Err, refl, sym, ap}
use Rattle.std.proofs.Common.{subst, ◌∙◌, arith, is_none, append_assoc, append-nil}
use Rattle.std.specs.Prelude.{Result, nat_lt}
use Rattle.std.specs.Option.{option_and_then}
use Rattle.std.proofs.lemmas.Bool.{and_parts, and_from, leb-true, le-leb, ltb-true, lt-ltb}
use Rattle.cm_class.specs.declared.class_file.ClassFile.{ClassFile}
use Rattle.cm_class.specs.Spelling.{HasSpelling}
use Rattle.cm_record_layout.specs.Layout.{lay}
use Rattle.cm_record_layout.specs.Layout.{limit, IsRecord, IsRecordOf}
use Rattle.std.specs.Prelude.{is_some}
use Rattle.cm_record_reading.specs.Reading.{class_at}
use Rattle.cm_record_reading.proofs.{class_taken, class_again}
use Rattle.cm_rules.specs.declared.rule.Broken.{Broken}
use Rattle.cm_rules.specs.Fault.{fault}
use Rattle.cm_rules.specs.Keeps.{KeepsRules}
use Rattle.cm_pool.specs.Geometry.{Sizes}
use Rattle.cm_layout.specs.declared.class_row.ClassRow.{ClassRow}
use Rattle.cm_layout.specs.declared.row.Row.{Row}
use Rattle.cm_layout.specs.declared.row.Row.TheVariants.{Loader, Class}
use Rattle.cm_layout.specs.Offsets.{root_at}
use Rattle.cm_layout.specs.Rows.{rows_with}
use Rattle.cm_layout.specs.Frames.{Frames}
use Rattle.cm_state.specs.State.{NamesDiffer, class_shows, class_among}
use Rattle.cm_state.specs.Stands.{EachKeepsRules}
use Rattle.cm_verdict.specs.declared.defined_at.DefinedAt.{DefinedAt}
use Rattle.cm_verdict.specs.declared.fault.Damage.{Damage}
use Rattle.cm_verdict.specs.declared.fault.Damage.TheVariants as damage
use Rattle.cm_verdict.specs.declared.fault.FileFault.{FileFault}
use Rattle.cm_verdict.specs.Faults.{◌>>=◌, at_slot}
use Rattle.cm_verdict.specs.Found.{Found, found_in}
use Rattle.cm_verdict.specs.Verdict.{if_kept, are_words, class_kept, words_at, is_whole, if_new}
use Rattle.cm_verdict.specs.Verdict.{class_found, classes_found, Standing, standing, verdict}
use Rattle.cm_verdict.specs.Laws.{rows_words, AreWhole, FoundIsFramed, FramedIsFound}
use Rattle.cm_verdict.specs.Laws.{Proves, VerdictStands, StandsInVerdict}

-- ---- one record

-- the words are the record of this class, which keeps the rules
pub record IsKept (words : List ℕ) (c : ClassFile) : Type 0 where
  pub keeps : KeepsRules c
  pub laid : words ≡ lay c

abbrev a_class : ClassFile → Option ClassFile
a_class c = Some c

class_same : (a b : ClassFile) → a_class a ≡ a_class b → a ≡ b
class_same a b e = cc

kept : (words : List ℕ) (c d : ClassFile) → get_or words 1 0 < 2 ^ 64 → get_or words 2 0 < 2 ^ 64
    → class_at words ≡ Some d → if_kept d ≡ Some c → IsKept words c
kept words c d small_1 small_2 there = by_fault (fault d) refl
  where
    by_fault : (o : Option Broken) → fault d ≡ o → cond (is_none o) (Some d) None ≡ Some c
        → IsKept words c
    by_fault None none e =
        let taken = class_taken words d small_1 small_2 there in
        subst (IsKept words) (class_same d c e) (record {
          keeps = record { spelled = taken.0; kept = none };
          laid = taken.1;
        })
    by_fault (Some broken) found e = absurd (cc)

pub is_kept : (words : List ℕ) (c : ClassFile) → class_kept words ≡ Some c → IsKept words c
unfolding class_kept
is_kept words c = by_words (are_words words) refl
  where
    by_class : (o : Option ClassFile) → class_at words ≡ o → are_words words ≡ true
        → option_and_then if_kept o ≡ Some c → IsKept words c
    by_class None there small e = absurd (cc)
    by_class (Some d) there small e =
        let both =
        and_parts (nat_lt (get_or words 1 0) (2 ^ 64)) (nat_lt (get_or words 2 0) (2 ^ 64))
        small in
        kept words c d (ltb-true (get_or words 1 0) (2 ^ 64) both.0)
        (ltb-true (get_or words 2 0) (2 ^ 64) both.1) there e

    by_words : (t : Bool) → are_words words ≡ t
        → cond t (option_and_then if_kept (class_at words)) None ≡ Some c → IsKept words c
    by_words true small e = by_class (class_at words) refl small e
    by_words false small e = absurd (cc)

word_1 : (c : ClassFile) → HasSpelling c → get_or (lay c) 1 0 < 2 ^ 64
unfolding lay
word_1 c s = omega (arith, s.flags, s.this_class, s.super_class, s.interfaces.0)

word_2 : (c : ClassFile) → HasSpelling c → get_or (lay c) 2 0 < 2 ^ 64
unfolding lay
word_2 c s = omega (arith, s.count, s.fields.0, s.methods.0, s.attributes.0)

pub kept_again : (c : ClassFile) → KeepsRules c → class_kept (lay c) ≡ Some c
unfolding class_kept
kept_again c k =
    let words : are_words (lay c) ≡ true =
    and_from _ _ (lt-ltb (get_or (lay c) 1 0) (2 ^ 64) (word_1 c k.spelled))
    (lt-ltb (get_or (lay c) 2 0) (2 ^ 64) (word_2 c k.spelled)) in
    rw words (rw (class_again c k.spelled) (rw k.kept refl))

-- ---- one row

-- the record of a row is this class's, in a whole root, under a name that is new
record IsPassed (sizes : Sizes) (contents : List ℕ) (before : List (Row ClassFile)) (r : ClassRow)
    (c : ClassFile) : Type 0 where
  whole : root_at sizes (r.place.chunk.root + 1) ≤ length contents
  kept : IsKept (words_at sizes contents r.place) c
  new : class_among class_shows r.loader (class_shows.name c) before ≡ None

abbrev class_ok : ClassFile → Result ClassFile Damage
class_ok c = Ok c

ok_same : (a b : ClassFile) → class_ok a ≡ class_ok b → a ≡ b
ok_same a b e = cc

passed : (sizes : Sizes) (contents : List ℕ) (before : List (Row ClassFile)) (r : ClassRow)
    (c : ClassFile) → class_found sizes contents before r ≡ Ok c
    → IsPassed sizes contents before r c
unfolding class_found
passed sizes contents before r c = by_root (is_whole sizes (length contents) r.place) refl
  where
    by_name : (d : ClassFile) → is_whole sizes (length contents) r.place ≡ true
        → class_kept (words_at sizes contents r.place) ≡ Some d → (o : Option ClassFile)
        → class_among class_shows r.loader (class_shows.name d) before ≡ o
        → cond (is_none o) (Ok d) (Err damage.ClassTwice) ≡ Ok c
        → IsPassed sizes contents before r c
    by_name d whole there None new e =
        subst (IsPassed sizes contents before r) (ok_same d c e) (record {
          whole = leb-true (root_at sizes (r.place.chunk.root + 1)) (length contents) whole;
          kept = is_kept (words_at sizes contents r.place) d there;
          new = new;
        })
    by_name d whole there (Some other) old e = absurd (cc)

    by_class : (o : Option ClassFile) → is_whole sizes (length contents) r.place ≡ true
        → class_kept (words_at sizes contents r.place) ≡ o → if_new before r o ≡ Ok c
        → IsPassed sizes contents before r c
    by_class None whole there e = absurd (cc)
    by_class (Some d) whole there e =
        by_name d whole there (class_among class_shows r.loader (class_shows.name d) before) refl e

    by_root : (t : Bool) → is_whole sizes (length contents) r.place ≡ t
        → cond t (if_new before r (class_kept (words_at sizes contents r.place)))
        (Err damage.Chunks) ≡ Ok c
        → IsPassed sizes contents before r c
    by_root true whole e = by_class (class_kept (words_at sizes contents r.place)) whole refl e
    by_root false whole e = absurd (cc)

passes : (sizes : Sizes) (contents : List ℕ) (before : List (Row ClassFile)) (r : ClassRow)
    (c : ClassFile) → IsPassed sizes contents before r c
    → class_found sizes contents before r ≡ Ok c
unfolding class_found
passes sizes contents before r c p =
    let whole : is_whole sizes (length contents) r.place ≡ true =
    le-leb (root_at sizes (r.place.chunk.root + 1)) (length contents) p.whole in
    let there : class_kept (words_at sizes contents r.place) ≡ Some c =
    ap class_kept p.kept.laid ∙ kept_again c p.kept.keeps in
    rw whole (rw there (rw p.new refl))

-- ---- all rows

bound : {A B P : Type 0} (r : Result A FileFault) (f : A → Result B FileFault) (y : B)
    → (r >>= f) ≡ Ok y → ((x : A) → r ≡ Ok x → f x ≡ Ok y → P) → P
bound (Ok x) f y e go_on = go_on x refl e
bound (Err fault) f y e go_on = absurd (cc)

unslotted : {A : Type 0} (slot : ℕ) (r : Result A Damage) (x : A) → at_slot slot r ≡ Ok x
    → r ≡ Ok x
unslotted slot (Ok d) x e = cc
unslotted slot (Err what) x e = absurd (cc)

abbrev rows_ok : List (Row ClassFile) → Result (List (Row ClassFile)) FileFault
rows_ok rows = Ok rows

rows_ok_same : (a b : List (Row ClassFile)) → rows_ok a ≡ rows_ok b → a ≡ b
rows_ok_same a b e = cc

-- these classes are those of the rows, after the ones before them
record ArePassed (sizes : Sizes) (contents : List ℕ) (before : List (Row ClassFile))
    (rows : List (Row DefinedAt)) (classes : List (Row ClassFile)) : Type 0 where
  words : rows_with lay classes ≡ rows_words sizes contents rows
  keep : EachKeepsRules classes
  differ : NamesDiffer class_shows before classes
  whole : AreWhole sizes (length contents) rows

record Passes (sizes : Sizes) (contents : List ℕ) (before : List (Row ClassFile))
    (rows : List (Row DefinedAt)) (all : List (Row ClassFile)) : Type 0 where
  classes : List (Row ClassFile)
  all_are : all ≡ before ++ classes
  passed : ArePassed sizes contents before rows classes

all_passed : (sizes : Sizes) (contents : List ℕ) (before : List (Row ClassFile))
    (rows : List (Row DefinedAt)) (all : List (Row ClassFile))
    → classes_found sizes contents before rows ≡ Ok all → Passes sizes contents before rows all
unfolding classes_found
all_passed sizes contents before [] all e = record {
  classes = [];
  all_are = sym (append-nil before ∙ rows_ok_same before all e);
  passed = record { words = refl; keep = tt; differ = tt; whole = tt };
}
all_passed sizes contents before (Loader r ∷ rows) all e =
    let p = all_passed sizes contents (before ++ Loader r ∷ []) rows all e in
    record {
      classes = Loader r ∷ p.classes;
      all_are = p.all_are ∙ append_assoc before (Loader r ∷ []) p.classes;
      passed = record {
        words = ap (λ l. Loader r ∷ l) p.passed.words;
        keep = p.passed.keep;
        differ = p.passed.differ;
        whole = p.passed.whole;
      };
    }
all_passed sizes contents before (Class r at ∷ rows) all e =
    bound (at_slot at.slot (class_found sizes contents before r)) _ all e (λ c found rest.
    let one = passed sizes contents before r c
    (unslotted at.slot (class_found sizes contents before r) c found) in
    let p = all_passed sizes contents (before ++ Class r c ∷ []) rows all rest in
    record {
      classes = Class r c ∷ p.classes;
      all_are = p.all_are ∙ append_assoc before (Class r c ∷ []) p.classes;
      passed = record {
        words = (λ i. Class r (sym one.kept.laid i) ∷ p.passed.words i);
        keep = (one.kept.keeps, p.passed.keep);
        differ = (one.new, p.passed.differ);
        whole = (one.whole, p.passed.whole);
      };
    })

all_pass : (sizes : Sizes) (contents : List ℕ) (before : List (Row ClassFile))
    (rows : List (Row DefinedAt)) (classes : List (Row ClassFile))
    → ArePassed sizes contents before rows classes
    → classes_found sizes contents before rows ≡ Ok (before ++ classes)
unfolding classes_found
all_pass sizes contents before [] [] p = ap rows_ok (sym (append-nil before))
all_pass sizes contents before [] (d ∷ classes) p = let e = p.words in absurd (cc)
all_pass sizes contents before (q ∷ rows) [] p = let e = p.words in absurd (cc)
all_pass sizes contents before (Loader q ∷ rows) (Loader r ∷ classes) p =
    let e = p.words in
    let same : r ≡ q = cc in
    let tail : rows_with lay classes ≡ rows_words sizes contents rows = cc in
    let rest = all_pass sizes contents (before ++ Loader q ∷ []) rows classes (record {
      words = tail;
      keep = p.keep;
      differ = subst (λ (l : _). NamesDiffer class_shows (before ++ Loader l ∷ []) classes) same
          p.differ;
      whole = p.whole;
    }) in
    rest ∙ ap rows_ok (append_assoc before (Loader q ∷ []) classes
    ∙ (λ i. before ++ Loader (sym same i) ∷ classes))
all_pass sizes contents before (Class q at ∷ rows) (Class r c ∷ classes) p =
    let e = p.words in
    let same : r ≡ q = cc in
    let laid : lay c ≡ words_at sizes contents q.place = cc in
    let tail : rows_with lay classes ≡ rows_words sizes contents rows = cc in
    let one : class_found sizes contents before q ≡ Ok c =
    passes sizes contents before q c (record {
      whole = p.whole.0;
      kept = record { keeps = p.keep.0; laid = sym laid };
      new = subst (λ (l : ClassRow). class_among class_shows l.loader (class_shows.name c) before
          ≡ None)
          same p.differ.0;
    }) in
    let rest = all_pass sizes contents (before ++ Class q c ∷ []) rows classes (record {
      words = tail;
      keep = p.keep.1;
      differ = subst (λ (l : ClassRow). NamesDiffer class_shows (before ++ Class l c ∷ []) classes)
          same p.differ.1;
      whole = p.whole.1;
    }) in
    ap (λ t. at_slot at.slot t >>= λ d.
    classes_found sizes contents (before ++ Class q d ∷ []) rows) one
    ∙ (rest ∙ ap rows_ok (append_assoc before (Class q c ∷ []) classes
    ∙ (λ i. before ++ Class (sym same i) c ∷ classes)))
all_pass sizes contents before (Loader q ∷ rows) (Class r c ∷ classes) p =
    let e = p.words in absurd (cc)
all_pass sizes contents before (Class q at ∷ rows) (Loader r ∷ classes) p =
    let e = p.words in absurd (cc)

-- ---- the verdict

abbrev standing_ok : Standing → Result Standing FileFault
standing_ok s = Ok s

standing_same : (s t : Standing) → standing_ok s ≡ standing_ok t → s ≡ t
standing_same s t e = cc

proves : (contents : List ℕ) (f : Found) (rows : List (Row ClassFile)) → FoundIsFramed
    → found_in contents ≡ Ok f → ArePassed f.sizes contents [] f.rows rows
    → Proves contents (standing f rows)
proves contents f rows framed found p = record {
  stands = record {
    rows = rows;
    framed = subst (λ l. Frames f.sizes contents l f.number) (sym p.words)
        (framed contents f found p.whole).frames;
    kept = p.keep;
    differ = p.differ;
    state_is = refl;
    arenas_are = refl;
  };
  found = found;
  whole = p.whole;
  words = p.words;
  kept = p.keep;
  differ = p.differ;
}

pub verdict_stands : FoundIsFramed → VerdictStands
unfolding verdict
verdict_stands framed contents s e =
    bound (found_in contents) _ s e (λ f found rest.
    bound (classes_found f.sizes contents [] f.rows) _ s rest (λ rows passed last.
    let p = all_passed f.sizes contents [] f.rows rows passed in
    let all : ArePassed f.sizes contents [] f.rows rows =
    subst (ArePassed f.sizes contents [] f.rows) (sym p.all_are) p.passed in
    subst (Proves contents) (standing_same (standing f rows) s last)
    (proves contents f rows framed found all)))

pub stands_in_verdict : FramedIsFound → StandsInVerdict
unfolding verdict
stands_in_verdict framed sizes contents m arenas number st =
    let found = framed sizes contents (rows_with lay st.rows) number st.framed in
    let f = found.0 in
    let is = found.1 in
    let passed : classes_found f.sizes contents [] f.rows ≡ Ok st.rows =
    all_pass f.sizes contents [] f.rows st.rows (record {
      words = sym is.rows_are;
      keep = st.kept;
      differ = st.differ;
      whole = is.whole;
    }) in (
      standing f st.rows,
      record {
        ok = rw is.found (rw passed refl);
        sizes_are = is.sizes_are;
        state_is = sym st.state_is;
        arenas_are = sym st.arenas_are;
        number_is = is.number_is;
      },
    )

-- ---- the result of reading a record

pub no_record : (words : List ℕ) → length words ≤ limit → (IsRecord words → ⊥)
    → is_some (class_kept words) ≡ false
no_record words short none = by_class (class_kept words) refl
  where
    by_class : (o : Option ClassFile) → class_kept words ≡ o → is_some o ≡ false
    by_class None is = refl
    by_class (Some c) is =
        let k = is_kept words c is in
        absurd (none (c, record { spelled = k.keeps.spelled; laid = k.laid; short = short }))

-- words that are kept are a class's record
pub a_record : (words : List ℕ) → length words ≤ limit → is_some (class_kept words) ≡ true
    → IsRecord words
a_record words short kept = by_class (class_kept words) refl kept
  where
    by_class : (o : Option ClassFile) → class_kept words ≡ o → is_some o ≡ true → IsRecord words
    by_class None is e = absurd (cc)
    by_class (Some c) is e =
        let k = is_kept words c is in
        (c, record { spelled = k.keeps.spelled; laid = k.laid; short = short })

pub kept_by : (words : List ℕ) (c : ClassFile) (o : Option Broken) → IsRecordOf c words
    → o ≡ fault c → is_none o ≡ is_some (class_kept words)
unfolding class_kept
kept_by words c None is found =
    sym (ap (λ (l : List ℕ). is_some (class_kept l)) is.laid
    ∙ ap is_some (kept_again c (record { spelled = is.spelled; kept = sym found })))
kept_by words c (Some broken) is found = by_class (class_kept words) refl
  where
    by_class : (k : Option ClassFile) → class_kept words ≡ k → false ≡ is_some k
    by_class None e = refl
    by_class (Some d) e =
        let k = is_kept words d e in
        let same : d ≡ c =
        class_same d c (sym (class_again d k.keeps.spelled)
        ∙ (ap class_at (sym k.laid ∙ is.laid) ∙ class_again c is.spelled)) in
        let kept : fault d ≡ None = k.keeps.kept in
        let broken_too : fault d ≡ Some broken = ap fault same ∙ sym found in
        absurd (cc)
