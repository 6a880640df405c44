-- The cause against a change is the same by classes and by the words of their records.
-- For `commands_follow_the_machine`.
use Rattle.std.proofs.Common.{◌≡◌, ℕ, Bool, true, false, cond, List, [], ◌∷◌, length}
use Rattle.std.proofs.Common.{Option, Some, None, Result, Ok, Err, refl, sym, ap}
use Rattle.std.proofs.Common.{◌∙◌, is_some, eqb}
use Rattle.std.specs.Prelude.{not, nat_lt, ◌&&◌}
use Rattle.std.specs.List.{list_all}
use Rattle.std.specs.Option.{option_map, option_and_then}
use Rattle.std.specs.FinMap.{get}
use Rattle.cm_class.specs.declared.class_file.ClassFile.{ClassFile}
use Rattle.cm_class.specs.Names.{class_name_of}
use Rattle.cm_pool.specs.Chunks.{chunk_size}
use Rattle.cm_pool.specs.Geometry.{Sizes}
use Rattle.cm_record.specs.Layout.{lay}
use Rattle.cm_record.specs.Names.{class_name_in}
use Rattle.cm_layout.specs.Names.{is_loader_name, slots_of_name}
use Rattle.cm_layout.specs.Rows.{number_of, rows_with}
use Rattle.cm_layout.specs.Rules.{is_too_much}
use Rattle.cm_layout.proofs.{slots_of-with}
use Rattle.cm_state.specs.State.{class_shows, words_show, class_in, class_among, state_of}
use Rattle.cm_state.specs.Step.{Change, AddLoader, Define, Unload, Tighten, UnloadAll, Cause}
use Rattle.cm_state.specs.Step.{step, is_full}
use Rattle.cm_state.specs.Step.{BadName, NumbersSpent, LoaderExists, NoLoader, ClassExists}
use Rattle.cm_state.specs.Step.{RecordTooLong, JournalFull, BadList, last_number, is_list}
use Rattle.cm_state.specs.Entries.{AreCacheRows}
use Rattle.cm_state.specs.Laws.{LoadersAreFound, ClassesAreFound, SizesAgree}
use Rattle.cm_commands.specs.Machine.{Asks}
use Rattle.cm_handover.specs.Following.{AreRightClasses}
use Rattle.cm_handover.proofs.Classes.{ClassRows, TellName, name_told, number_words, among_words}

-- What is used of the facts about rows and their state.
pub record Known : Type 0 where
  pub tell : TellName
  pub loaders : LoadersAreFound ClassFile
  pub word_loaders : LoadersAreFound (List ℕ)
  pub classes : ClassesAreFound ClassFile
  pub word_classes : ClassesAreFound (List ℕ)
  pub sizes : SizesAgree ClassFile
  pub word_sizes : SizesAgree (List ℕ)

-- ---- the causes by their tests

abbrev pub cause_in : {M : Type 0} → Result M Cause → Option Cause
cause_in (Err cause) = Some cause
cause_in (Ok next) = None

abbrev first_of : List (Bool × Cause) → Option Cause
first_of [] = None
first_of (test ∷ tests) = cond test.0 (Some test.1) (first_of tests)

add_cause : {M : Type 0} (m : M) (name spent there full : Bool)
    → cause_in (cond (not name) (Err BadName) (cond spent (Err NumbersSpent)
    (cond there (Err LoaderExists) (cond full (Err JournalFull) (Ok m)))))
    ≡ first_of ((not name, BadName) ∷ (spent, NumbersSpent) ∷ (there, LoaderExists)
    ∷ (full, JournalFull) ∷ [])
add_cause m false spent there full = refl
add_cause m true true there full = refl
add_cause m true false true full = refl
add_cause m true false false true = refl
add_cause m true false false false = refl

define_cause : {M : Type 0} (m : M) (name spent there has long full : Bool)
    → cause_in (cond (not name) (Err BadName) (cond spent (Err NumbersSpent)
    (cond (not there) (Err NoLoader) (cond has (Err ClassExists)
    (cond long (Err RecordTooLong) (cond full (Err JournalFull) (Ok m)))))))
    ≡ first_of ((not name, BadName) ∷ (spent, NumbersSpent) ∷ (not there, NoLoader)
    ∷ (has, ClassExists) ∷ (long, RecordTooLong) ∷ (full, JournalFull) ∷ [])
define_cause m false spent there has long full = refl
define_cause m true true there has long full = refl
define_cause m true false false has long full = refl
define_cause m true false true true long full = refl
define_cause m true false true false true full = refl
define_cause m true false true false false true = refl
define_cause m true false true false false false = refl

loader_cause : {M : Type 0} (m : M) (name spent there : Bool)
    → cause_in (cond (not name) (Err BadName) (cond spent (Err NumbersSpent)
    (cond (not there) (Err NoLoader) (Ok m))))
    ≡ first_of ((not name, BadName) ∷ (spent, NumbersSpent) ∷ (not there, NoLoader) ∷ [])
loader_cause m false spent there = refl
loader_cause m true true there = refl
loader_cause m true false false = refl
loader_cause m true false true = refl

list_cause : {M : Type 0} (m : M) (list name spent there : Bool)
    → cause_in (cond (not list) (Err BadList) (cond (not name) (Err BadName)
    (cond spent (Err NumbersSpent) (cond (not there) (Err NoLoader) (Ok m)))))
    ≡ first_of ((not list, BadList) ∷ (not name, BadName) ∷ (spent, NumbersSpent)
    ∷ (not there, NoLoader) ∷ [])
list_cause m false name spent there = refl
list_cause m true name spent there = loader_cause m name spent there

-- ---- the same tests

-- rows with classes and with words
pub record Both (sizes : Sizes) (n : ℕ) (rows : ClassRows) : Type 0 where
  pub right : AreRightClasses rows
  pub cache : AreCacheRows class_shows sizes n rows
  pub words : AreCacheRows words_show sizes n (rows_with lay rows)

same_loader : Known → (rows : ClassRows) (x : List ℕ)
    → is_some (get (state_of words_show (rows_with lay rows)) x)
    ≡ is_some (get (state_of class_shows rows) x)
same_loader known rows x =
    known.word_loaders words_show (rows_with lay rows) x
    ∙ (ap is_some (number_words x rows) ∙ sym (known.loaders class_shows rows x))

same_loaders : Known → (rows : ClassRows) (xs : List (List ℕ))
    → list_all (λ x. is_some (get (state_of words_show (rows_with lay rows)) x)) xs
    ≡ list_all (λ x. is_some (get (state_of class_shows rows) x)) xs
same_loaders known rows [] = refl
same_loaders known rows (x ∷ xs) =
    (λ i. same_loader known rows x i && same_loaders known rows xs i)

pub some_mapped : {A B : Type 0} (f : A → B) (o : Option A) → is_some (option_map f o) ≡ is_some o
some_mapped f None = refl
some_mapped f (Some x) = refl

-- what is found by name, with words and with classes
pub same_class : Known → (rows : ClassRows) (x name : List ℕ) → AreRightClasses rows
    → class_in (state_of words_show (rows_with lay rows)) x name
    ≡ option_map lay (class_in (state_of class_shows rows) x name)
same_class known rows x name right =
    known.word_classes words_show (rows_with lay rows) x name
    ∙ (ap (option_and_then (λ u. class_among words_show u name (rows_with lay rows)))
    (number_words x rows)
    ∙ (by_number (number_of x rows)
    ∙ ap (option_map lay) (sym (known.classes class_shows rows x name))))
  where
    by_number : (o : Option ℕ)
        → option_and_then (λ u. class_among words_show u name (rows_with lay rows)) o
        ≡ option_map lay (option_and_then (λ u. class_among class_shows u name rows) o)
    by_number None = refl
    by_number (Some u) = among_words known.tell u name rows right

same_full : Known → (sizes : Sizes) (n : ℕ) (rows : ClassRows) (need : ℕ) → Both sizes n rows
    → is_full sizes (state_of words_show (rows_with lay rows)) need
    ≡ is_full sizes (state_of class_shows rows) need
same_full known sizes n rows need both =
    ap (λ k. is_too_much sizes k need)
    ((known.word_sizes words_show sizes n (rows_with lay rows) both.words).1
    ∙ (slots_of-with lay rows ∙ sym (known.sizes class_shows sizes n rows both.cache).1))

-- ---- one cause

pub same_cause : Known → (sizes : Sizes) (n : ℕ) (rows : ClassRows) (asked : Change (List ℕ))
    (change : Change ClassFile) → Both sizes n rows → Asks asked change
    → cause_in (step words_show sizes (state_of words_show (rows_with lay rows)) n asked)
    ≡ cause_in (step class_shows sizes (state_of class_shows rows) n change)
same_cause known sizes n rows (AddLoader x) change both asks =
    add_cause _ (is_loader_name x) (eqb n last_number)
    (is_some (get (state_of words_show (rows_with lay rows)) x))
    (is_full sizes (state_of words_show (rows_with lay rows)) (slots_of_name x))
    ∙ (ap (λ t. first_of ((not (is_loader_name x), BadName) ∷ (eqb n last_number, NumbersSpent)
    ∷ (t, LoaderExists)
    ∷ (is_full sizes (state_of words_show (rows_with lay rows)) (slots_of_name x), JournalFull)
    ∷ []))
    (same_loader known rows x)
    ∙ (ap (λ t. first_of ((not (is_loader_name x), BadName) ∷ (eqb n last_number, NumbersSpent)
    ∷ (is_some (get (state_of class_shows rows) x), LoaderExists) ∷ (t, JournalFull) ∷ []))
    (same_full known sizes n rows (slots_of_name x) both)
    ∙ (sym (add_cause _ (is_loader_name x) (eqb n last_number)
    (is_some (get (state_of class_shows rows) x))
    (is_full sizes (state_of class_shows rows) (slots_of_name x)))
    ∙ ap (λ c. cause_in (step class_shows sizes (state_of class_shows rows) n c)) (sym asks))))
same_cause known sizes n rows (Define x words) change both (c, right, laid, is) =
    ap (λ w. cause_in (step words_show sizes (state_of words_show (rows_with lay rows)) n (Define x
    w)))
    (sym laid)
    ∙ (define_cause _ (is_loader_name x) (eqb n last_number)
    (is_some (get (state_of words_show (rows_with lay rows)) x))
    (is_some (class_in (state_of words_show (rows_with lay rows)) x (class_name_in (lay c))))
    (nat_lt (chunk_size sizes.top) (length (lay c)))
    (is_full sizes (state_of words_show (rows_with lay rows)) 1)
    ∙ (ap (λ t. tests t
    (is_some (class_in (state_of words_show (rows_with lay rows)) x (class_name_in (lay c))))
    (is_full sizes (state_of words_show (rows_with lay rows)) 1)) (same_loader known rows x)
    ∙ (ap (λ t. tests (is_some (get (state_of class_shows rows) x)) t
    (is_full sizes (state_of words_show (rows_with lay rows)) 1)) same_has
    ∙ (ap (λ t. tests (is_some (get (state_of class_shows rows) x))
    (is_some (class_in (state_of class_shows rows) x (class_name_of c))) t)
    (same_full known sizes n rows 1 both)
    ∙ (sym (define_cause _ (is_loader_name x) (eqb n last_number)
    (is_some (get (state_of class_shows rows) x))
    (is_some (class_in (state_of class_shows rows) x (class_name_of c)))
    (nat_lt (chunk_size sizes.top) (length (lay c))) (is_full sizes (state_of class_shows rows) 1))
    ∙ ap (λ d. cause_in (step class_shows sizes (state_of class_shows rows) n d)) (sym is))))))
  where
    tests : Bool → Bool → Bool → Option Cause
    tests there has full =
        first_of ((not (is_loader_name x), BadName) ∷ (eqb n last_number, NumbersSpent)
        ∷ (not there, NoLoader) ∷ (has, ClassExists)
        ∷ (nat_lt (chunk_size sizes.top) (length (lay c)), RecordTooLong) ∷ (full, JournalFull) ∷
        [])

    same_has : is_some (class_in (state_of words_show (rows_with lay rows)) x (class_name_in (lay
        c)))
        ≡ is_some (class_in (state_of class_shows rows) x (class_name_of c))
    same_has =
        ap (λ y. is_some (class_in (state_of words_show (rows_with lay rows)) x y))
        (name_told known.tell c right)
        ∙ (ap is_some (same_class known rows x (class_name_of c) both.right)
        ∙ some_mapped lay (class_in (state_of class_shows rows) x (class_name_of c)))
same_cause known sizes n rows (Unload x) change both asks =
    loader_cause _ (is_loader_name x) (eqb n last_number)
    (is_some (get (state_of words_show (rows_with lay rows)) x))
    ∙ (ap (λ t. first_of ((not (is_loader_name x), BadName) ∷ (eqb n last_number, NumbersSpent)
    ∷ (not t, NoLoader) ∷ [])) (same_loader known rows x)
    ∙ (sym (loader_cause _ (is_loader_name x) (eqb n last_number)
    (is_some (get (state_of class_shows rows) x)))
    ∙ ap (λ c. cause_in (step class_shows sizes (state_of class_shows rows) n c)) (sym asks)))
same_cause known sizes n rows (Tighten x) change both asks =
    loader_cause _ (is_loader_name x) (eqb n last_number)
    (is_some (get (state_of words_show (rows_with lay rows)) x))
    ∙ (ap (λ t. first_of ((not (is_loader_name x), BadName) ∷ (eqb n last_number, NumbersSpent)
    ∷ (not t, NoLoader) ∷ [])) (same_loader known rows x)
    ∙ (sym (loader_cause _ (is_loader_name x) (eqb n last_number)
    (is_some (get (state_of class_shows rows) x)))
    ∙ ap (λ c. cause_in (step class_shows sizes (state_of class_shows rows) n c)) (sym asks)))
same_cause known sizes n rows (UnloadAll xs) change both asks =
    list_cause _ (is_list xs) (list_all is_loader_name xs) (eqb n last_number)
    (list_all (λ x. is_some (get (state_of words_show (rows_with lay rows)) x)) xs)
    ∙ (ap (λ t. first_of ((not (is_list xs), BadList) ∷ (not (list_all is_loader_name xs), BadName)
    ∷ (eqb n last_number, NumbersSpent) ∷ (not t, NoLoader) ∷ [])) (same_loaders known rows xs)
    ∙ (sym (list_cause _ (is_list xs) (list_all is_loader_name xs) (eqb n last_number)
    (list_all (λ x. is_some (get (state_of class_shows rows) x)) xs))
    ∙ ap (λ c. cause_in (step class_shows sizes (state_of class_shows rows) n c)) (sym asks)))
