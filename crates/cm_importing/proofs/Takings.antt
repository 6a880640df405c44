-- Changes that are asked for one after another, and stored together.
-- For `add_loader`, `define_each`, `define_one`, `is_there`, `import_all`, `import_feed`,
-- `import_group`, `unload_one`, `unload_each`, `unload_group`, `unload`.
use Rattle.std.specs.Global.{Vec}
use Rattle.std.specs.Result.{is_err}
use Rattle.std.specs.Prelude.{IsTrue}
use Rattle.std.proofs.Common.{◌≡◌, ℕ, Bool, true, false, List, [], ◌∷◌, ◌++◌, Result, Ok, Err, refl}
use Rattle.std.proofs.Common.{Some, None}
use Rattle.std.proofs.Common.{sym}
use Rattle.std.proofs.Common.{ap, subst, ◌∙◌, arith, length}
use Rattle.std.proofs.lemmas.List.{map-append}
use Rattle.cm_disk.specs.declared.disk.DeviceFault.{DeviceFault}
use Rattle.cm_pool.specs.Geometry.{Sizes}
use Rattle.cm_class.specs.declared.class_file.ClassFile.{ClassFile}
use Rattle.cm_record.specs.Names.{class_name_in}
use Rattle.cm_state.specs.Step.{Change, AddLoader, Define, Unload}
use Rattle.cm_commands.specs.declared.refusal.Refusal.{Refusal}
use Rattle.cm_commands.specs.declared.refusal.Refusal.TheVariants as refusal
use Rattle.cm_commands.specs.Machine.{Base, Machine, machine_from, accepted_to}
use Rattle.cm_handover.specs.Laws.{Finds}
use Rattle.cm_session.specs.Images.{StandsForSome}
use Rattle.cm_session.specs.Moves.{ReachesMachine, Accepting, Answers}
use Rattle.cm_session.specs.Committing.{IsCaughtUp, Commits, Loses, all_handed, all_stored}
use Rattle.cm_importing.specs.declared.outcome.Outcome.{Outcome}
use Rattle.cm_importing.specs.Outcomes.{answer_of, outcome_alone, outcome_with, IsSame, IsCompared}
use Rattle.cm_importing.specs.Outcomes.{IsRightOutcome}
use Rattle.cm_importing.specs.Groups.{Pause, pause, IsReady, Takes, TakesEach, StoresGroup}
use Rattle.cm_importing.specs.Groups.{LosesGroup, defines}
use Rattle.cm_importing.specs.Runs.{TellsLoader, RunsLoader}
use Rattle.cm_importing.specs.Unloading.{unloads}
use Rattle.cm_importing.specs.declared.fault.ImportFault.{ImportFault}
use Rattle.cm_importing.specs.declared.fault.ImportFault.TheVariants as fault

-- one change more
pub takes_more : (sizes : Sizes) (k : Machine) (asked : List (Change (List ℕ)))
    (answers : List Outcome) (between : Machine) (one : Change (List ℕ)) (answer : Outcome)
    (next : Machine)
    → TakesEach sizes k asked answers between → Takes sizes between one answer next
    → TakesEach sizes k (asked ++ one ∷ []) (answers ++ answer ∷ []) next
takes_more sizes k [] [] between one answer next is more =
    (next, subst (λ (m : Machine). Takes sizes m one answer next) is more, refl)
takes_more sizes k [] (a ∷ answers) between one answer next is more = absurd is
takes_more sizes k (x ∷ asked) [] between one answer next is more = absurd is
takes_more sizes k (x ∷ asked) (a ∷ answers) between one answer next is more =
    (is.0, is.1, takes_more sizes is.0 asked answers between one answer next is.2 more)

-- what an accepted cache answers is what the machine takes, with a right outcome
pub accepting_takes : (sizes : Sizes) (k : Machine) (asked : Change (List ℕ))
    (answer : Result ℕ Refusal) (outcome : Outcome) (Matching : Machine → Type 0)
    → Accepting sizes k asked answer Matching
    → answer ≡ answer_of outcome → IsRightOutcome sizes k asked outcome
    → ReachesMachine (Takes sizes k asked outcome) Matching
accepting_takes sizes k asked answer outcome Matching a is right = record {
  next = a.reaches.next;
  does = record {
    change = a.change;
    asks = a.asks;
    answers = subst (λ (r : Result ℕ Refusal). Answers sizes k a.change r a.reaches.next) is
        a.reaches.does;
    right = right;
  };
  matches = a.reaches.matches;
}

-- the outcome of a loader
pub answer_alone : (answer : Result ℕ Refusal) → answer ≡ answer_of (outcome_alone answer)
answer_alone (Ok number) = refl
answer_alone (Err r) = refl

-- the outcome of a class
pub answer_with : (answer : Result ℕ Refusal) (is_there : Bool)
    → answer ≡ answer_of (outcome_with answer is_there)
answer_with (Ok number) is_there = refl
answer_with (Err refusal.ClassExists) true = refl
answer_with (Err refusal.ClassExists) false = refl
answer_with (Err r) is_there = refl

not_true : IsTrue false → ⊥
not_true is = absurd (cc)

-- the class that the loader has is compared
pub found_same : (sizes : Sizes) (k : Machine) (loader words name found : List ℕ) (same : Bool)
    → name ≡ class_name_in words → Finds sizes k loader name (Some found)
    → (IsTrue same → found ≡ words) → (found ≡ words → IsTrue same)
    → IsSame sizes k loader words same
found_same sizes k loader words name found true is finds there other =
    subst (λ (n : List ℕ). Finds sizes k loader n (Some words)) is
    (subst (λ (f : List ℕ). Finds sizes k loader name (Some f)) (there refl) finds)
found_same sizes k loader words name found false is finds there other = (
  Some found,
  subst (λ (n : List ℕ). Finds sizes k loader n (Some found)) is finds,
  λ e. let same : found ≡ words = cc in not_true (other same),
)

pub none_is_other : (sizes : Sizes) (k : Machine) (loader words name : List ℕ)
    → name ≡ class_name_in words → Finds sizes k loader name None
    → IsSame sizes k loader words false
none_is_other sizes k loader words name is finds =
    (None, subst (λ (n : List ℕ). Finds sizes k loader n None) is finds, λ e. cc)

pub class_compared : (sizes : Sizes) (k : Machine) (loader words : List ℕ)
    (answer : Result ℕ Refusal) (is_there : Bool) → IsSame sizes k loader words is_there
    → IsCompared sizes k loader words (outcome_with answer is_there)
class_compared sizes k loader words (Ok number) is_there same = tt
class_compared sizes k loader words (Err refusal.ClassExists) true same = same
class_compared sizes k loader words (Err refusal.ClassExists) false same = same
class_compared sizes k loader words (Err r) is_there same = λ is. cc

-- one class more
pub takes_one_more : (sizes : Sizes) (k : Machine) (loader : List ℕ) (classes : List (List ℕ))
    (old : List Outcome) (words : List ℕ) (answer : Outcome) (mid : Machine)
    (new : List Outcome) (Matching : Machine → Type 0)
    → new ≡ old ++ answer ∷ []
    → TakesEach sizes k (defines loader classes) old mid
    → ReachesMachine (Takes sizes mid (Define loader words) answer) Matching
    → ReachesMachine (TakesEach sizes k (defines loader (classes ++ words ∷ [])) new) Matching
takes_one_more sizes k loader classes old words answer mid new Matching pushed taken r = record {
  next = r.next;
  does = subst (λ l. TakesEach sizes k (defines loader (classes ++ words ∷ [])) l r.next)
      (sym pushed)
      (subst (λ l. TakesEach sizes k l (old ++ answer ∷ []) r.next)
      (sym (map-append (λ (w : List ℕ). Define loader w) classes (words ∷ [])))
      (takes_more sizes k (defines loader classes) old mid (Define loader words) answer r.next
      taken r.does));
  matches = r.matches;
}

-- one loader more
pub one_loader_more : (sizes : Sizes) (k : Machine) (loaders : List (Vec ℕ)) (old : List Outcome)
    (loader : Vec ℕ) (answer : Outcome) (mid : Machine) (new : List Outcome)
    (Matching : Machine → Type 0)
    → new ≡ old ++ answer ∷ [] → TakesEach sizes k (unloads loaders) old mid
    → ReachesMachine (Takes sizes mid (Unload loader.items) answer) Matching
    → ReachesMachine (TakesEach sizes k (unloads (loaders ++ loader ∷ [])) new) Matching
one_loader_more sizes k loaders old loader answer mid new Matching pushed taken r = record {
  next = r.next;
  does = subst (λ l. TakesEach sizes k (unloads (loaders ++ loader ∷ [])) l r.next) (sym pushed)
      (subst (λ l. TakesEach sizes k l (old ++ answer ∷ []) r.next)
      (sym (map-append (λ (l : Vec ℕ). Unload l.items) loaders (loader ∷ [])))
      (takes_more sizes k (unloads loaders) old mid (Unload loader.items) answer r.next taken
      r.does));
  matches = r.matches;
}

pub none_left : {A : Type 0} (xs : List A) → length xs ≡ 0 → xs ≡ []
none_left [] none = refl
none_left (x ∷ xs) none = absurd (omega (arith, none))

-- ---- only the commands change

pub record SameFlags (k next : Machine) : Type 0 where
  pub acknowledged : next.acknowledged ≡ k.acknowledged
  pub sealed : next.sealed ≡ k.sealed
  pub failed : next.failed ≡ k.failed
  pub noticed : next.noticed ≡ k.noticed

same_flags : (k : Machine) → SameFlags k k
same_flags k = record { acknowledged = refl; sealed = refl; failed = refl; noticed = refl }

answer_keeps : (sizes : Sizes) (k : Machine) (change : Change ClassFile)
    (answer : Result ℕ Refusal) (next : Machine) → Answers sizes k change answer next
    → SameFlags k next
answer_keeps sizes k change (Ok number) next a = record {
  acknowledged = ap (λ (m : Machine). m.acknowledged) a.1.next_is;
  sealed = ap (λ (m : Machine). m.sealed) a.1.next_is;
  failed = ap (λ (m : Machine). m.failed) a.1.next_is;
  noticed = ap (λ (m : Machine). m.noticed) a.1.next_is;
}
answer_keeps sizes k change (Err r) next a = subst (SameFlags k) (sym a.0) (same_flags k)

takes_keep : (sizes : Sizes) (k : Machine) (asked : List (Change (List ℕ)))
    (answers : List Outcome) (next : Machine) → TakesEach sizes k asked answers next
    → SameFlags k next
takes_keep sizes k [] [] next is = subst (SameFlags k) (sym is) (same_flags k)
takes_keep sizes k [] (a ∷ answers) next is = absurd is
takes_keep sizes k (x ∷ asked) [] next is = absurd is
takes_keep sizes k (x ∷ asked) (a ∷ answers) next is =
    let one = answer_keeps sizes k is.1.change (answer_of a) is.0 is.1.answers in
    let more = takes_keep sizes is.0 asked answers next is.2 in
    record {
      acknowledged = more.acknowledged ∙ one.acknowledged;
      sealed = more.sealed ∙ one.sealed;
      failed = more.failed ∙ one.failed;
      noticed = more.noticed ∙ one.noticed;
    }

pub taken_is_caught : (sizes : Sizes) (k : Machine) (asked : List (Change (List ℕ)))
    (answers : List Outcome) (next : Machine) → TakesEach sizes k asked answers next
    → IsReady k → IsCaughtUp next
taken_is_caught sizes k asked answers next taken ready =
    let same = takes_keep sizes k asked answers next taken in
    record {
      works = same.failed ∙ ready.caught.works;
      unnoticed = same.noticed ∙ ready.caught.unnoticed;
      stored = same.acknowledged ∙ (ready.caught.stored ∙ sym same.sealed);
    }

stored_is_ready : (accepted : Machine) → IsCaughtUp accepted → IsReady (all_stored accepted)
stored_is_ready accepted caught = record {
  caught = record { works = caught.works; unnoticed = caught.unnoticed; stored = refl };
  all = refl;
}

pub begins_ready : (base : Base) → IsReady (machine_from base)
begins_ready base = record {
  caught = record { works = refl; unnoticed = refl; stored = refl };
  all = begun base;
}
  where
    begun : (b : Base) → b.number ≡ accepted_to (machine_from b)
    begun b = omega arith

-- ---- a group

module _ (k : Machine) (Matching : Machine → Type 0) where
  pub commit_ok : (result : Result (Unit {0}) DeviceFault) (is : Bool) → is ≡ is_err result
      → is ≡ false → ReachesMachine (Commits k result) Matching
      → ReachesMachine (λ next. next ≡ all_stored k) Matching
  commit_ok (Ok done) is value none r = r
  commit_ok (Err fault) is value none r = absurd (cc)

  pub commit_err : (result : Result (Unit {0}) DeviceFault) (is : Bool) → is ≡ is_err result
      → is ≡ true → ReachesMachine (Commits k result) Matching
      → ReachesMachine (Loses k true) Matching
  commit_err (Ok done) is value failed r = absurd (cc)
  commit_err (Err fault) is value failed r = r

module _ {D : Type 0} (Leaves : D → D → (List ℕ → Type 0) → Type 0) (sizes : Sizes)
    (asked : List (Change (List ℕ))) (answers : List Outcome) (old new : D)
    (k accepted : Machine) (ready : IsReady k)
    (taken : TakesEach sizes k asked answers accepted)
    (moments : Leaves old new (StandsForSome sizes (all_handed accepted))) where
  pub group_stored : (Matching : Machine → Type 0)
      → ReachesMachine (λ next. next ≡ all_stored accepted) Matching
      → ReachesMachine (λ next.
      StoresGroup Leaves sizes asked answers (pause k old) (pause next new) × IsReady next) Matching
  group_stored Matching r = record {
    next = r.next;
    does = (
      record { accepted = accepted; takes = taken; stored = r.does; moments = moments },
      subst IsReady (sym r.does)
          (stored_is_ready accepted (taken_is_caught sizes k asked answers accepted taken ready)),
    );
    matches = r.matches;
  }

  pub group_lost : (Matching : Machine → Type 0) → ReachesMachine (Loses accepted true) Matching
      → ReachesMachine (λ next. LosesGroup Leaves sizes asked (pause k old) (pause next new))
      Matching
  group_lost Matching r = record {
    next = r.next;
    does = record {
      outcomes = answers;
      accepted = accepted;
      takes = taken;
      loses = r.does;
      moments = moments;
    };
    matches = r.matches;
  }

-- ---- the loader

module _ {D : Type 0} (Leaves : D → D → (List ℕ → Type 0) → Type 0) (sizes : Sizes)
    (loader : List ℕ) (answer : Result ℕ Refusal) (old new : Pause D)
    (stored : StoresGroup Leaves sizes (AddLoader loader ∷ []) (outcome_alone answer ∷ []) old new)
    (ready : IsReady new.machine) where
  pub loader_answered : (result : Result (Unit {0}) ImportFault) → TellsLoader answer result
      → RunsLoader Leaves sizes loader result old new
  loader_answered (Ok done) tells =
      (record { answer = answer; there = tells; stored = stored }, ready)
  loader_answered (Err (fault.Loader r)) tells = (
    tells.1,
    subst (λ (a : Result ℕ Refusal). StoresGroup Leaves sizes (AddLoader loader ∷ [])
        (outcome_alone a ∷ []) old new) tells.0 stored,
  )
  loader_answered (Err fault.Device) tells = absurd tells
  loader_answered (Err fault.NoMemory) tells = absurd tells
  loader_answered (Err (fault.Open f)) tells = absurd tells
