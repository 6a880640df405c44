-- The next write of a group, and what is left after it.
-- For `grow`, `write_next`, `write_slots`.
use Rattle.std.proofs.Common.{◌≡◌, ℕ, zero, suc, ◌+◌, ◌-◌, ◌<◌, ◌≤◌, List, [], ◌∷◌, ◌++◌}
use Rattle.std.proofs.Common.{refl, sym, ap, subst, ◌∙◌, arith}
use Rattle.std.specs.Prelude.{Result, Ok, Err}
use Rattle.std.proofs.lemmas.Bool.{false≢true}
use Rattle.cm_disk.specs.Disk.{View}
use Rattle.cm_pool.specs.Geometry.{Sizes}
use Rattle.cm_pool.specs.declared.place.Place.{Place}
use Rattle.cm_layout.specs.declared.half.Half.{Half}
use Rattle.cm_guards.specs.Plans.{Write}
use Rattle.cm_layout.specs.Slots.{open_gate}
use Rattle.cm_group.specs.Groups.{Carried, Handed, entries_in}
use Rattle.cm_guards.specs.Stages.{Stage, Store, Turn, after_call}
use Rattle.cm_commit.specs.GroupPlans.{root_write, root_writes, place_write, record_writes}
use Rattle.cm_commit.specs.GroupPlans.{slots_write, writes_left, all_writes, roots_of_entries}
use Rattle.cm_commit.specs.declared.journal_end.JournalEnd.{JournalEnd}
use Rattle.cm_commit.specs.declared.step.CommitStep.TheVariants as step
use Rattle.cm_commit.specs.Steps.{stages_at, next_gate}
use Rattle.cm_guards.specs.Stages.{MakesWrite, CallsOnce, TakesCall, TakesWrite}
use Rattle.cm_commit.proofs.NextRecords.{from_start}

module _ (sizes : Sizes) (half : Half) (slot n : ℕ) (carried : List Carried) (roots : ℕ) where
  abbrev needed : ℕ
  needed = roots_of_entries (entries_in carried)

  abbrev slots : Write
  slots = slots_write sizes half slot n (entries_in carried)

  pub next_root : (unwritten : List (Place × List ℕ)) → roots < needed
      → writes_left sizes half slot n carried roots unwritten
      ≡ root_write sizes roots ∷ writes_left sizes half slot n carried (roots + 1) unwritten
  next_root unwritten lt =
      let more : needed - roots ≡ suc (needed - (roots + 1)) = omega (arith, lt) in
      ap (λ (k : ℕ). root_writes sizes roots k ++ record_writes sizes unwritten ++ slots ∷ []) more

  no_root : needed ≤ roots → root_writes sizes roots (needed - roots) ≡ []
  no_root le =
      let none : needed - roots ≡ zero = omega (arith, le) in
      ap (root_writes sizes roots) none

  pub next_place : (unwritten rest : List (Place × List ℕ)) (place : Place) (words : List ℕ)
      → needed ≤ roots → unwritten ≡ (place, words) ∷ rest
      → writes_left sizes half slot n carried roots unwritten
      ≡ place_write sizes place words
      ∷ writes_left sizes half slot n carried roots rest
  next_place unwritten rest place words le is =
      ap (λ (l : List Write). l ++ record_writes sizes unwritten ++ slots ∷ []) (no_root le)
      ∙ (ap (λ (l : List (Place × List ℕ)). record_writes sizes l ++ slots ∷ []) is
      ∙ ap (λ (l : List Write). place_write sizes place words
      ∷ (l ++ record_writes sizes rest ++ slots ∷ [])) (sym (no_root le)))

  pub next_slots : (unwritten : List (Place × List ℕ)) → needed ≤ roots → unwritten ≡ []
      → writes_left sizes half slot n carried roots unwritten ≡ slots ∷ []
  next_slots unwritten le none =
      ap (λ (l : List Write). l ++ record_writes sizes unwritten ++ slots ∷ []) (no_root le)
      ∙ ap (λ (l : List (Place × List ℕ)). record_writes sizes l ++ slots ∷ []) none

-- once the file has enough roots, the records come
pub grown : (j : JournalEnd) (group : Handed) (roots : ℕ)
    → roots_of_entries (entries_in group.entries) ≤ roots
    → stages_at j group (step.Write 0 0) ≡ stages_at j group (step.Grow roots)
grown j group roots le =
    let carried = group.entries in
    let needed = roots_of_entries (entries_in carried) in
    let gate = Turn (next_gate j) open_gate ∷ [] in
    let slots = slots_write j.geometry j.half j.end j.number (entries_in carried) in
    let records = record_writes j.geometry (all_writes carried) in
    ap (λ (l : List (Place × List ℕ)). Store (writes_left j.geometry j.half j.end j.number carried
    needed l) ∷ gate) (from_start carried)
    ∙ (ap (λ (l : List Write). Store (l ++ records ++ slots ∷ []) ∷ gate)
    (no_root j.geometry j.half j.end j.number carried needed (omega arith))
    ∙ ap (λ (l : List Write). Store (l ++ records ++ slots ∷ []) ∷ gate)
    (sym (no_root j.geometry j.half j.end j.number carried roots le)))

-- ---- stages that begin with these writes

pub takes_first : (writes ws : List Write) (w : Write) (behind : List Stage) (len : ℕ)
    → writes ≡ w ∷ ws → TakesCall (Store writes ∷ behind) len → TakesWrite w len
takes_first writes ws w behind len e takes =
    subst (λ (l : List Write). TakesCall (Store l ∷ behind) len) e takes

pub left_behind : (writes ws : List Write) (w : Write) (behind : List Stage) → writes ≡ w ∷ ws
    → Store ws ∷ behind ≡ after_call (Store writes ∷ behind)
left_behind writes ws w behind e =
    ap (λ (l : List Write). after_call (Store l ∷ behind)) (sym e)

module _ {D E : Type 0} (view : View D) (old new : D) where
  pub calls_first : {T : Type 0} (writes ws : List Write) (w : Write) (behind : List Stage)
      (r : Result T E) → writes ≡ w ∷ ws
      → MakesWrite view w old new r
      → CallsOnce view (Store writes ∷ behind) old new r
  calls_first writes ws w behind r e wrote =
      subst (λ (l : List Write). CallsOnce view
      (Store l ∷ behind) old new r) (sym e) wrote

  -- the same call, returning another value
  pub wrote_ok : {S T : Type 0} (w : Write) (x : S) (y : T)
      → MakesWrite {D = D} {T = S} {E = E} view w old new
      (Ok x)
      → MakesWrite {D = D} {T = T} {E = E} view w old new
      (Ok y)
  wrote_ok w x y wrote = record {
    written = wrote.written;
    torn = tt;
    opens = wrote.opens;
    time = wrote.time;
    cause = record {
      later = wrote.cause.later;
      fault = λ none. absurd (false≢true none);
      no_fault = λ ok. wrote.cause.no_fault refl;
    };
  }

  pub wrote_err : {S T : Type 0} (w : Write) (e : E)
      → MakesWrite {D = D} {T = S} {E = E} view w old new
      (Err e)
      → MakesWrite {D = D} {T = T} {E = E} view w old new
      (Err e)
  wrote_err w e wrote = record {
    written = tt;
    torn = wrote.torn;
    opens = wrote.opens;
    time = wrote.time;
    cause = record {
      later = wrote.cause.later;
      fault = wrote.cause.fault;
      no_fault = λ none. absurd (false≢true none);
    };
  }

  -- the same write, with its place and bytes expressed in another way
  pub wrote_as : {T : Type 0} (w v : Write) (r : Result T E) → v.at ≡ w.at → v.bytes ≡ w.bytes
      → MakesWrite view v old new r
      → MakesWrite view w old new r
  wrote_as w v r at_is bytes_are wrote =
      let same : v ≡ w = (λ i. record { at = at_is i; bytes = bytes_are i }) in
      subst (λ (u : Write). MakesWrite view u old new r)
      same wrote
