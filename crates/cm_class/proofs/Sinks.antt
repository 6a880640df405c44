-- Reading items one after another into a sink, as a loop does.
-- For `many_members`, `many_numbers`, `slots`.
use Rattle.std.proofs.Common.{◌≡◌, Bool, true, false, ℕ, ◌-◌, ◌+◌, ◌≤◌, ◌<◌, List, [], ◌∷◌, ◌++◌}
use Rattle.std.proofs.Common.{Ok, Err, sym, ap, ◌∙◌}
use Rattle.cm_class.specs.declared.stop.Stop.{Stop}
use Rattle.cm_class.specs.declared.constant.Slot.{Slot}
use Rattle.cm_class.specs.declared.constant.Slot.TheVariants.{Usable, Unusable}
use Rattle.cm_class.specs.Spelling.{ClassConstant, is_wide}
use Rattle.cm_class.specs.Reading.{◌>>=◌, rest_of, GivesTo, many_at}
use Rattle.cm_class.specs.Reading.{constant_at, slots_at}
use Rattle.cm_class.proofs.Readers.{Read}
use Rattle.cm_class.proofs.Loops.{with_front, goes_on, ends, is_done, slots_second, slots_usable}
use Rattle.cm_class.proofs.Loops.{slots_end, slots_done, fails_exactly}
use Rattle.cm_class.proofs.Walks.{walk_on, walk_stops, walk_done, walk_second, walk_usable}
use Rattle.cm_class.proofs.Walks.{slots_stop, slots_walked}

-- all that is to be read is what a sink has and what is still to be read; for a sink that keeps
-- nothing only what is left afterwards is determined
pub record IsSplit {A : Type 0} (keeps : Bool) (front : List A) (still all : Read (List A))
    : Type 0 where
  pub kept : keeps ≡ true → with_front front still ≡ all
  pub walked : keeps ≡ false → rest_of still ≡ rest_of all

-- what a reader of numbers gives, it gives to any sink
pub exactly : {A : Type 0} {keeps : Bool} {read : Read A} (result : Read A) → read ≡ result
    → GivesTo keeps (λ x. x) result read
exactly {read = read} (Ok x) h = record { kept = λ k. h; walked = λ k. ap rest_of h }
exactly {read = read} (Err stop) h = record {
  kept = λ k. fails_exactly stop read h;
  walked = λ k. ap rest_of h;
}

module _ {A : Type 0} (item : List ℕ → Read A) (count i : ℕ) (now : List ℕ) {keeps : Bool}
    {front : List A} {all : Read (List A)}
    (so_far : IsSplit keeps front (many_at item (count - i) now) all) where
  pub fills : {X : Type 0} {view : X → A × List ℕ} (x : X) (longer : List A) → i < count
      → GivesTo keeps view (Ok x) (item now) → (keeps ≡ true → longer ≡ front ++ (view x).0 ∷ [])
      → IsSplit keeps longer (many_at item (count - (i + 1)) (view x).1) all
  fills {view = view} x longer lt h pushed = record {
    kept = λ k. rw (pushed k)
        (goes_on item front count i now (view x).0 (view x).1 all lt (h.kept k) (so_far.kept k));
    walked = λ k.
        walk_on item count i now (view x).1 (rest_of all) lt (h.walked k) (so_far.walked k);
  }

  pub stops : {X Z : Type 0} {view : X → A × List ℕ} {seen : Z → List A × List ℕ} (stop : Stop)
      → i < count → GivesTo keeps view (Err stop) (item now) → GivesTo keeps seen (Err stop) all
  stops stop lt h = record {
    kept = λ k. ends item stop front count i now all lt (h.kept k) (so_far.kept k);
    walked = λ k. walk_stops item stop count i now (rest_of all) lt (h.walked k) (so_far.walked k);
  }

  pub is_full : {Z : Type 0} (seen : Z → List A × List ℕ) (z : Z) → count ≤ i
      → seen z ≡ (front, now) → GivesTo keeps seen (Ok z) all
  is_full seen z le e = record {
    kept = λ k. is_done item front count i now all le (so_far.kept k) ∙ ap (λ x. Ok x) (sym e);
    walked = λ k.
        walk_done item count i now (rest_of all) le (so_far.walked k) ∙ ap (λ x. Ok x.1) (sym e);
  }

-- ---- slots

module _ (count i : ℕ) (now : List ℕ) {keeps : Bool} {front : List Slot} {all : Read (List Slot)}
  where
    pub second_fills : (longer : List Slot) → i < count
        → IsSplit keeps front (slots_at true (count - i) now) all
        → (keeps ≡ true → longer ≡ front ++ Unusable ∷ [])
        → IsSplit keeps longer (slots_at false (count - (i + 1)) now) all
    second_fills longer lt so_far pushed = record {
      kept = λ k. rw (pushed k) (slots_second front count i now all lt (so_far.kept k));
      walked = λ k. walk_second count i now (rest_of all) lt (so_far.walked k);
    }

    pub usable_fills : (c : ClassConstant) (after : List ℕ) (longer : List Slot) → i < count
        → IsSplit keeps front (slots_at false (count - i) now) all
        → constant_at (count - i) now ≡ Ok (c, after)
        → (keeps ≡ true → longer ≡ front ++ Usable c ∷ [])
        → IsSplit keeps longer (slots_at (is_wide c) (count - (i + 1)) after) all
    usable_fills c after longer lt so_far h pushed = record {
      kept = λ k. rw (pushed k)
          (slots_usable front count i now c after all lt h (so_far.kept k));
      walked = λ k.
          walk_usable count i now (is_wide c) after (rest_of all) lt
          (ap (λ (read : Read ClassConstant). read >>= λ x. Ok (is_wide x.0, x.1)) h)
          (so_far.walked k);
    }

    pub slots_refuse : {Z : Type 0} {seen : Z → List Slot × List ℕ} (stop : Stop) → i < count
        → IsSplit keeps front (slots_at false (count - i) now) all
        → constant_at (count - i) now ≡ Err stop → GivesTo keeps seen (Err stop) all
    slots_refuse stop lt so_far h = record {
      kept = λ k.
          slots_end stop front count i now all lt
          (fails_exactly stop (constant_at (count - i) now) h) (so_far.kept k);
      walked = λ k.
          slots_stop stop count i now (rest_of all) lt
          (ap (λ (read : Read ClassConstant). read >>= λ x. Ok (is_wide x.0, x.1)) h)
          (so_far.walked k);
    }

    pub slots_full : {Z : Type 0} (second : Bool) (seen : Z → List Slot × List ℕ) (z : Z)
        → count ≤ i
        → IsSplit keeps front (slots_at second (count - i) now) all → seen z ≡ (front, now)
        → GivesTo keeps seen (Ok z) all
    slots_full second seen z le so_far e = record {
      kept = λ k.
          slots_done front count i second now all le (so_far.kept k) ∙ ap (λ x. Ok x) (sym e);
      walked = λ k.
          slots_walked count i second now (rest_of all) le (so_far.walked k)
          ∙ ap (λ x. Ok x.1) (sym e);
    }
