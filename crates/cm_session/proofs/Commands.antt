-- A command that is accepted or refused.
-- For `Session::accept`, `Session::find`, `look_at`.
use Rattle.std.proofs.Common.{◌≡◌, ℕ, ◌≤◌, Bool, true, false, List, ◌++◌, Option, Result, Ok, Err}
use Rattle.std.proofs.Common.{inl, inr, refl, length, sym, ap, subst, ◌∙◌}
use Rattle.std.specs.Prelude.{◌⊎◌}
use Rattle.cm_class.specs.declared.class_file.ClassFile.{ClassFile}
use Rattle.cm_record.specs.Layout.{limit}
use Rattle.cm_group.specs.Groups.{Carried, Handed, IsRightRecord}
use Rattle.cm_commands.specs.declared.refusal.Refusal.{Refusal}
use Rattle.cm_commands.specs.declared.refusal.Refusal.TheVariants as refusal
use Rattle.cm_state.specs.State.{words_show, state_of, class_in}
use Rattle.cm_state.specs.Step.{Change, Define}
use Rattle.cm_front.specs.Front.{FrontState, IsFront}
use Rattle.cm_front.specs.Accepting.{FrontAnswers}
use Rattle.cm_commit.specs.States.{CommitterState}
use Rattle.cm_handover.specs.Handover.{AcceptedIsAhead}
use Rattle.cm_commands.specs.Machine.{Machine, Asks, Accepts, Refuses}
use Rattle.cm_handover.specs.Laws.{AcceptedIsMade, RefusedIsRefused, IsAccepted, FoundIsThere}
use Rattle.cm_handover.specs.Laws.{Finds, Behind}
use Rattle.cm_session.specs.Session.{of_underway, commands_of, IsSession}
use Rattle.cm_session.specs.Moves.{Accepting, IsAsked}
use Rattle.cm_session.proofs.Learnt.{learnt_accepted}

-- the class that a command defines
pub is_asked : (x words : List ℕ) → IsRightRecord words → length words ≤ limit
    → IsAsked (Define x words)
is_asked x words right short = (
  Define x right.0,
  (
    right.0,
    record {
      kept = right.1;
      short = subst (λ (l : List ℕ). length l ≤ limit) right.2 short;
    },
    sym right.2,
    refl,
  ),
)

-- what is found is what the machine has
pub finds : {D : Type 0} (there : FoundIsThere) (k : Machine) (front : FrontState)
    (committer : CommitterState D) (queue : List Handed) (sealed : ℕ) (failed : Bool)
    → IsSession k front committer queue sealed failed → (loader class : List ℕ)
    (found : Option (List ℕ)) → found ≡ class_in (state_of words_show front.rows) loader class
    → Finds committer.sizes k loader class found
finds there k front committer queue sealed failed i loader class found same =
    subst (λ o. Finds committer.sizes k loader class o) (sym same)
    (subst (λ z. Finds z k loader class (class_in (state_of words_show front.rows) loader class))
    i.cache.sizes
    (there k committer.rows committer.number
    (commands_of (of_underway committer.underway ++ queue)) front loader class i.cache.is
    i.between.ahead i.follows))

module _ {D : Type 0} (made : AcceptedIsMade) (refused : RefusedIsRefused) (ahead : AcceptedIsAhead)
    (k : Machine) (front new : FrontState) (committer : CommitterState D) (queue : List Handed)
    (sealed : ℕ) (failed : Bool) (asked : Change (List ℕ)) (change : Change ClassFile)
    (asks : Asks asked change) (is_new : IsFront new)
    (i : IsSession k front committer queue sealed failed) where
  abbrev out : List Carried
  out = commands_of (of_underway committer.underway ++ queue)

  abbrev Matching : Machine → Type 0
  Matching next = IsSession next new committer queue sealed failed

  was_accepted : (n : ℕ) → FrontAnswers front asked (Ok n) new
      → Accepting committer.sizes k asked (Ok n) Matching
  was_accepted n answer =
      let behind : Behind =
      record { rows = committer.rows; number = committer.number; out = out } in
      let m : IsAccepted k behind front new asked n =
      made k committer.rows committer.number out front new asked change n i.cache.is is_new
      i.between.ahead i.follows asks answer in
      let same = answer.2.after in
      record {
        change = m.change;
        asks = m.asks;
        reaches = record {
          next = m.next;
          does = (
            i.told.noticed_is ∙ m.whole,
            subst (λ z. Accepts z k m.change n m.next) i.cache.sizes m.accepts,
          );
          matches = record {
            cache = record {
              is = is_new;
              sizes = ap (λ (s : FrontState). s.sizes) same ∙ i.cache.sizes;
              running = ap (λ (s : FrontState). s.closed) same ∙ i.cache.running;
            };
            between = record {
              groups = i.between.groups;
              busy = i.between.busy;
              ahead = ahead committer.rows committer.number out front new asked n i.cache.is
                  is_new i.between.ahead answer;
              from_learnt = learnt_accepted committer.rows committer.number out front
                  i.between.from_learnt ahead new asked n i.cache.is is_new
                  (ap (λ (s : FrontState). s.learnt) same) answer;
            };
            follows = m.follows;
            told = record {
              acknowledged_is =
                  ap (λ (j : Machine). j.acknowledged) m.accepts.next_is ∙ i.told.acknowledged_is;
              sealed_is =
                  ap (λ (j : Machine). j.sealed) m.accepts.next_is
                  ∙ (i.told.sealed_is ∙ sym (ap (λ (s : FrontState). s.sealed) same));
              sealed_told = i.told.sealed_told ∙ sym (ap (λ (s : FrontState). s.sealed) same);
              failed_is = ap (λ (j : Machine). j.failed) m.accepts.next_is ∙ i.told.failed_is;
              failed_told = i.told.failed_told;
              noticed_is =
                  ap (λ (j : Machine). j.noticed) m.accepts.next_is
                  ∙ (i.told.noticed_is ∙ sym (ap (λ (s : FrontState). s.broken) same));
            };
          };
        };
      }

  was_refused : (r : Refusal) → FrontAnswers front asked (Err r) new
      → Accepting committer.sizes k asked (Err r) Matching
  was_refused r answer = record {
    change = change;
    asks = asks;
    reaches = record {
      next = k;
      does = (refl, reason);
      matches = subst (λ s. IsSession k s committer queue sealed failed) (sym answer.0) i;
    };
  }
    where
      reason : ((k.noticed ≡ true) × (r ≡ refusal.Broken))
          ⊎ ((k.noticed ≡ false) × Refuses committer.sizes k change r)
      reason =
          elim (refused k committer.rows committer.number out front new asked change r
          i.cache.is i.between.ahead i.follows asks answer) [
            | inl closed ↦ absurd (open_and_closed front.closed i.cache.running closed.0)
            | inr (inl broken) ↦ inl (i.told.noticed_is ∙ broken.0, broken.1)
            | inr (inr machine) ↦ inr (
              i.told.noticed_is ∙ machine.0,
              subst (λ z. Refuses z k change r) i.cache.sizes machine.1,
            )
          ]
        where
          open_and_closed : (b : Bool) → b ≡ false → b ≡ true → ⊥
          open_and_closed true is_open is_closed = absurd (cc)
          open_and_closed false is_open is_closed = absurd (cc)

  pub answers : (result : Result ℕ Refusal) → FrontAnswers front asked result new
      → Accepting committer.sizes k asked result Matching
  answers (Ok n) answer = was_accepted n answer
  answers (Err r) answer = was_refused r answer
