-- What the accepted cache has learnt to be durable, and what was stored since.
-- For `cm_session::open`, `Session::accept`, `Session::advance`, `Session::learn`,
-- `Session::offer_next`, `Session::seal`.
use Rattle.std.proofs.Common.{◌≡◌, ℕ, ◌+◌, List, [], ◌++◌, length, refl, sym, ap, subst, ◌∙◌}
use Rattle.std.proofs.Common.{arith, append_assoc, append-nil, Ok}
use Rattle.std.proofs.lemmas.List.{length-append}
use Rattle.cm_layout.specs.declared.row.Row.{Row}
use Rattle.cm_group.specs.Groups.{Carried, Handed}
use Rattle.cm_state.specs.Step.{Change}
use Rattle.cm_commit.specs.Offers.{rows_after_group}
use Rattle.cm_front.specs.Front.{FrontState, IsFront}
use Rattle.cm_front.specs.Accepting.{FrontAnswers, HandsOut}
use Rattle.cm_handover.specs.Ahead.{IsAhead}
use Rattle.cm_handover.specs.Handover.{AcceptedIsAhead, HandedIsAhead}
use Rattle.cm_handover.proofs.{rows_after_two}
use Rattle.cm_session.specs.Session.{Past, IsPast, IsAheadOfLearnt}

-- everything that is committed was learnt
pub past_learnt : (rows : List (Row (List ℕ))) (number : ℕ) (out : List Carried)
    (front : FrontState) → front.learnt ≡ number → IsAhead rows number out front
    → IsPast (record { known = rows; since = [] }) rows number out front
past_learnt rows number out front same ahead = record {
  number_is = omega (arith, same);
  rows_are = refl;
  ahead = subst (λ n. IsAhead rows n out front) (sym same) ahead;
}

module _ (p : Past) (rows : List (Row (List ℕ))) (number : ℕ) (out : List Carried)
    (front : FrontState) (h : IsPast p rows number out front) where
  pub past_accepted : AcceptedIsAhead → (new : FrontState) (change : Change (List ℕ)) (n : ℕ)
      → IsFront front → IsFront new → new.learnt ≡ front.learnt
      → FrontAnswers front change (Ok n) new → IsPast p rows number out new
  past_accepted law new change n is is_new same answer = record {
    number_is = ap (λ k. k + length p.since) same ∙ h.number_is;
    rows_are = h.rows_are;
    ahead = subst (λ k. IsAhead p.known k (p.since ++ out) new) (sym same)
        (law p.known front.learnt (p.since ++ out) front new change n is is_new h.ahead answer);
  }

  pub past_handed : HandedIsAhead → (new : FrontState) (group : Handed) → IsFront front
      → HandsOut front group new → IsPast p rows number (out ++ group.entries) new
  past_handed law new group is hands = record {
    number_is = ap (λ k. k + length p.since) same ∙ h.number_is;
    rows_are = h.rows_are;
    ahead = subst (λ k. IsAhead p.known k (p.since ++ (out ++ group.entries)) new) (sym same)
        (subst (λ w. IsAhead p.known front.learnt w new) (append_assoc p.since out group.entries)
        (law p.known front.learnt (p.since ++ out) front new group is h.ahead hands));
  }
    where
      same : new.learnt ≡ front.learnt
      same = ap (λ (s : FrontState). s.learnt) hands.after

  -- the oldest commands are committed
  pub past_committed : (first rest : List Carried) → out ≡ first ++ rest
      → IsPast (record { known = p.known; since = p.since ++ first }) (rows_after_group rows first)
      (number + length first) rest front
  past_committed first rest parts = record {
    number_is =
        let before = h.number_is in
        let long = length-append p.since first in
        omega (arith, before, long);
    rows_are =
        rows_after_two p.known p.since first ∙ ap (λ at. rows_after_group at first) h.rows_are;
    ahead = subst (λ w. IsAhead p.known front.learnt w front)
        (ap (λ w. p.since ++ w) parts ∙ sym (append_assoc p.since first rest)) h.ahead;
  }

  -- no command is
  pub past_stays : IsPast (record { known = p.known; since = p.since ++ [] }) rows number out front
  past_stays = record {
    number_is = ap (λ (l : List Carried). front.learnt + length l) none ∙ h.number_is;
    rows_are = ap (λ l. rows_after_group p.known l) none ∙ h.rows_are;
    ahead = subst (λ l. IsAhead p.known front.learnt (l ++ out) front) (sym none) h.ahead;
  }
    where
      none : p.since ++ [] ≡ p.since
      none = append-nil p.since

-- ---- the same of some past

pub all_learnt : (rows : List (Row (List ℕ))) (number : ℕ) (out : List Carried)
    (front : FrontState) → front.learnt ≡ number → IsAhead rows number out front
    → IsAheadOfLearnt rows number out front
all_learnt rows number out front same ahead = record {
  past = record { known = rows; since = [] };
  is = past_learnt rows number out front same ahead;
}

module _ (rows : List (Row (List ℕ))) (number : ℕ) (out : List Carried) (front : FrontState)
    (l : IsAheadOfLearnt rows number out front) where
  pub learnt_accepted : AcceptedIsAhead → (new : FrontState) (change : Change (List ℕ)) (n : ℕ)
      → IsFront front → IsFront new → new.learnt ≡ front.learnt
      → FrontAnswers front change (Ok n) new → IsAheadOfLearnt rows number out new
  learnt_accepted law new change n is is_new same answer = record {
    past = l.past;
    is = past_accepted l.past rows number out front l.is law new change n is is_new same answer;
  }

  pub learnt_handed : HandedIsAhead → (new : FrontState) (group : Handed) → IsFront front
      → HandsOut front group new → IsAheadOfLearnt rows number (out ++ group.entries) new
  learnt_handed law new group is hands = record {
    past = l.past;
    is = past_handed l.past rows number out front l.is law new group is hands;
  }

  pub learnt_committed : (first rest : List Carried) → out ≡ first ++ rest
      → IsAheadOfLearnt (rows_after_group rows first) (number + length first) rest front
  learnt_committed first rest parts = record {
    past = record { known = l.past.known; since = l.past.since ++ first };
    is = past_committed l.past rows number out front l.is first rest parts;
  }
