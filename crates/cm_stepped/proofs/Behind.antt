-- The caller's machine, and the session's, which is one call ahead of it.
-- For `open`, `SteppedSession::accept`, `SteppedSession::find`, `SteppedSession::take_made`.
use Rattle.std.proofs.Common.{◌≡◌, ℕ, ◌+◌, ◌-◌, ◌≤◌, ◌++◌, List, [], ◌∷◌, length, Option, Some}
use Rattle.std.proofs.Common.{None, Result}
use Rattle.std.proofs.Common.{Ok, Err, Bool, true, false, refl, sym, ap, subst, ◌∙◌, arith, inl}
use Rattle.std.proofs.Common.{inr}
use Rattle.std.proofs.lemmas.List.{length-append, length-take}
use Rattle.cm_class.specs.declared.class_file.ClassFile.{ClassFile}
use Rattle.cm_pool.specs.Geometry.{Sizes}
use Rattle.cm_state.specs.Step.{Change}
use Rattle.cm_commands.specs.declared.refusal.Refusal.{Refusal}
use Rattle.cm_commit.specs.declared.progress.Progress.{Progress}
use Rattle.cm_commit.specs.declared.progress.Progress.TheVariants.{Idle, Working, Done, Trimmed}
use Rattle.cm_commands.specs.Machine.{Machine, Accepts, Acknowledges, accepted_to, commands_to}
use Rattle.cm_handover.specs.Laws.{Finds}
use Rattle.cm_session.specs.declared.session.Session.{Session}
use Rattle.cm_session.specs.Moves.{Answers, Accepting, Advancing, SessionMatches, Reopening}
use Rattle.cm_stepped.specs.declared.stepped.SteppedSession.{SteppedSession}
use Rattle.cm_stepped.specs.Stepping.{IsBehind, SteppedMatches}

-- a command that is accepted one call ahead is accepted by the caller's machine
pub record AnswersBehind (sizes : Sizes) (k : Machine) (progress : Option Progress)
    (change : Change ClassFile) (result : Result ℕ Refusal) (ahead : Machine) : Type 0 where
  pub next : Machine
  pub answers : Answers sizes k change result next
  pub behind : IsBehind next progress ahead
  pub stored : next.acknowledged ≡ k.acknowledged
  pub failed : next.failed ≡ k.failed

module _ (sizes : Sizes) (change : Change ClassFile) where
  -- nothing but the commands changes
  same_rest : (k next : Machine) (result : Result ℕ Refusal) → Answers sizes k change result next
      → (next.acknowledged ≡ k.acknowledged) × (next.sealed ≡ k.sealed) × (next.failed ≡ k.failed)
  same_rest k next (Ok n) a = (
    ap (λ (m : Machine). m.acknowledged) a.1.next_is,
    ap (λ (m : Machine). m.sealed) a.1.next_is,
    ap (λ (m : Machine). m.failed) a.1.next_is,
  )
  same_rest k next (Err r) a = (
    ap (λ (m : Machine). m.acknowledged) a.0,
    ap (λ (m : Machine). m.sealed) a.0,
    ap (λ (m : Machine). m.failed) a.0,
  )

  -- the session isn't ahead
  level : (k ahead next : Machine) (result : Result ℕ Refusal) → ahead ≡ k
      → Answers sizes ahead change result next → Answers sizes k change result next
  level k ahead next result e a = subst (λ m. Answers sizes m change result next) e a

  -- the machine once commands up to a number are acknowledged
  abbrev acknowledged_to : ℕ → Machine → Machine
  acknowledged_to n k = record k { acknowledged = n }

  -- the answer of a machine in which more is acknowledged
  answered : (k : Machine) (n : ℕ) (next : Machine) (result : Result ℕ Refusal)
      → Answers sizes (acknowledged_to n k) change result next
      → Answers sizes k change result (acknowledged_to k.acknowledged next)
  answered k n next (Ok number) a = (
    a.0,
    record {
      state = a.1.state;
      holds = a.1.holds;
      after = a.1.after;
      may = a.1.may;
      number_is = a.1.number_is;
      next_is = ap (acknowledged_to k.acknowledged) a.1.next_is;
    },
  )
  answered k n next (Err r) (same, inl broken) =
      (ap (acknowledged_to k.acknowledged) same, inl broken)
  answered k n next (Err r) (same, inr (whole, refuses)) = (
    ap (acknowledged_to k.acknowledged) same,
    inr (whole, record { state = refuses.state; holds = refuses.holds; reason = refuses.reason }),
  )

  -- what was acknowledged is acknowledged again
  again : (k : Machine) (n : ℕ) (next : Machine) → next.acknowledged ≡ n
      → next ≡ acknowledged_to n (acknowledged_to k.acknowledged next)
  again k n next e = ap (λ m. acknowledged_to m next) e

  pub answers_behind : (k ahead next : Machine) (progress : Option Progress)
      (result : Result ℕ Refusal) → IsBehind k progress ahead
      → Answers sizes ahead change result next
      → AnswersBehind sizes k progress change result next
  answers_behind k ahead next None result b a =
      let so = level k ahead next result b a in
      let rest = same_rest k next result so in
      record { next = next; answers = so; behind = refl; stored = rest.0; failed = rest.2 }
  answers_behind k ahead next (Some Idle) result b a =
      let so = level k ahead next result b.2 a in
      let rest = same_rest k next result so in
      record {
        next = next;
        answers = so;
        behind = (rest.2 ∙ b.0, rest.0 ∙ b.1 ∙ sym rest.1, refl);
        stored = rest.0;
        failed = rest.2;
      }
  answers_behind k ahead next (Some Working) result b a =
      let so = level k ahead next result b.1 a in
      let rest = same_rest k next result so in
      record {
        next = next;
        answers = so;
        behind = (rest.2 ∙ b.0, refl);
        stored = rest.0;
        failed = rest.2;
      }
  answers_behind k ahead next (Some (Trimmed roots)) result b a =
      let so = level k ahead next result b.1 a in
      let rest = same_rest k next result so in
      record {
        next = next;
        answers = so;
        behind = (rest.2 ∙ b.0, refl);
        stored = rest.0;
        failed = rest.2;
      }
  answers_behind k ahead next (Some (Done receipt)) result b a =
      let n = receipt.number in
      let on : Answers sizes (acknowledged_to n k) change result next =
      level (acknowledged_to n k) ahead next result b.1.next_is a in
      let rest = same_rest (acknowledged_to n k) next result on in
      record {
        next = acknowledged_to k.acknowledged next;
        answers = answered k n next result on;
        behind = (
          rest.2 ∙ b.0,
          record {
            more = b.1.more;
            known = subst (λ m. n ≤ m) (sym rest.1) b.1.known;
            next_is = again k n next rest.0;
          },
        );
        stored = refl;
        failed = rest.2;
      }

-- the number of an accepted command is that of the last one
pub accepted_last : (sizes : Sizes) (k next : Machine) (change : Change ClassFile) (n : ℕ)
    → Answers sizes k change (Ok n) next → accepted_to next ≡ n
accepted_last sizes k next change n a =
    let long = length-append k.commands (change ∷ []) in
    ap accepted_to a.1.next_is ∙ omega (arith, long, a.1.number_is)

-- the number of the last command that is accepted, after this answer
abbrev pub IsLast : ℕ → Result ℕ Refusal → ℕ → Type 0
IsLast before (Ok n) now = now ≡ n
IsLast before (Err r) now = now ≡ before

last_told : (sizes : Sizes) (k next : Machine) (change : Change ClassFile)
    (result : Result ℕ Refusal) (before now : ℕ) → accepted_to k ≡ before
    → Answers sizes k change result next → IsLast before result now → accepted_to next ≡ now
last_told sizes k next change (Ok n) before now e a last =
    accepted_last sizes k next change n a ∙ sym last
last_told sizes k next change (Err r) before now e a last =
    ap accepted_to a.0 ∙ (e ∙ sym last)

-- what the session accepts, the caller's machine accepts
pub accepts_behind : {D : Type 0} (sizes : Sizes) (k : Machine) (s : SteppedSession D)
    (new : Session D) (asked : Change (List ℕ)) (result : Result ℕ Refusal) (now : ℕ)
    → SteppedMatches k s
    → ((j : Machine) → SessionMatches j s.session
    → Accepting sizes j asked result (λ next. SessionMatches next new))
    → IsLast s.accepted result now
    → Accepting sizes k asked result
    (λ next. SteppedMatches next (record s { session = new; accepted = now }))
accepts_behind sizes k s new asked result now m answers last =
    let j = m.ahead.next in
    let a = answers j m.ahead.matches in
    let b = answers_behind sizes a.change k j a.reaches.next s.asked result m.ahead.does
    a.reaches.does in
    record {
      change = a.change;
      asks = a.asks;
      reaches = record {
        next = b.next;
        does = b.answers;
        matches = record {
          ahead = record { next = a.reaches.next; does = b.behind; matches = a.reaches.matches };
          stored = b.stored ∙ m.stored;
          accepted = last_told sizes k b.next a.change result s.accepted now m.accepted b.answers
              last;
          works = λ sound. b.failed ∙ m.works sound;
        };
      };
    }

-- while no call is asked for, the session is level with the caller
pub matches_level : {D : Type 0} (k : Machine) (s : SteppedSession D) → SteppedMatches k s
    → s.asked ≡ None → SessionMatches k s.session
matches_level k s m none =
    subst (λ j. SessionMatches j s.session)
    (subst (λ p. IsBehind k p m.ahead.next) none m.ahead.does) m.ahead.matches

-- what is found one call ahead is found in the caller's machine
pub finds_behind : (sizes : Sizes) (k ahead : Machine) (progress : Option Progress)
    (loader class : List ℕ) (found : Option (List ℕ)) → IsBehind k progress ahead
    → Finds sizes ahead loader class found → Finds sizes k loader class found
finds_behind sizes k ahead None loader class found b f =
    subst (λ m. Finds sizes m loader class found) b f
finds_behind sizes k ahead (Some Idle) loader class found b f =
    subst (λ m. Finds sizes m loader class found) b.2 f
finds_behind sizes k ahead (Some Working) loader class found b f =
    subst (λ m. Finds sizes m loader class found) b.1 f
finds_behind sizes k ahead (Some (Trimmed roots)) loader class found b f =
    subst (λ m. Finds sizes m loader class found) b.1 f
finds_behind sizes k ahead (Some (Done receipt)) loader class found b f =
    let on = subst (λ m. Finds sizes m loader class found) b.1.next_is f in
    record { state = on.state; holds = on.holds; is = on.is }

-- ---- opening

-- a session that was just opened, and the machine in which all commands are acknowledged
pub level_matches : {D : Type 0} (k : Machine) (s : Session D) (number : ℕ) → SessionMatches k s
    → number ≡ s.committer.number → accepted_to k ≡ k.acknowledged → k.failed ≡ false
    → SteppedMatches k (record {
      session = s;
      asked = None;
      accepted = number;
      stored = number;
      is_broken = false;
    })
level_matches k s number i told all works = record {
  ahead = record { next = k; does = refl; matches = i };
  stored = i.told.acknowledged_is ∙ sym told;
  accepted = all ∙ i.told.acknowledged_is ∙ sym told;
  works = λ sound. works;
}

-- a machine that continues from some of another's commands has acknowledged all of its own
pub reopened_level : (sizes : Sizes) (k : Machine) (contents : List ℕ) (next : Machine)
    → Reopening sizes k contents next
    → (accepted_to next ≡ next.acknowledged) × (next.failed ≡ false)
reopened_level sizes k contents next r =
    let n = r.number in
    let short = length-take (n - k.base.number) k.commands in
    let counted : k.base.number + length (commands_to n k) ≡ n =
    omega (arith, short, r.stands.from, r.stands.known) in (
      ap accepted_to r.reopens.next_is ∙ counted
          ∙ sym (ap (λ (m : Machine). m.acknowledged) r.reopens.next_is),
      ap (λ (m : Machine). m.failed) r.reopens.next_is,
    )
