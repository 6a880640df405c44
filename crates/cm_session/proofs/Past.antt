-- What was learnt, and what was stored since, through each call of a session.
-- For `Session::accept`, `Session::advance`, `Session::offer_next`, `Session::seal`,
-- `Session::trim`.
use Rattle.std.proofs.Common.{◌≡◌, ℕ, List, [], ◌∷◌, ◌++◌, Option, None}
use Rattle.std.proofs.Common.{Result, Ok, Err, Bool, true, false, sym, ap, subst, ◌∙◌}
use Rattle.std.proofs.Common.{append_assoc}
use Rattle.cm_disk.specs.Disk.{View}
use Rattle.cm_group.specs.declared.receipt.Receipt.{Receipt}
use Rattle.cm_group.specs.Groups.{Carried, Handed}
use Rattle.cm_state.specs.Step.{Change}
use Rattle.cm_commands.specs.declared.refusal.Refusal.{Refusal}
use Rattle.cm_commit.specs.declared.progress.Progress.{Progress}
use Rattle.cm_commit.specs.declared.progress.Progress.TheVariants.{Idle, Working, Done, Trimmed}
use Rattle.cm_commit.specs.declared.progress.AdvanceFault.{AdvanceFault}
use Rattle.cm_commit.specs.declared.progress.AdvanceFault.TheVariants.{Device, Broken}
use Rattle.cm_commit.specs.States.{Work, CommitterState, with_taken, BeginsTrim}
use Rattle.cm_commit.specs.Advances.{Advances, Finishes}
use Rattle.cm_front.specs.Front.{FrontState, IsFront}
use Rattle.cm_front.specs.Accepting.{FrontAnswers, HandsOut}
use Rattle.cm_handover.specs.Handover.{AcceptedIsAhead, HandedIsAhead}
use Rattle.cm_session.specs.Session.{of_underway, commands_of, Past, IsPast}
use Rattle.cm_session.proofs.Learnt.{past_accepted, past_handed, past_committed, past_stays}
use Rattle.cm_session.proofs.Queued.{commands_more}

-- the commands of the committer and of the groups that wait
abbrev pub out_of : {D : Type 0} → CommitterState D → List Handed → List Carried
out_of committer queue = commands_of (of_underway committer.underway ++ queue)

abbrev pub PastOf : {D : Type 0} → Past → FrontState → CommitterState D → List Handed → Type 0
PastOf p front committer queue =
    IsPast p committer.rows committer.number (out_of committer queue) front

-- a command is accepted or refused
pub past_answered : {D : Type 0} (p : Past) (front new : FrontState) (committer : CommitterState D)
    (queue : List Handed) → PastOf p front committer queue → AcceptedIsAhead
    → (change : Change (List ℕ)) → IsFront front → IsFront new → (result : Result ℕ Refusal)
    → FrontAnswers front change result new → PastOf p new committer queue
past_answered p front new committer queue h law change is is_new (Ok n) answer =
    past_accepted p committer.rows committer.number (out_of committer queue) front h law new change
    n is is_new (ap (λ (s : FrontState). s.learnt) answer.2.after) answer
past_answered p front new committer queue h law change is is_new (Err r) answer =
    subst (λ s. PastOf p s committer queue) (sym answer.0) h

-- a group is handed out, and waits after the others
pub past_queued : {D : Type 0} (p : Past) (front new : FrontState) (committer : CommitterState D)
    (queue after : List Handed) (group : Handed) → PastOf p front committer queue → HandedIsAhead
    → IsFront front → HandsOut front group new → after ≡ queue ++ group ∷ []
    → PastOf p new committer after
past_queued p front new committer queue after group h law is hands same =
    subst (λ l. IsPast p committer.rows committer.number l new) (sym out)
    (past_handed p committer.rows committer.number (out_of committer queue) front h law new group is
    hands)
  where
    out : out_of committer after ≡ out_of committer queue ++ group.entries
    out =
        ap (λ (q : List Handed). out_of committer q) same
        ∙ ap commands_of (sym (append_assoc (of_underway committer.underway) queue (group ∷ [])))
        ∙ commands_more (of_underway committer.underway ++ queue) group

-- ---- the committer takes a group, with others that are joined to it

module _ {D : Type 0} (view : View D) (committer taken : CommitterState D)
    (queue rest : List Handed) (group : Handed) (none : committer.underway ≡ None)
    (same : commands_of (group ∷ rest) ≡ commands_of queue)
    (is : taken ≡ with_taken view committer group) where
  pub unstored_taken : out_of taken rest ≡ out_of committer queue
  unstored_taken =
      ap (λ (c : CommitterState _). out_of c rest) is
      ∙ (same ∙ sym (ap (λ (u : Option Work). commands_of (of_underway u ++ queue)) none))

  pub past_taken : (p : Past) (front : FrontState) → PastOf p front committer queue
      → PastOf p front taken rest
  past_taken p front h =
      subst (λ (c : CommitterState _). PastOf p front c rest) (sym is)
      (subst (λ l. IsPast p committer.rows committer.number l front)
      (ap (λ (u : Option Work). commands_of (of_underway u ++ queue)) none ∙ sym same) h)

-- ---- the committer makes a step

-- the oldest commands are stored, or none
pub record Grows {D : Type 0} (p : Past) (front : FrontState) (old new : CommitterState D)
    (queue : List Handed) : Type 0 where
  pub stored : List Carried
  pub oldest : out_of old queue ≡ stored ++ out_of new queue
  pub past : PastOf (record { known = p.known; since = p.since ++ stored }) front new queue

module _ {D : Type 0} (p : Past) (front : FrontState) (old new : CommitterState D)
    (queue : List Handed) (h : PastOf p front old queue) where
  -- no command is stored
  keeps : new.rows ≡ old.rows → new.number ≡ old.number → out_of new queue ≡ out_of old queue
      → Grows p front old new queue
  keeps rows number out = record {
    stored = [];
    oldest = sym out;
    past =
        subst (λ r. IsPast (record { known = p.known; since = p.since ++ [] }) r new.number
        (out_of new queue) front) (sym rows)
        (subst (λ n. IsPast (record { known = p.known; since = p.since ++ [] }) old.rows n
        (out_of new queue) front) (sym number)
        (subst (λ l. IsPast (record { known = p.known; since = p.since ++ [] }) old.rows old.number
        l front) (sym out)
        (past_stays p old.rows old.number (out_of old queue) front h)));
  }

  same_parts : new.rows ≡ old.rows → new.number ≡ old.number → new.underway ≡ old.underway
      → Grows p front old new queue
  same_parts rows number underway =
      keeps rows number (ap (λ (u : Option Work). commands_of (of_underway u ++ queue)) underway)

  finished : (receipt : Receipt) → Finishes old receipt new → Grows p front old new queue
  finished receipt f = record {
    stored = f.group.entries;
    oldest =
        parts ∙ sym (ap (λ (c : CommitterState _). f.group.entries ++ out_of c queue) f.new_is);
    past =
        subst (λ (c : CommitterState _). PastOf
        (record { known = p.known; since = p.since ++ f.group.entries }) front c queue)
        (sym f.new_is)
        (past_committed p old.rows old.number (out_of old queue) front h f.group.entries
        (commands_of queue) parts);
  }
    where
      parts : out_of old queue ≡ f.group.entries ++ commands_of queue
      parts = ap (λ (u : Option Work). commands_of (of_underway u ++ queue)) f.underway

  pub past_advanced : (result : Result Progress AdvanceFault) → Advances old result new
      → Grows p front old new queue
  past_advanced (Ok Idle) r =
      same_parts (ap (λ (c : CommitterState _). c.rows) r.stays)
      (ap (λ (c : CommitterState _). c.number) r.stays)
      (ap (λ (c : CommitterState _). c.underway) r.stays)
  past_advanced (Ok Working) w =
      same_parts (ap (λ (c : CommitterState _). c.rows) w.new_is)
      (ap (λ (c : CommitterState _). c.number) w.new_is)
      (ap (λ (c : CommitterState _). c.underway) w.new_is)
  past_advanced (Ok (Done receipt)) f = finished receipt f
  past_advanced (Ok (Trimmed roots)) t =
      keeps (ap (λ (c : CommitterState _). c.rows) t.new_is)
      (ap (λ (c : CommitterState _). c.number) t.new_is)
      (ap (λ (c : CommitterState _). out_of c queue) t.new_is
      ∙ sym (ap (λ (u : Option Work). commands_of (of_underway u ++ queue)) t.underway))
  past_advanced (Err Device) b =
      same_parts (ap (λ (c : CommitterState _). c.rows) b.new_is)
      (ap (λ (c : CommitterState _). c.number) b.new_is)
      (ap (λ (c : CommitterState _). c.underway) b.new_is)
  past_advanced (Err Broken) s =
      same_parts (ap (λ (c : CommitterState _). c.rows) s.stays)
      (ap (λ (c : CommitterState _). c.number) s.stays)
      (ap (λ (c : CommitterState _). c.underway) s.stays)

-- ---- a trim is requested

pub past_trim : {D E : Type 0} (view : View D) (p : Past) (front : FrontState)
    (old new : CommitterState D) (queue : List Handed) → PastOf p front old queue
    → (result : Result Bool E) → BeginsTrim view old result new → PastOf p front new queue
past_trim view p front old new queue h (Ok true) b =
    subst (λ c. PastOf p front c queue) (sym b.2)
    (subst (λ u. IsPast p old.rows old.number (commands_of (of_underway u ++ queue)) front) b.0.idle
    h)
past_trim view p front old new queue h (Ok false) b =
    subst (λ c. PastOf p front c queue) (sym b.2) h
past_trim view p front old new queue h (Err e) b =
    subst (λ c. PastOf p front c queue) (sym b.1) h
