-- A group's stages, with a checkpoint if the half that counts has no room for it, lead from what is
-- committed to what is committed after it.
-- For `Committer::advance`, `Committer::offer`, `groups_go_through`.
use Rattle.std.proofs.Common.{◌≡◌, ℕ, ◌+◌, Bool, true, false, cond, List, [], ◌∷◌, ◌++◌}
use Rattle.std.proofs.Common.{length, inl, inr, refl, sym, ap, subst, ◌∙◌, arith, ⊎_elim}
use Rattle.std.specs.List.{AllByRecursion}
use Rattle.std.proofs.lemmas.Bool.{leb-false}
use Rattle.cm_disk.specs.Calls.{overwritten}
use Rattle.cm_layout.specs.Slots.{open_gate}
use Rattle.cm_layout.specs.Rows.{bare, slots_of_rows}
use Rattle.cm_layout.specs.Frames.{entry_version}
use Rattle.cm_guards.specs.Gates.{Turns}
use Rattle.cm_guards.specs.Plans.{written}
use Rattle.cm_guards.specs.Stages.{Stage, IsReady, gone_through}
use Rattle.cm_guards.proofs.{turned, overwritten_size, kept_by_plan, gone_through-append}
use Rattle.cm_guards.proofs.{ready_less}
use Rattle.cm_group.specs.Groups.{Handed, IsGroup, slots_taken}
use Rattle.cm_group.proofs.{enough}
use Rattle.cm_commit.specs.Committed.{Committed, journal_of, end_slot}
use Rattle.cm_commit.specs.Checkpoints.{ready_for, renewed, renewed_framing, renewed_journal}
use Rattle.cm_commit.specs.Checkpoints.{checkpoint_of, checkpoint_plan, is_due}
use Rattle.cm_commit.specs.Offers.{IsNext, MayCome, committed_after}
use Rattle.cm_commit.specs.GroupPlans.{group_plan, group_writes, gate_at, plan_at}
use Rattle.cm_commit.specs.GroupPlans.{whole_roots}
use Rattle.cm_commit.specs.Guarding.{IsCommitted, CountsNewest, ContentsShow, HoldsCommitted}
use Rattle.cm_commit.specs.Guarding.{guard_of}
use Rattle.cm_commit.specs.Keeps.{roots_then}
use Rattle.cm_commit.specs.Laws.{TellsWords, GroupsGoThrough}
use Rattle.cm_commit.proofs.Guards.{guarded, needs_roots}
use Rattle.cm_commit.proofs.Rights.{right_after}
use Rattle.cm_commit.proofs.Counted.{counted-held}
use Rattle.cm_commit.proofs.Roots.{roots-written}
use Rattle.cm_commit.proofs.Turning.{groups_turn}
use Rattle.cm_commit.proofs.NewHalves.{full_halves_renew, right_renewed}
use Rattle.cm_commit.proofs.Renewing.{checkpoints_renew, rests}

-- ---- contents that show what is committed hold it

pub shows_holds : (c : Committed) (contents : List ℕ) → IsCommitted c → ContentsShow c contents
    → HoldsCommitted c contents
shows_holds c contents right shows =
    record { framing = c.framing; right = right; matches = shows; no_older = omega arith }

-- ---- a group that has room

module _ (c : Committed) (group : Handed) (contents : List ℕ) (right : IsCommitted c)
    (is : IsGroup group) (next : IsNext c group) (newest : CountsNewest c)
    (tells : AllByRecursion TellsWords group.entries) (shows : ContentsShow c contents) where
  abbrev after : Committed
  after = committed_after c group

  abbrev base : List ℕ
  base = written (group_writes c (length contents) group.entries) contents

  abbrev opened : List ℕ
  opened = overwritten (gate_at c) (open_gate ∷ []) base

  -- the gate turns what is held
  turns : Turns (HoldsCommitted c) (ContentsShow after) (gate_at c) open_gate base
  turns =
      let t = (groups_turn c group contents right is next newest tells shows).turns in
      record {
        inside = t.inside;
        either = λ b small. record {
          which = ⊎_elim (λ p. inl (shows_holds c _ right p)) (λ q. inr q)
              (t.either b small).which;
        };
        last = t.last;
      }

  pub group_ready : IsReady (HoldsCommitted c) (ContentsShow after) (length opened)
      (group_plan c (length contents) group.entries) contents
  group_ready =
      let t = groups_turn c group contents right is next newest tells shows in
      record {
        guard = guard_of c;
        rests = rests c contents right shows;
        can = t.can;
        behind = record {
          holds = shows_holds c base right
              (kept_by_plan (guard_of c) (ContentsShow c)
              (group_writes c (length contents) group.entries) contents (guarded c right)
              shows.long t.can shows);
          turns = turns;
          behind = record {
            holds = turned (ContentsShow c) (ContentsShow after) (gate_at c) open_gate base opened
                t.turns refl;
            size = refl;
          };
        };
      }

  pub group_roots : roots_then (whole_roots c.sizes (length contents)) group
      ≡ whole_roots c.sizes (length opened)
  group_roots =
      let t = groups_turn c group contents right is next newest tells shows in
      let inside = t.turns.inside in
      let size = overwritten_size (gate_at c) (open_gate ∷ []) base (omega (arith, inside)) in
      let same : length opened ≡ length base = omega (arith, size, inside) in
      roots-written c group contents right
      (counted-held c.sizes contents c.rows shows.records) next
      (omega (arith, needs_roots c.sizes c.rows, shows.long)) t.can
      ∙ ap (whole_roots c.sizes) (sym same)

-- ---- the halves that it goes into

module _ (c : Committed) (group : Handed) (right : IsCommitted c) (is : IsGroup group)
    (next : MayCome c.sizes c.rows c.number group) where
  abbrev due : Bool
  due = is_due (journal_of c) group.entries

  abbrev ready_by : Bool → Committed
  ready_by t = record c { framing = cond t (renewed_framing c) c.framing }

  record IsReadyBy (t : Bool) : Type 0 where
    committed : IsCommitted (ready_by t)
    room : IsNext (ready_by t) group

  readied : (t : Bool) → due ≡ t → IsReadyBy t
  readied true e =
      let full = full_halves_renew c group right is e in
      record {
        committed = right_renewed c right full.0;
        room = record {
          begins = next.begins;
          ends = next.ends;
          entries = next.entries;
          room = full.1;
        };
      }
  readied false e = record {
    committed = right;
    room = record {
      begins = next.begins;
      ends = next.ends;
      entries = next.entries;
      room = leb-false c.sizes.slots (end_slot c.framing + slots_taken group.entries) e;
    };
  }

  -- what is committed in them is of the newest version if the half that counted was
  pub ready_newest : c.framing.head.version ≡ entry_version
      → (ready_for c group.entries).framing.head.version ≡ entry_version
  ready_newest newest = by_test due
    where
      by_test : (t : Bool) → (ready_by t).framing.head.version ≡ entry_version
      by_test true = refl
      by_test false = newest

  pub ready_right : IsCommitted (ready_for c group.entries)
  ready_right = (readied due refl).committed

  pub ready_next : IsNext (ready_for c group.entries) group
  ready_next = (readied due refl).room

  -- it is right, and so is what is committed after the group
  pub after_right : CountsNewest c
      → IsCommitted (committed_after (ready_for c group.entries) group)
  after_right newest =
      right_after (ready_for c group.entries) group ready_right is ready_next
      (ready_newest newest)
      (omega (arith, is.some, enough group.entries))

-- ---- either way

module _ (c : Committed) (group : Handed) (contents : List ℕ) (right : IsCommitted c)
    (is : IsGroup group) (next : MayCome c.sizes c.rows c.number group) (newest : CountsNewest c)
    (tells : AllByRecursion TellsWords group.entries) (shows : ContentsShow c contents) where
  abbrev roots : ℕ
  roots = whole_roots c.sizes (length contents)

  abbrev plan_by : Bool → List Stage
  plan_by t =
      let to = cond t (renewed_journal (journal_of c) (bare c.rows)) (journal_of c) in
      cond t (checkpoint_of (journal_of c) (bare c.rows)) []
      ++ plan_at to.geometry to.half to.end to.number roots group.entries

  record GoesBy (t : Bool) : Type 0 where
    ready : IsReady (HoldsCommitted c)
        (ContentsShow (committed_after (ready_by c group right is next t) group))
        (length (gone_through (plan_by t) contents)) (plan_by t) contents
    roots_are : roots_then roots group
        ≡ whole_roots c.sizes (length (gone_through (plan_by t) contents))

  goes_by : (t : Bool) → is_due (journal_of c) group.entries ≡ t → GoesBy t
  goes_by true e =
      let full = full_halves_renew c group right is e in
      let r = checkpoints_renew c contents right full.0 shows in
      let ready = readied c group right is next true e in
      let d = renewed c in
      let there = gone_through (checkpoint_plan c) contents in
      let end : end_slot d.framing ≡ 1 + slots_of_rows (bare c.rows) =
      omega arith in
      let plan_is : group_plan d (length there) group.entries
      ≡ plan_at c.sizes d.framing.counting
      (1 + slots_of_rows (bare c.rows)) c.number roots group.entries =
      (λ i. plan_at c.sizes d.framing.counting (end i) c.number (whole_roots c.sizes (r.size i))
      group.entries) in
      let behind = group_ready d group there r.right is ready.room refl tells r.shows in
      let same : gone_through (plan_by true) contents ≡ gone_through
      (group_plan d (length there) group.entries) there =
      gone_through-append (checkpoint_plan c)
      (plan_at c.sizes d.framing.counting
      (1 + slots_of_rows (bare c.rows)) c.number roots group.entries)
      contents
      ∙ ap (λ (l : List Stage). gone_through l there) (sym plan_is) in
      record {
        ready = r.before (committed_after d group) (length (gone_through (plan_by true) contents))
            (plan_at c.sizes d.framing.counting
            (1 + slots_of_rows (bare c.rows)) c.number roots
            group.entries)
            (subst (λ (n : ℕ). IsReady (HoldsCommitted c) (ContentsShow (committed_after d group)) n
            (plan_at c.sizes d.framing.counting
            (1 + slots_of_rows (bare c.rows)) c.number roots
            group.entries) there) (ap length (sym same))
            (subst (λ (l : List Stage). IsReady (HoldsCommitted c)
            (ContentsShow (committed_after d group))
            (length (gone_through (group_plan d (length there) group.entries) there)) l there)
            plan_is (ready_less (HoldsCommitted d) (HoldsCommitted c)
            (ContentsShow (committed_after d group))
            (λ x held. record {
              framing = held.framing;
              right = held.right;
              matches = held.matches;
              no_older = omega (arith, held.no_older, right.good.head.version_to);
            }) (length (gone_through (group_plan d (length there) group.entries) there))
            (group_plan d (length there) group.entries) there behind)));
        roots_are = ap (λ (n : ℕ). roots_then (whole_roots c.sizes n) group) (sym r.size)
            ∙ (group_roots d group there r.right is ready.room refl tells r.shows
            ∙ ap (λ (l : List ℕ). whole_roots c.sizes (length l)) (sym same));
      }
  goes_by false e =
      let ready = readied c group right is next false e in
      record {
        ready = group_ready c group contents right is ready.room newest tells shows;
        roots_are = group_roots c group contents right is ready.room newest tells shows;
      }

pub groups_go_through : GroupsGoThrough
groups_go_through c group contents right is next newest tells shows =
    let by = goes_by c group contents right is next newest tells shows
    (is_due (journal_of c) group.entries) refl in
    record {
      ready = by.ready;
      right = after_right c group right is next newest;
      roots = by.roots_are;
    }
