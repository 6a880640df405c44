-- A group that is handed out, what is learnt, and a failure that is noticed.
-- For `Session::learn`, `Session::offer_next`, `Session::seal`.
use Rattle.std.proofs.Common.{◌≡◌, ℕ, ◌+◌, ◌-◌, ◌≤◌, ◌<◌, Bool, List, [], ◌∷◌, ◌++◌, length}
use Rattle.std.proofs.Common.{Result, Ok, Err, map, refl, sym, ap, subst, ◌∙◌, arith, append_assoc}
use Rattle.std.proofs.lemmas.List.{length-append}
use Rattle.cm_pool.specs.Geometry.{Sizes}
use Rattle.cm_group.specs.Groups.{Carried, Handed, IsGroup, group_limit}
use Rattle.std.specs.Prelude.{◌||◌, true, IsOk, OnOk, OnErr}
use Rattle.std.specs.Result.{is_err}
use Rattle.cm_commit.specs.Offers.{filled}
use Rattle.cm_commit.specs.States.{CommitterState}
use Rattle.cm_front.specs.Front.{FrontState, IsFront}
use Rattle.cm_front.specs.Accepting.{HandsOut, with_learnt}
use Rattle.cm_front.specs.Unsealed.{Follow}
use Rattle.cm_handover.specs.Ahead.{IsAhead, pending}
use Rattle.cm_handover.specs.Handover.{HandedIsAhead, LearntIsAhead, FailedIsAhead}
use Rattle.cm_handover.specs.Following.{Follows}
use Rattle.cm_handover.specs.Laws.{CommandsAreCounted, FollowsFront}
use Rattle.cm_state.specs.State.{class_shows, state_of}
use Rattle.cm_commands.specs.Machine.{Base, Machine, Holds, Seals, accepted_to}
use Rattle.cm_session.specs.Session.{of_underway, commands_of, AreConsecutive, IsAheadOfLearnt}
use Rattle.cm_session.specs.Session.{IsSession}
use Rattle.cm_session.specs.Moves.{ReachesMachine, Learns}
use Rattle.cm_group.proofs.{enough}
use Rattle.cm_session.proofs.Learnt.{all_learnt, learnt_handed}
use Rattle.cm_session.proofs.Queued.{commands_more, behind_more}

-- ---- another machine with the same commands

pub same_commands : {rows : _} {number : ℕ} {waits : _} (sizes : Sizes) (k j : Machine)
    → j.base ≡ k.base → j.commands ≡ k.commands → Follows sizes k rows number waits
    → Follows sizes j rows number waits
same_commands sizes k j base same f = record {
  classes = f.classes;
  are = f.are;
  entries = f.entries;
  words = f.words;
  first = f.first;
  rest = f.rest;
  commands = f.commands ∙ sym same;
  count = ap (λ (b : Base). b.number + length f.first) base ∙ f.count;
  holds = subst (λ b. Holds sizes b f.first (state_of class_shows f.classes)) (sym base) f.holds;
  make = f.make;
}

-- a result that is Ok has what holds of it in that case
pub on_ok : {A E P : Type 0} (r : Result A E) → IsOk r → OnOk r P → P
on_ok (Ok x) is p = p
on_ok (Err e) is p = absurd (cc)

pub on_err : {A E P : Type 0} (r : Result A E) → true ≡ is_err r → OnErr r P → P
on_err (Ok x) is p = absurd (cc)
on_err (Err e) is p = p

-- ---- what isn't handed out yet

no_commands : (n : ℕ) (groups : List Handed) → AreConsecutive n groups
    → length (commands_of groups) ≡ 0 → groups ≡ []
no_commands n [] behind none = refl
no_commands n (group ∷ groups) behind none =
    let some = behind.1.some in
    let long = length-append group.entries (commands_of groups) in
    absurd (omega (arith, some, long, none))

no_more : (groups queue : List Handed) → groups ++ queue ≡ [] → queue ≡ []
no_more [] queue none = none
no_more (group ∷ groups) queue none = absurd (cc)

module _ {D : Type 0} (counted : CommandsAreCounted) (k : Machine) (front : FrontState)
    (committer : CommitterState D) (queue : List Handed) (sealed : ℕ) (failed : Bool)
    (i : IsSession k front committer queue sealed failed) where
  pub all_commands : accepted_to k ≡ front.number
  all_commands =
      let all = counted front.sizes k committer.rows committer.number
      (pending (commands_of (of_underway committer.underway ++ queue)) front) i.follows in
      all ∙ i.between.ahead.numbers

  pub known : k.sealed ≤ accepted_to k
  known =
      let all = all_commands in
      let is = i.told.sealed_is in
      let numbers = i.between.ahead.numbers in
      let handed = i.between.ahead.sealed in
      let long = length-append (commands_of (of_underway committer.underway ++ queue))
      (commands_of front.unsealed) in
      omega (arith, all, is, numbers, handed, long)

  pub none_waits : front.number ≡ sealed → k.sealed ≡ accepted_to k
  none_waits same =
      let all = all_commands in
      let is = i.told.sealed_is in
      let told = i.told.sealed_told in
      omega (arith, same, all, is, told)

  pub some_wait : (front.number ≡ sealed → ⊥) → k.sealed < accepted_to k
  some_wait differ =
      let all = all_commands in
      let is = i.told.sealed_is in
      let told = i.told.sealed_told in
      let numbers = i.between.ahead.numbers in
      let handed = i.between.ahead.sealed in
      let long = length-append (commands_of (of_underway committer.underway ++ queue))
      (commands_of front.unsealed) in
      omega (arith, differ, all, is, told, numbers, handed, long)

  -- what was handed out is durable, so none of it waits
  pub none_queued : k.acknowledged ≡ k.sealed → queue ≡ []
  none_queued same =
      let stored = i.told.acknowledged_is in
      let is = i.told.sealed_is in
      let handed = i.between.ahead.sealed in
      no_more (of_underway committer.underway) queue
      (no_commands committer.number (of_underway committer.underway ++ queue) i.between.groups
      (omega (arith, same, stored, is, handed)))

  -- the accepted cache has nothing to hand out
  pub none_left : front.unsealed ≡ [] → k.sealed ≡ accepted_to k
  none_left none =
      let all = all_commands in
      let is = i.told.sealed_is in
      let groups = i.cache.is.groups in
      let same = subst (λ l. Follow (front.sealed + 1) l (front.number + 1)) none groups in
      omega (arith, same, all, is)

-- an empty queue with a place isn't full
pub not_full : (capacity long : ℕ) (queue : List Handed) → long ≡ length queue → 1 ≤ capacity
    → capacity < long + 1 → queue ≡ [] → ⊥
not_full capacity long queue long_is place full none =
    let zero = ap length none in omega (arith, long_is, place, full, zero)

-- ---- handing out

module _ {D : Type 0} (counted : CommandsAreCounted) (handed : HandedIsAhead) (k : Machine)
    (front new : FrontState) (committer : CommitterState D) (queue : List Handed) (sealed : ℕ)
    (failed : Bool) (group : Handed) (is : IsGroup group) (h : HandsOut front group new)
    (is_new : IsFront new) (i : IsSession k front committer queue sealed failed) where
  abbrev groups : List Handed
  groups = of_underway committer.underway ++ queue

  abbrev out : List Carried
  out = commands_of groups

  abbrev last : ℕ
  last = group.first + (length group.entries - 1)

  oldest_first : h.oldest.first ≡ front.sealed + 1
  oldest_first =
      (subst (λ l. Follow (front.sealed + 1) l (front.number + 1)) h.is_oldest i.cache.is.groups).0

  first_is : group.first ≡ front.sealed + 1
  first_is = ap (λ (g : Handed). g.first) h.group_is ∙ oldest_first

  entries_are : group.entries ≡ h.oldest.entries
  entries_are = ap (λ (g : Handed). g.entries) h.group_is

  sealed_after : new.sealed ≡ last
  sealed_after =
      ap (λ (s : FrontState). s.sealed) h.after
      ∙ (let first = oldest_first in
      let here = first_is in
      let long = ap length entries_are in
      let some = is.some in
      omega (arith, first, here, long, some))

  groups_are : of_underway committer.underway ++ (queue ++ group ∷ []) ≡ groups ++ group ∷ []
  groups_are = sym (append_assoc (of_underway committer.underway) queue (group ∷ []))

  out_are : commands_of (of_underway committer.underway ++ (queue ++ group ∷ []))
      ≡ out ++ group.entries
  out_are = ap commands_of groups_are ∙ commands_more groups group

  ahead_then : IsAhead committer.rows committer.number (out ++ group.entries) new
  ahead_then =
      handed committer.rows committer.number out front new group i.cache.is i.between.ahead h

  waits_are : pending (out ++ group.entries) new ≡ pending out front
  waits_are =
      ap (λ (s : FrontState). pending (out ++ group.entries) s) h.after
      ∙ (ap (λ l. pending (out ++ l) (record front { unsealed = h.rest })) entries_are
      ∙ (append_assoc out h.oldest.entries (commands_of h.rest)
      ∙ ap (λ l. out ++ commands_of l) (sym h.is_oldest)))

  abbrev next : Machine
  next = record k { sealed = last }

  follows_then : FollowsFront next committer.rows committer.number (out ++ group.entries) new
  follows_then =
      same_commands new.sizes k next refl refl
      (subst (λ z. Follows z k committer.rows committer.number
      (map filled (pending (out ++ group.entries) new)))
      (sym (ap (λ (s : FrontState). s.sizes) h.after))
      (subst (λ l. Follows front.sizes k committer.rows committer.number (map filled l))
      (sym waits_are) i.follows))

  many : length group.entries ≤ group_limit
  many =
      let few = is.few in
      omega (arith, few, enough group.entries)

  all_known : last ≤ accepted_to k
  all_known =
      let all = counted front.sizes k committer.rows committer.number (pending out front)
      i.follows in
      let numbers = i.between.ahead.numbers in
      let then = ahead_then.numbers in
      let sealed = ahead_then.sealed in
      let after = sealed_after in
      let long = ap length waits_are in
      let more = length-append (out ++ group.entries) (commands_of new.unsealed) in
      omega (arith, all, numbers, then, sealed, after, long, more)

  pub hands : ReachesMachine (λ (j : Machine). Seals k group.first last j)
      (λ j. IsSession j new committer (queue ++ group ∷ []) last failed)
  hands = record {
    next = next;
    does = record {
      first_is = first_is ∙ ap (λ n. n + 1) (sym i.told.sealed_is);
      some = let some = is.some in omega (arith, some);
      few =
          let many = many in
          let first = first_is in
          let sealed = i.told.sealed_is in
          let some = is.some in
          omega (arith, many, first, sealed, some);
      known = all_known;
      next_is = refl;
    };
    matches = record {
      cache = record {
        is = is_new;
        sizes = ap (λ (s : FrontState). s.sizes) h.after ∙ i.cache.sizes;
        running = ap (λ (s : FrontState). s.closed) h.after ∙ i.cache.running;
      };
      between = record {
        groups = subst (AreConsecutive committer.number) (sym groups_are)
            (behind_more committer.number groups group i.between.groups
            (let first = first_is in
            let sealed = i.between.ahead.sealed in
            omega (arith, first, sealed)) is);
        busy = i.between.busy;
        ahead = subst (λ l. IsAhead committer.rows committer.number l new)
            (sym out_are) ahead_then;
        from_learnt = subst (λ l. IsAheadOfLearnt committer.rows committer.number l new)
            (sym out_are)
            (learnt_handed committer.rows committer.number out front i.between.from_learnt handed
            new group i.cache.is h);
      };
      follows = subst (λ l. FollowsFront next committer.rows committer.number l new) (sym out_are)
          follows_then;
      told = record {
        acknowledged_is = i.told.acknowledged_is;
        sealed_is = sym sealed_after;
        sealed_told = sym sealed_after;
        failed_is = i.told.failed_is;
        failed_told = i.told.failed_told;
        noticed_is = i.told.noticed_is ∙ sym (ap (λ (s : FrontState). s.broken) h.after);
      };
    };
  }

  pub hands_as : (first to : ℕ) (behind : List Handed) → first ≡ group.first → to ≡ last
      → behind ≡ queue ++ group ∷ []
      → ReachesMachine (λ (j : Machine). Seals k first to j)
      (λ j. IsSession j new committer behind to failed)
  hands_as first to behind first_same to_same behind_same =
      subst (λ q. ReachesMachine (λ (j : Machine). Seals k first to j)
      (λ j. IsSession j new committer q to failed)) (sym behind_same)
      (subst (λ n. ReachesMachine (λ (j : Machine). Seals k first n j)
      (λ j. IsSession j new committer (queue ++ group ∷ []) n failed)) (sym to_same)
      (subst (λ n. ReachesMachine (λ (j : Machine). Seals k n last j)
      (λ j. IsSession j new committer (queue ++ group ∷ []) last failed)) (sym first_same) hands))

-- ---- learning

module _ {D : Type 0} (frees : LearntIsAhead) (fails : FailedIsAhead) (k : Machine)
    (front new : FrontState) (committer : CommitterState D) (queue : List Handed) (sealed : ℕ)
    (failed : Bool) (is_new : IsFront new)
    (i : IsSession k front committer queue sealed failed) where
  abbrev all_out : List Carried
  all_out = commands_of (of_underway committer.underway ++ queue)

  noted : (broken : Bool) → k.noticed || k.failed ≡ broken
      → IsAhead committer.rows committer.number all_out
      (with_learnt (record front { broken = broken }) committer.number)
  noted broken told =
      frees committer.rows committer.number all_out (record front { broken = broken })
      committer.number is_broken
      (fails committer.rows committer.number all_out front broken
      front.closed i.between.ahead)
      (omega arith)
    where
      is_broken : IsFront (record front { broken = broken })
      is_broken = record {
        lawful = i.cache.is.lawful;
        rows = i.cache.is.rows;
        right = i.cache.is.right;
        space = i.cache.is.space;
        known = i.cache.is.known;
        waiting = i.cache.is.waiting;
        learnt = i.cache.is.learnt;
        numbers = i.cache.is.numbers;
        groups = i.cache.is.groups;
      }

  pub learns : (broken : Bool) → k.noticed || k.failed ≡ broken
      → new ≡ with_learnt (record front { broken = broken }) committer.number
      → ReachesMachine (Learns k committer.number)
      (λ j. IsSession j new committer queue sealed failed)
  learns broken told after = record {
    next = next;
    does = record { number_is = sym i.told.acknowledged_is; next_is = refl };
    matches = record {
      cache = record {
        is = is_new;
        sizes = ap (λ (s : FrontState). s.sizes) after ∙ i.cache.sizes;
        running = ap (λ (s : FrontState). s.closed) after ∙ i.cache.running;
      };
      between = record {
        groups = i.between.groups;
        busy = i.between.busy;
        ahead = subst (λ s. IsAhead committer.rows committer.number all_out s)
            (sym after) (noted broken told);
        from_learnt = all_learnt committer.rows committer.number all_out new all_known
            (subst (λ s. IsAhead committer.rows committer.number all_out s)
            (sym after) (noted broken told));
      };
      follows = subst (λ s. FollowsFront next committer.rows committer.number all_out s)
          (sym after) (same_commands front.sizes k next refl refl i.follows);
      told = record {
        acknowledged_is = i.told.acknowledged_is;
        sealed_is = i.told.sealed_is ∙ sym (ap (λ (s : FrontState). s.sealed) after);
        sealed_told = i.told.sealed_told ∙ sym (ap (λ (s : FrontState). s.sealed) after);
        failed_is = i.told.failed_is;
        failed_told = i.told.failed_told;
        noticed_is = told ∙ sym (ap (λ (s : FrontState). s.broken) after);
      };
    };
  }
    where
      all_known : new.learnt ≡ committer.number
      all_known =
          ap (λ (s : FrontState). s.learnt) after
          ∙ (let least = i.between.ahead.learnt in omega (arith, least))

      next : Machine
      next = record k { noticed = k.noticed || k.failed }
