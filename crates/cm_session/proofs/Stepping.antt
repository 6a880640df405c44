-- One step of the committer, for the machine.
-- For `Session::advance`, `Session::offer_next`.
use Rattle.std.proofs.Common.{cond, ◌≡◌, ℕ, ◌+◌, ◌≤◌, Bool, true, false, List, [], ◌∷◌, ◌++◌}
use Rattle.std.proofs.Common.{length, map, Option, Some, None, Result, Ok, Err, refl, sym, ap}
use Rattle.std.proofs.Common.{subst, ◌∙◌, arith, append_assoc, inl, inr}
use Rattle.std.specs.Prelude.{◌||◌, ◌↔◌, IsOk, OnOk, OnErr}
use Rattle.std.proofs.lemmas.List.{length-append}
use Rattle.cm_disk.specs.Disk.{View}
use Rattle.cm_group.specs.declared.receipt.Receipt.{Receipt}
use Rattle.cm_group.specs.Groups.{Handed}
use Rattle.cm_commit.specs.declared.progress.Progress.TheVariants.{Idle, Working, Done, Trimmed}
use Rattle.cm_commit.specs.declared.progress.AdvanceFault.TheVariants.{Device, Broken}
use Rattle.cm_guards.specs.Stages.{Stage, calls_left, after_call}
use Rattle.cm_commit.specs.Offers.{filled, rows_after_group, MayCome}
use Rattle.cm_commit.specs.States.{Work, Storing, CommitterState, TakesGroup, with_taken}
use Rattle.cm_commit.specs.States.{with_trim, BeginsTrim}
use Rattle.cm_commit.specs.declared.progress.Progress.{Progress}
use Rattle.cm_commit.specs.declared.progress.AdvanceFault.{AdvanceFault}
use Rattle.cm_commit.specs.Advances.{Rests, Works, Finishes, Trims, CallFails, StaysBroken}
use Rattle.cm_commit.specs.Advances.{Advances}
use Rattle.cm_guards.proofs.{one_call_less}
use Rattle.cm_front.specs.Front.{FrontState}
use Rattle.cm_handover.specs.Ahead.{IsAhead, pending}
use Rattle.cm_handover.specs.Handover.{CommittedIsAhead, HandedMayBeNext, MayBeNext}
use Rattle.cm_handover.specs.Following.{Follows}
use Rattle.cm_handover.specs.Laws.{CommittedFollows, FollowsFront}
use Rattle.cm_commands.specs.Machine.{Machine}
use Rattle.cm_session.specs.Session.{of_underway, commands_of, AreConsecutive, NoneContinues}
use Rattle.cm_session.specs.Session.{IsBusyWith}
use Rattle.cm_session.specs.Session.{IsAheadOfLearnt, IsSession}
use Rattle.cm_session.specs.Moves.{ReachesMachine, Advancing, is_device, MayTake}
use Rattle.cm_session.proofs.Learnt.{learnt_committed}
use Rattle.cm_session.proofs.Handing.{same_commands}

-- ---- what is taken

-- a committer that isn't broken has no steps left
pub no_calls : (broken : Bool) (calls n : ℕ) → n ≡ cond broken 0 calls → broken ≡ false → n ≡ 0
    → calls ≡ 0
no_calls true calls n same sound none = absurd (cc)
no_calls false calls n same sound none = omega (arith, same, none)

-- a committer to which a group is offered has no step left
pub may_take : {D : Type 0} {E : Type 0} (view : View D) (waiting : List Handed)
    (old new : CommitterState D) (group : Handed) (calls : ℕ)
    → calls ≡ cond old.broken 0 (calls_left old.left) → calls ≡ 0 → NoneContinues group waiting
    → (result : Result (Unit {0}) E) → (IsOk result ↔ TakesGroup old group)
    → OnOk result (new ≡ with_taken view old group) → OnErr result (new ≡ old)
    → MayTake view waiting old new
may_take view waiting old new group calls counted none all (Ok x) takes taken same =
    let may = takes.0 refl in
    inr (
      may.idle,
      no_calls old.broken (calls_left old.left) calls counted may.sound none,
      group,
      (taken, all),
    )
may_take view waiting old new group calls counted none all (Err e) takes taken same = inl same

-- ---- what is under way

-- nothing is under way if no call is left
pub none_under : (u : Option Work) (left : List Stage) → IsBusyWith u left → left ≡ [] → u ≡ None
none_under None left busy none = refl
none_under (Some work) left busy none =
    absurd (let calls = ap calls_left none in omega (arith, busy, calls))

some_left : (left : List Stage) → 1 ≤ calls_left left → left ≡ [] → ⊥
some_left left some none = let calls = ap calls_left none in omega (arith, some, calls)

still_busy : (u : Option Work) (left : List Stage) → IsBusyWith u left → 2 ≤ calls_left left
    → IsBusyWith u (after_call left)
still_busy None left busy more =
    absurd (some_left left (omega (arith, more)) busy)
still_busy (Some work) left busy more =
    let less = one_call_less left (some_left left busy) in omega (arith, less, more)

module _ {D : Type 0} (k : Machine) (front : FrontState) (old new : CommitterState D)
    (queue : List Handed) (sealed : ℕ) (failed : Bool)
    (i : IsSession k front old queue sealed failed) where
  -- ---- nothing is left

  pub rests : (old.underway ≡ None → queue ≡ []) → Rests old new
      → ReachesMachine (Advancing k (Ok Idle)) (λ j. IsSession j front new queue sealed failed)
  rests empty r = record {
    next = k;
    does = (i.told.failed_is ∙ r.sound, all, refl);
    matches = subst (λ c. IsSession k front c queue sealed failed) (sym r.stays) i;
  }
    where
      none : old.underway ≡ None
      none = none_under old.underway old.left i.between.busy r.none

      out : commands_of (of_underway old.underway ++ queue) ≡ []
      out =
          ap (λ (u : Option Work). commands_of (of_underway u ++ queue)) none
          ∙ ap (λ (l : List Handed). commands_of l) (empty none)

      all : k.acknowledged ≡ k.sealed
      all =
          let sealed = i.between.ahead.sealed in
          let long = ap length out in
          let here = i.told.acknowledged_is in
          let there = i.told.sealed_is in
          omega (arith, sealed, long, here, there)

  -- ---- a call is made

  pub works : Works old new
      → ReachesMachine (Advancing k (Ok Working)) (λ j. IsSession j front new queue sealed failed)
  works w = record {
    next = k;
    does = (i.told.failed_is ∙ w.sound, refl);
    matches = subst (λ c. IsSession k front c queue sealed failed) (sym w.new_is) (record {
      cache = i.cache;
      between = record {
        groups = i.between.groups;
        busy = still_busy old.underway old.left i.between.busy w.more;
        ahead = i.between.ahead;
        from_learnt = i.between.from_learnt;
      };
      follows = i.follows;
      told = i.told;
    });
  }

  -- ---- the last call is made

  pub finishes : CommittedIsAhead → CommittedFollows → (receipt : Receipt)
      → Finishes old receipt new
      → ReachesMachine (Advancing k (Ok (Done receipt)))
      (λ j. IsSession j front new queue sealed failed)
  finishes next_ahead committed receipt f = record {
    next = next;
    does = (
      i.told.failed_is ∙ f.sound,
      record {
        more =
            let told = f.told in
            let here = i.told.acknowledged_is in
            let some = behind.1.some in
            omega (arith, told, here, some);
        known =
            let told = f.told in
            let sealed = ahead.sealed in
            let there = i.told.sealed_is in
            let long = length-append group.entries (commands_of queue) in
            omega (arith, told, sealed, there, long);
        next_is = refl;
      },
    );
    matches = subst (λ c. IsSession next front c queue sealed failed) (sym f.new_is) (record {
      cache = i.cache;
      between = record {
        groups = behind.2;
        busy = refl;
        ahead = next_ahead old.rows old.number group (commands_of queue) front i.cache.is ahead;
        from_learnt = learnt_committed old.rows old.number
            (commands_of (of_underway old.underway ++ queue)) front i.between.from_learnt
            group.entries (commands_of queue)
            (ap (λ (u : Option Work). commands_of (of_underway u ++ queue)) f.underway);
      };
      follows = same_commands front.sizes k next refl refl follows;
      told = record {
        acknowledged_is = f.told;
        sealed_is = i.told.sealed_is;
        sealed_told = i.told.sealed_told;
        failed_is = i.told.failed_is;
        failed_told = i.told.failed_told;
        noticed_is = i.told.noticed_is;
      };
    });
  }
    where
      group : Handed
      group = f.group

      next : Machine
      next = record k { acknowledged = receipt.number }

      behind : AreConsecutive old.number (group ∷ queue)
      behind =
          subst (λ u. AreConsecutive old.number (of_underway u ++ queue)) f.underway
          i.between.groups

      ahead : IsAhead old.rows old.number (group.entries ++ commands_of queue) front
      ahead =
          subst (λ u. IsAhead old.rows old.number (commands_of (of_underway u ++ queue))
          front) f.underway i.between.ahead

      split : pending (group.entries ++ commands_of queue) front
          ≡ group.entries ++ pending (commands_of queue) front
      split = append_assoc group.entries (commands_of queue) (commands_of front.unsealed)

      before : FollowsFront k old.rows old.number (group.entries ++ commands_of queue) front
      before =
          subst (λ u. FollowsFront k old.rows old.number (commands_of (of_underway u ++ queue))
          front) f.underway i.follows

      follows : Follows front.sizes k (rows_after_group old.rows group.entries)
          (old.number + length group.entries) (map filled (pending (commands_of queue) front))
      follows =
          committed front.sizes k old.rows old.number group.entries
          (pending (commands_of queue) front)
          (subst (λ l. Follows front.sizes k old.rows old.number (map filled l)) split before)
          (let numbers = ahead.numbers in
          let last = i.cache.is.numbers in
          let long = ap length split in
          omega (arith, numbers, last, long))

  -- ---- the last call of a trim is made

  -- the session once a trim is done
  pub trims : (roots : ℕ) → Trims old roots new
      → ReachesMachine (Advancing k (Ok (Trimmed roots)))
      (λ j. IsSession j front new queue sealed failed)
  trims roots t = record {
    next = k;
    does = (i.told.failed_is ∙ t.sound, refl);
    matches = subst (λ c. IsSession k front c queue sealed failed) (sym t.new_is) (record {
      cache = i.cache;
      between = record {
        groups = subst (λ u. AreConsecutive old.number (of_underway u ++ queue)) t.underway
            i.between.groups;
        busy = refl;
        ahead = subst (λ u. IsAhead old.rows old.number (commands_of (of_underway u ++ queue))
            front) t.underway i.between.ahead;
        from_learnt = subst (λ u. IsAheadOfLearnt old.rows old.number
            (commands_of (of_underway u ++ queue)) front) t.underway i.between.from_learnt;
      };
      follows = subst (λ u. FollowsFront k old.rows old.number
          (commands_of (of_underway u ++ queue)) front) t.underway i.follows;
      told = i.told;
    });
  }

  -- the session once a trim has begun
  pub begins_trim : old.underway ≡ None → new ≡ with_trim old
      → IsSession k front new queue sealed failed
  begins_trim none is =
      subst (λ c. IsSession k front c queue sealed failed) (sym is) (record {
        cache = i.cache;
        between = record {
          groups = subst (λ u. AreConsecutive old.number (of_underway u ++ queue)) none
              i.between.groups;
          busy = omega arith;
          ahead = subst (λ u. IsAhead old.rows old.number (commands_of (of_underway u ++ queue))
              front) none i.between.ahead;
          from_learnt = subst (λ u. IsAheadOfLearnt old.rows old.number
              (commands_of (of_underway u ++ queue)) front) none i.between.from_learnt;
        };
        follows = subst (λ u. FollowsFront k old.rows old.number
            (commands_of (of_underway u ++ queue)) front) none i.follows;
        told = i.told;
      })

  -- ---- a call fails

  pub breaks : CallFails old new
      → ReachesMachine (Advancing k (Err Device)) (λ j. IsSession j front new queue sealed true)
  breaks b = record {
    next = next;
    does = (i.told.failed_is ∙ b.sound, refl);
    matches = subst (λ c. IsSession next front c queue sealed true) (sym b.new_is) (record {
      cache = i.cache;
      between = record {
        groups = i.between.groups;
        busy = i.between.busy;
        ahead = i.between.ahead;
        from_learnt = i.between.from_learnt;
      };
      follows = same_commands front.sizes k next refl refl i.follows;
      told = record {
        acknowledged_is = i.told.acknowledged_is;
        sealed_is = i.told.sealed_is;
        sealed_told = i.told.sealed_told;
        failed_is = refl;
        failed_told = refl;
        noticed_is = i.told.noticed_is;
      };
    });
  }
    where
      next : Machine
      next = record k { failed = true }

  pub stays : StaysBroken old new
      → ReachesMachine (Advancing k (Err Broken)) (λ j. IsSession j front new queue sealed failed)
  stays s = record {
    next = k;
    does = (i.told.failed_is ∙ s.broken, refl);
    matches = subst (λ c. IsSession k front c queue sealed failed) (sym s.stays) i;
  }

-- ---- whichever it is

pub or_false : (b : Bool) → b || false ≡ b
or_false true = refl
or_false false = refl

pub or_true : (b : Bool) → b || true ≡ true
or_true true = refl
or_true false = refl

pub advanced : {D : Type 0} (next_ahead : CommittedIsAhead) (committed : CommittedFollows)
    (k : Machine) (front : FrontState) (old new : CommitterState D) (queue : List Handed)
    (sealed : ℕ) (failed : Bool) → IsSession k front old queue sealed failed
    → (failed ≡ false → old.underway ≡ None → queue ≡ [])
    → (result : Result Progress AdvanceFault) → Advances old result new
    → ReachesMachine (Advancing k result)
    (λ j. IsSession j front new queue sealed (failed || is_device result))
advanced next_ahead committed k front old new queue sealed failed i empty (Ok Idle) r =
    subst (λ b. ReachesMachine (Advancing k (Ok Idle)) (λ j. IsSession j front new queue sealed b))
    (sym (or_false failed))
    (rests k front old new queue sealed failed i (empty (i.told.failed_told ∙ r.sound)) r)
advanced next_ahead committed k front old new queue sealed failed i empty (Ok Working) w =
    subst (λ b. ReachesMachine (Advancing k (Ok Working))
    (λ j. IsSession j front new queue sealed b))
    (sym (or_false failed)) (works k front old new queue sealed failed i w)
advanced next_ahead committed k front old new queue sealed failed i empty (Ok (Done receipt)) f =
    subst (λ b. ReachesMachine (Advancing k (Ok (Done receipt)))
    (λ j. IsSession j front new queue sealed b))
    (sym (or_false failed))
    (finishes k front old new queue sealed failed i next_ahead committed receipt f)
advanced next_ahead committed k front old new queue sealed failed i empty (Ok (Trimmed roots)) t =
    subst (λ b. ReachesMachine (Advancing k (Ok (Trimmed roots)))
    (λ j. IsSession j front new queue sealed b))
    (sym (or_false failed)) (trims k front old new queue sealed failed i roots t)
advanced next_ahead committed k front old new queue sealed failed i empty (Err Device) b =
    subst (λ t. ReachesMachine (Advancing k (Err Device))
    (λ j. IsSession j front new queue sealed t))
    (sym (or_true failed)) (breaks k front old new queue sealed failed i b)
advanced next_ahead committed k front old new queue sealed failed i empty (Err Broken) s =
    subst (λ b. ReachesMachine (Advancing k (Err Broken))
    (λ j. IsSession j front new queue sealed b))
    (sym (or_false failed)) (stays k front old new queue sealed failed i s)

-- ---- the next group is taken

pub not_none : {A : Type 0} (x : A) (o : Option A) → o ≡ Some x → o ≡ None → ⊥
not_none x None some none = absurd (cc)
not_none x (Some y) some none = absurd (cc)

-- no call is left, so none is under way
pub none_busy : (u : Option Work) (left : List Stage) → IsBusyWith u left → calls_left left ≡ 0
    → u ≡ None
none_busy None left busy none = refl
none_busy (Some work) left busy none = absurd (omega (arith, busy, none))

module _ {D : Type 0} (next : HandedMayBeNext) (k : Machine) (front : FrontState)
    (committer : CommitterState D) (queue rest : List Handed) (sealed : ℕ) (failed : Bool)
    (group : Handed) (i : IsSession k front committer queue sealed failed)
    (none : committer.underway ≡ None)
    (same : commands_of (group ∷ rest) ≡ commands_of queue)
    (joined : (n : ℕ) → AreConsecutive n queue → AreConsecutive n (group ∷ rest)) where
  behind : AreConsecutive committer.number (group ∷ rest)
  behind =
      joined committer.number
      (subst (λ u. AreConsecutive committer.number (of_underway u ++ queue)) none i.between.groups)

  out : commands_of (of_underway committer.underway ++ queue) ≡ commands_of (group ∷ rest)
  out = ap (λ (u : Option Work). commands_of (of_underway u ++ queue)) none ∙ sym same

  ahead : IsAhead committer.rows committer.number (commands_of (group ∷ rest)) front
  ahead =
      subst (λ l. IsAhead committer.rows committer.number l front) out i.between.ahead

  comes : MayBeNext committer.rows committer.number group front
  comes =
      next committer.rows committer.number group (commands_of rest) front i.cache.is ahead

  -- the group is one that the committer takes
  pub is_taken : committer.broken ≡ false → TakesGroup committer group
  is_taken sound = record {
    sound = sound;
    idle = none;
    next = subst (λ z. MayCome z committer.rows committer.number group) i.cache.sizes
        (record {
          begins = behind.0;
          ends = comes.ends;
          entries = comes.entries;
        });
  }

  pub takes : (left : List Stage) → 1 ≤ calls_left left
      → IsSession k front (record committer { underway = Some (Storing group); left = left }) rest
      sealed failed
  takes left some = record {
    cache = i.cache;
    between = record {
      groups = behind;
      busy = some;
      ahead = ahead;
      from_learnt = subst (λ l. IsAheadOfLearnt committer.rows committer.number l front) out
          i.between.from_learnt;
    };
    follows = subst (λ l. FollowsFront k committer.rows committer.number l front) out i.follows;
    told = i.told;
  }

-- ---- a trim is requested

-- nothing changes on the disk
pub trim_disk : {D E : Type 0} (view : View D) (old new : CommitterState D)
    (result : Result Bool E) → BeginsTrim view old result new → new.disk ≡ old.disk
trim_disk view old new (Ok true) b = ap (λ (c : CommitterState _). c.disk) b.2
trim_disk view old new (Ok false) b = ap (λ (c : CommitterState _). c.disk) b.2
trim_disk view old new (Err e) b = ap (λ (c : CommitterState _). c.disk) b.1

pub trim_sizes : {D E : Type 0} (view : View D) (old new : CommitterState D)
    (result : Result Bool E) → BeginsTrim view old result new → new.sizes ≡ old.sizes
trim_sizes view old new (Ok true) b = ap (λ (c : CommitterState _). c.sizes) b.2
trim_sizes view old new (Ok false) b = ap (λ (c : CommitterState _). c.sizes) b.2
trim_sizes view old new (Err e) b = ap (λ (c : CommitterState _). c.sizes) b.1

-- a trim is granted only to a committer that isn't broken
pub trim_sound : {D E : Type 0} (view : View D) (old new : CommitterState D)
    (result : Result Bool E) → BeginsTrim view old result new → IsOk result
    → old.broken ≡ false
trim_sound view old new (Ok true) b is = b.0.sound
trim_sound view old new (Ok false) b is = b.0.sound
trim_sound view old new (Err e) b is = absurd (cc)

pub trim_begins : {D E : Type 0} (view : View D) (k : Machine) (front : FrontState)
    (old new : CommitterState D) (queue : List Handed) (sealed : ℕ) (failed : Bool)
    → IsSession k front old queue sealed failed → (result : Result Bool E)
    → BeginsTrim view old result new → IsSession k front new queue sealed failed
trim_begins view k front old new queue sealed failed i (Ok true) b =
    begins_trim k front old new queue sealed failed i b.0.idle b.2
trim_begins view k front old new queue sealed failed i (Ok false) b =
    subst (λ c. IsSession k front c queue sealed failed) (sym b.2) i
trim_begins view k front old new queue sealed failed i (Err e) b =
    subst (λ c. IsSession k front c queue sealed failed) (sym b.1) i
