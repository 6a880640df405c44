-- Stages: what holds between two calls, what one call does, and what a crash leaves.
-- For `stages_are_gone_through`.
use Rattle.std.proofs.Common.{◌≡◌, ◌≤◌, ◌+◌, ℕ, List, [], ◌∷◌, ◌++◌, length, take, inl, inr, refl}
use Rattle.std.proofs.Common.{sym, subst, ◌∙◌, arith, ⊎_elim}
use Rattle.std.specs.Prelude.{Result, Ok, Err, OnOk, OnErr}
use Rattle.cm_disk.specs.Disk.{View, OnlyNow, Unsynced, IsDurable, IsSound}
use Rattle.cm_disk.specs.Calls.{overwritten, HasCause}
use Rattle.cm_guards.specs.Guards.{Guard, Agrees, Guards, Keeps, EachImage}
use Rattle.cm_guards.specs.Gates.{OneOf}
use Rattle.cm_guards.specs.Plans.{Write, written}
use Rattle.cm_guards.specs.Calls.{LeavesOnly}
use Rattle.cm_guards.specs.Laws.{Stays}
use Rattle.cm_guards.specs.Stages.{Stage, Store, Turn, MakeDurable, Cut, after_call, CallsOnce}
use Rattle.cm_guards.specs.Stages.{TakesCall}
use Rattle.cm_guards.specs.Stages.{turned, leaves, claim_behind, Rests, IsReady, StagesStand}
use Rattle.cm_guards.specs.Stages.{calls_left, gone_through}
use Rattle.cm_guards.proofs.Kept.{guarded_images, keeps_durable}
use Rattle.cm_guards.proofs.Gated.{durable_images}
use Rattle.cm_guards.proofs.Planned.{plan_goes_on, written_goes_on}
use Rattle.cm_guards.proofs.Left.{leaves_more}
use Rattle.cm_guards.proofs.Steps.{write_leaves, cut_leaves, gate_leaves, sync_leaves}
use Rattle.cm_guards.proofs.Steps.{stays_written, stays_cut, gate_images}
use Rattle.cm_guards.proofs.Steps.{images_synced, stays_images}

-- ---- what agrees with guarded contents

agrees_on : (g : Guard) (a b c : List ℕ) → Agrees g a b → Agrees g b c → Agrees g a c
agrees_on g a b c first second = record {
  long = second.long;
  same = λ i guarded. first.same i guarded ∙ second.same i guarded;
}

agrees_itself : (g : Guard) (contents : List ℕ) → g.needs ≤ length contents
    → Agrees g contents contents
agrees_itself g contents long = record { long = long; same = λ i guarded. refl }

agreement_guards : (g : Guard) (base : List ℕ) → Guards g (Agrees g base)
agreement_guards g base = record {
  carries = λ a b long agrees holds. agrees_on g base a b holds agrees;
}

-- ---- a plan before its first call

module _ (P Q : List ℕ → Type 0) (long : ℕ) where
  rests_hold : (g : Guard) (contents : List ℕ) → Rests g P contents → P contents
  rests_hold g contents rests =
      rests.each contents (agrees_itself g contents rests.long)

  -- if stages are left, the first fact holds
  ready_holds : (stage : Stage) (stages : List Stage) (contents : List ℕ)
      → IsReady P Q long (stage ∷ stages) contents → P contents
  ready_holds (Store writes) stages contents ready =
      rests_hold ready.guard contents ready.rests
  ready_holds (Turn gate byte) stages contents ready = ready.holds
  ready_holds MakeDurable stages contents ready = absurd ready
  ready_holds (Cut len) stages contents ready = rests_hold ready.guard contents ready.rests

  ready_turned : (stages : List Stage) (contents : List ℕ) → IsReady P Q long stages contents
      → turned stages P Q contents
  ready_turned [] contents ready = record { which = inr ready.holds }
  ready_turned (stage ∷ stages) contents ready = ready_holds stage stages contents ready

  -- if everything is durable, ready stages stand
  pub ready_stands : (left : List Stage) (contents : List ℕ) (unsynced : Unsynced)
      → IsDurable contents unsynced → IsReady P Q long left contents
      → StagesStand P Q long left contents unsynced
  ready_stands [] contents unsynced durable ready =
      record { durable = durable; ready = ready }
  ready_stands (Store writes ∷ stages) contents unsynced durable ready = record {
    guard = ready.guard;
    keeps = keeps_durable ready.guard contents unsynced ready.rests.ends ready.rests.long durable;
    each = ready.rests.each;
    can = ready.can;
    behind = ready.behind;
  }
  ready_stands (Turn gate byte ∷ stages) contents unsynced durable ready =
      record { durable = durable; ready = ready }
  ready_stands (MakeDurable ∷ stages) contents unsynced durable ready = absurd ready
  ready_stands (Cut len ∷ stages) contents unsynced durable ready =
      record { durable = durable; ready = ready }

  -- the next call can be made
  pub takes_call : (left : List Stage) (contents : List ℕ) (unsynced : Unsynced)
      → IsSound contents unsynced → (left ≡ [] → ⊥) → StagesStand P Q long left contents unsynced
      → TakesCall left (length contents)
  takes_call [] contents unsynced sound some stands = some refl
  takes_call (Store [] ∷ stages) contents unsynced sound some stands = tt
  takes_call (Store (w ∷ ws) ∷ stages) contents unsynced sound some stands = record {
    starts_within = stands.can.0.starts_within;
    within_limit = stands.can.0.within_limit;
  }
  takes_call (Turn gate byte ∷ stages) contents unsynced sound some stands =
      let inside = stands.ready.turns.inside in
      record {
        starts_within = omega (arith, inside);
        within_limit = omega (arith, inside, sound.greatest, sound.limit);
      }
  takes_call (MakeDurable ∷ stages) contents unsynced sound some stands = tt
  takes_call (Cut len ∷ stages) contents unsynced sound some stands = stands.ready.within

  -- what a crash may leave between two calls
  pub stages_leave : (left : List Stage) (contents : List ℕ) (unsynced : Unsynced)
      → (left ≡ [] → ⊥) → StagesStand P Q long left contents unsynced
      → EachImage contents unsynced (leaves left P Q)
  stages_leave [] contents unsynced some stands = absurd (some refl)
  stages_leave (Store writes ∷ stages) contents unsynced some stands = record {
    each = λ image is.
        stands.each image
        ((guarded_images stands.guard (Agrees stands.guard contents) contents unsynced
        (agreement_guards stands.guard contents) stands.keeps
        (agrees_itself stands.guard contents stands.keeps.long)).each image is);
  }
  stages_leave (Turn gate byte ∷ []) contents unsynced some stands = record {
    each = λ image is. record {
      which = inl
          ((durable_images P contents unsynced stands.durable stands.ready.holds).each image is);
    };
  }
  stages_leave (Turn gate byte ∷ stage ∷ stages) contents unsynced some stands = record {
    each = (durable_images P contents unsynced stands.durable stands.ready.holds).each;
  }
  stages_leave (MakeDurable ∷ stages) contents unsynced some stands =
      record { each = stands.images.each }
  stages_leave (Cut len ∷ stages) contents unsynced some stands = record {
    each = (durable_images P contents unsynced stands.durable
        (rests_hold stands.ready.guard contents stands.ready.rests)).each;
  }

-- ---- one call

on_ok : {T E : Type 0} (r : Result T E) (A B : Type 0) → (A → B) → OnOk r A → OnOk r B
on_ok (Ok x) A B f a = f a
on_ok (Err e) A B f a = tt

on_err : {T E : Type 0} (r : Result T E) (B : Type 0) → B → OnErr r B
on_err (Ok x) B b = tt
on_err (Err e) B b = b

-- a gate's byte leaves one fact or the other; it leaves the last one only at the last gate
either_turned : (P Q : List ℕ → Type 0) (stages : List Stage) (contents : List ℕ)
    → OneOf P (claim_behind stages P Q) contents → turned stages P Q contents
either_turned P Q [] contents one = one
either_turned P Q (stage ∷ stages) contents one =
    ⊎_elim (λ p. p) (λ p. p) one.which

module _ {D T E : Type 0} (view : View D)
    (only_now : OnlyNow view) (P Q : List ℕ → Type 0) (long : ℕ)
    (old new : D) (r : Result T E) where
  abbrev Calls : List Stage → Type 0
  Calls left = CallsOnce view left old new r

  abbrev Stand : List Stage → D → Type 0
  Stand left disk = StagesStand P Q long left (view.contents disk) (view.unsynced disk)

  -- ---- a write apart from what is guarded

  module _ (w : Write) (ws : List Write) (stages : List Stage)
      (at : Stand (Store (w ∷ ws) ∷ stages) old) (call : Calls (Store (w ∷ ws) ∷ stages)) where
    abbrev g : Guard
    g = at.guard

    abbrev Same : List ℕ → Type 0
    Same = Agrees g (view.contents old)

    stays : Stays g Same (view.contents new) (view.unsynced new)
    stays =
        stays_written view r g Same w.at w.bytes old new call
        (agreement_guards g (view.contents old)) at.keeps at.can.0.apart
        (agrees_itself g (view.contents old) at.keeps.long) at.can.0.starts_within

    wrote : OnOk r (Stand (Store ws ∷ stages) new)
    wrote =
        let kept = stays in
        on_ok r (view.contents new ≡ overwritten w.at w.bytes (view.contents old))
        (Stand (Store ws ∷ stages) new) (λ done. record {
          guard = g;
          keeps = kept.keeps;
          each = λ other agrees.
              at.each other (agrees_on g (view.contents old) (view.contents new) other kept.holds
              agrees);
          can = plan_goes_on g w ws (view.contents old) (view.contents new) at.can done;
          behind = subst (IsReady P Q long stages)
              (written_goes_on w ws (view.contents old) (view.contents new) done) at.behind;
        }) call.written

    write_failed : EachImage (view.contents new) (view.unsynced new) P
    write_failed =
        let images = stays_images g Same (view.contents new) (view.unsynced new)
        (agreement_guards g (view.contents old)) stays in
        record { each = λ image is. at.each image (images.each image is) }

    write_moments : LeavesOnly view old new P
    write_moments =
        leaves_more view old new Same P at.each
        (write_leaves view only_now old new g Same w.at
        (length w.bytes) (agreement_guards g (view.contents old)) at.keeps at.can.0.apart
        (agrees_itself g (view.contents old) at.keeps.long) call.time)

  -- ---- the sync after the writes

  module _ (stages : List Stage) (at : Stand (Store [] ∷ stages) old)
      (call : Calls (Store [] ∷ stages)) where
    stored : OnOk r (Stand stages new)
    stored =
        on_ok r (IsDurable (view.contents new) (view.unsynced new)) (Stand stages new) (λ durable.
        ready_stands P Q long stages (view.contents new) (view.unsynced new) durable
        (subst (IsReady P Q long stages) (sym call.same) at.behind)) call.durable

    images_before : EachImage (view.contents old) (view.unsynced old) P
    images_before = record {
      each = (stages_leave P Q long (Store [] ∷ stages) (view.contents old) (view.unsynced old)
          (λ none. absurd (cc)) at).each;
    }

    holds_before : P (view.contents old)
    holds_before =
        at.each (view.contents old) (agrees_itself at.guard (view.contents old) at.keeps.long)

    sync_failed : EachImage (view.contents new) (view.unsynced new) P
    sync_failed =
        images_synced view r P old new call holds_before images_before

    sync_moments : LeavesOnly view old new P
    sync_moments =
        sync_leaves view only_now old new P images_before call.time

  -- ---- a gate's byte

  module _ (gate byte : ℕ) (stages : List Stage) (at : Stand (Turn gate byte ∷ stages) old)
      (call : Calls (Turn gate byte ∷ stages)) where
    abbrev Next : List ℕ → Type 0
    Next = claim_behind stages P Q

    gate_stays : EachImage (view.contents new) (view.unsynced new) (turned stages P Q)
    gate_stays =
        let images = gate_images view r P Next gate byte old new call at.ready.turns at.durable in
        record { each = λ image is. either_turned P Q stages image (images.each image is) }

    opened : OnOk r (Stand (MakeDurable ∷ stages) new)
    opened =
        let images = gate_stays in
        on_ok r (view.contents new ≡ overwritten gate (byte ∷ []) (view.contents old))
        (Stand (MakeDurable ∷ stages) new) (λ done. record {
          images = images;
          behind = subst (IsReady P Q long stages) (sym done) at.ready.behind;
        }) call.written

    gate_moments : LeavesOnly view old new (turned stages P Q)
    gate_moments =
        leaves_more view old new (OneOf P Next) (turned stages P Q)
        (λ image one. either_turned P Q stages image one)
        (gate_leaves view only_now old new P Next gate byte
        at.ready.turns at.durable at.ready.holds call.time)

  -- ---- the sync after it

  module _ (stages : List Stage) (at : Stand (MakeDurable ∷ stages) old)
      (call : Calls (MakeDurable ∷ stages)) where
    durable_behind : OnOk r (Stand stages new)
    durable_behind =
        on_ok r (IsDurable (view.contents new) (view.unsynced new)) (Stand stages new) (λ durable.
        ready_stands P Q long stages (view.contents new) (view.unsynced new) durable
        (subst (IsReady P Q long stages) (sym call.same) at.behind)) call.durable

    settle_failed : EachImage (view.contents new) (view.unsynced new) (turned stages P Q)
    settle_failed =
        images_synced view r (turned stages P Q) old new call
        (ready_turned P Q long stages (view.contents old) at.behind) at.images

    settle_moments : LeavesOnly view old new (turned stages P Q)
    settle_moments =
        sync_leaves view only_now old new (turned stages P Q)
        at.images call.time

  -- ---- a cut after what is guarded

  module _ (len : ℕ) (stages : List Stage) (at : Stand (Cut len ∷ stages) old)
      (call : Calls (Cut len ∷ stages)) where
    abbrev b : Guard
    b = at.ready.guard

    abbrev Alike : List ℕ → Type 0
    Alike = Agrees b (view.contents old)

    abbrev rests : Rests b P (view.contents old)
    rests = at.ready.rests

    keeps_before : Keeps b (view.contents old) (view.unsynced old)
    keeps_before =
        keeps_durable b (view.contents old) (view.unsynced old) rests.ends rests.long at.durable

    cut_stays : Stays b Alike (view.contents new) (view.unsynced new)
    cut_stays =
        stays_cut view r b Alike len old new call
        (agreement_guards b (view.contents old))
        (record {
          keeps = keeps_before;
          holds = agrees_itself b (view.contents old) rests.long;
        })
        at.ready.enough at.ready.within

    cut_done : OnOk r (Stand (Store [] ∷ stages) new)
    cut_done =
        let kept = cut_stays in
        on_ok r (view.contents new ≡ take len (view.contents old)) (Stand (Store [] ∷ stages) new)
        (λ done. record {
          guard = b;
          keeps = kept.keeps;
          each = λ other agrees.
              rests.each other (agrees_on b (view.contents old) (view.contents new) other kept.holds
              agrees);
          can = tt;
          behind = subst (IsReady P Q long stages) (sym done) at.ready.behind;
        }) call.cut

    cut_failed : EachImage (view.contents new) (view.unsynced new) P
    cut_failed =
        let images = stays_images b Alike (view.contents new) (view.unsynced new)
        (agreement_guards b (view.contents old)) cut_stays in
        record { each = λ image is. rests.each image (images.each image is) }

    cut_moments : LeavesOnly view old new P
    cut_moments =
        leaves_more view old new Alike P rests.each
        (cut_leaves view only_now old new b Alike len
        (agreement_guards b (view.contents old)) keeps_before at.ready.enough
        (agrees_itself b (view.contents old) rests.long) call.time)

  -- ---- any of these calls

  pub call_done : (left : List Stage) → Stand left old → Calls left
      → OnOk r (Stand (after_call left) new)
  call_done [] at call = absurd call
  call_done (Store [] ∷ stages) at call = stored stages at call
  call_done (Store (w ∷ ws) ∷ stages) at call = wrote w ws stages at call
  call_done (Turn gate byte ∷ stages) at call = opened gate byte stages at call
  call_done (MakeDurable ∷ stages) at call = durable_behind stages at call
  call_done (Cut len ∷ stages) at call = cut_done len stages at call

  pub call_failed : (left : List Stage) → Stand left old → Calls left
      → OnErr r (EachImage (view.contents new) (view.unsynced new) (leaves left P Q))
  call_failed [] at call = absurd call
  call_failed (Store [] ∷ stages) at call =
      on_err r (EachImage (view.contents new) (view.unsynced new) (leaves (Store [] ∷ stages) P Q))
      (record { each = (sync_failed stages at call).each })
  call_failed (Store (w ∷ ws) ∷ stages) at call =
      on_err r (EachImage (view.contents new) (view.unsynced new)
      (leaves (Store (w ∷ ws) ∷ stages) P Q))
      (record { each = (write_failed w ws stages at call).each })
  call_failed (Turn gate byte ∷ stages) at call =
      on_err r (EachImage (view.contents new) (view.unsynced new)
      (leaves (Turn gate byte ∷ stages) P Q))
      (record { each = (gate_stays gate byte stages at call).each })
  call_failed (MakeDurable ∷ stages) at call =
      on_err r (EachImage (view.contents new) (view.unsynced new)
      (leaves (MakeDurable ∷ stages) P Q))
      (record { each = (settle_failed stages at call).each })
  call_failed (Cut len ∷ stages) at call =
      on_err r (EachImage (view.contents new) (view.unsynced new) (leaves (Cut len ∷ stages) P Q))
      (record { each = (cut_failed len stages at call).each })

  pub call_moments : (left : List Stage) → Stand left old → Calls left
      → LeavesOnly view old new (leaves left P Q)
  call_moments [] at call = absurd call
  call_moments (Store [] ∷ stages) at call = sync_moments stages at call
  call_moments (Store (w ∷ ws) ∷ stages) at call = write_moments w ws stages at call
  call_moments (Turn gate byte ∷ stages) at call = gate_moments gate byte stages at call
  call_moments (MakeDurable ∷ stages) at call = settle_moments stages at call
  call_moments (Cut len ∷ stages) at call = cut_moments len stages at call

-- a fault is reported only if the device failed
pub call_cause : {D T E : Type 0} (view : View D) (left : List Stage)
    (old new : D) (r : Result T E)
    → CallsOnce view left old new r
    → HasCause (view.failures old) (view.failures new) r
call_cause view [] old new r call = absurd call
call_cause view (Store [] ∷ stages) old new r call =
    call.cause
call_cause view (Store (w ∷ ws) ∷ stages) old new r call =
    call.cause
call_cause view (Turn gate byte ∷ stages) old new r call =
    call.cause
call_cause view (MakeDurable ∷ stages) old new r call =
    call.cause
call_cause view (Cut len ∷ stages) old new r call =
    call.cause

-- ---- plans one after another

pub calls_left-append : (xs ys : List Stage)
    → calls_left (xs ++ ys) ≡ calls_left xs + calls_left ys
calls_left-append [] ys = omega arith
calls_left-append (stage ∷ xs) ys = omega (arith, calls_left-append xs ys)

pub gone_through-append : (xs ys : List Stage) (contents : List ℕ)
    → gone_through (xs ++ ys) contents ≡ gone_through ys (gone_through xs contents)
gone_through-append [] ys contents = refl
gone_through-append (Store writes ∷ xs) ys contents =
    gone_through-append xs ys (written writes contents)
gone_through-append (Turn gate byte ∷ xs) ys contents =
    gone_through-append xs ys (overwritten gate (byte ∷ []) contents)
gone_through-append (MakeDurable ∷ xs) ys contents = gone_through-append xs ys contents
gone_through-append (Cut len ∷ xs) ys contents = gone_through-append xs ys (take len contents)

-- ---- what is left

pub one_call_less : (left : List Stage) → (left ≡ [] → ⊥)
    → calls_left left ≡ 1 + calls_left (after_call left)
one_call_less [] some = absurd (some refl)
one_call_less (Store [] ∷ stages) some = omega arith
one_call_less (Store (w ∷ ws) ∷ stages) some = omega arith
one_call_less (Turn gate byte ∷ stages) some = omega arith
one_call_less (MakeDurable ∷ stages) some = omega arith
one_call_less (Cut len ∷ stages) some = omega arith

pub leaves_so : (left : List Stage) (P Q R S : List ℕ → Type 0)
    → ((image : List ℕ) → P image → R image) → ((image : List ℕ) → Q image → S image)
    → (image : List ℕ) → leaves left P Q image → leaves left R S image
leaves_so [] P Q R S f g image l = f image l
leaves_so (Store writes ∷ stages) P Q R S f g image l = f image l
leaves_so (Turn gate byte ∷ stages) P Q R S f g image l = turned_so stages P Q R S f g image l
  where
    turned_so : (stages : List Stage) (P Q R S : List ℕ → Type 0)
        → ((image : List ℕ) → P image → R image) → ((image : List ℕ) → Q image → S image)
        → (image : List ℕ) → turned stages P Q image → turned stages R S image
    turned_so [] P Q R S f g image l = record {
      which = elim l.which [ inl p ↦ inl (f image p) | inr q ↦ inr (g image q) ];
    }
    turned_so (stage ∷ stages) P Q R S f g image l = f image l
leaves_so (MakeDurable ∷ []) P Q R S f g image l = record {
  which = elim l.which [ inl p ↦ inl (f image p) | inr q ↦ inr (g image q) ];
}
leaves_so (MakeDurable ∷ stage ∷ stages) P Q R S f g image l = f image l
leaves_so (Cut len ∷ stages) P Q R S f g image l = f image l

-- what leaves only one fact
pub leaves_one : (left : List Stage) (P : List ℕ → Type 0) (image : List ℕ) → leaves left P P image
    → P image
leaves_one [] P image l = l
leaves_one (Store writes ∷ left) P image l = l
leaves_one (Turn gate byte ∷ []) P image l = elim l.which [ inl p ↦ p | inr q ↦ q ]
leaves_one (Turn gate byte ∷ stage ∷ left) P image l = l
leaves_one (MakeDurable ∷ []) P image l = elim l.which [ inl p ↦ p | inr q ↦ q ]
leaves_one (MakeDurable ∷ stage ∷ left) P image l = l
leaves_one (Cut len ∷ left) P image l = l

-- ---- a weaker first fact

module _ (P R Q : List ℕ → Type 0) (less : (x : List ℕ) → P x → R x) where
  claim_less : (stages : List Stage) (x : List ℕ) → claim_behind stages P Q x
      → claim_behind stages R Q x
  claim_less [] x q = q
  claim_less (stage ∷ stages) x p = less x p

  rests_less : (g : Guard) (x : List ℕ) → Rests g P x → Rests g R x
  rests_less g x rests = record {
    ends = rests.ends;
    long = rests.long;
    each = λ other agrees. less other (rests.each other agrees);
  }

  pub ready_less : (long : ℕ) (stages : List Stage) (x : List ℕ) → IsReady P Q long stages x
      → IsReady R Q long stages x
  ready_less long [] x ready = ready
  ready_less long (Store writes ∷ stages) x ready = record {
    guard = ready.guard;
    rests = rests_less ready.guard x ready.rests;
    can = ready.can;
    behind = ready_less long stages (written writes x) ready.behind;
  }
  ready_less long (Turn gate byte ∷ stages) x ready = record {
    holds = less x ready.holds;
    turns = record {
      inside = ready.turns.inside;
      either = λ b small. record {
        which = ⊎_elim (λ p. inl (less _ p)) (λ q. inr (claim_less stages _ q))
            (ready.turns.either b small).which;
      };
      last = claim_less stages _ ready.turns.last;
    };
    behind = ready_less long stages (overwritten gate (byte ∷ []) x) ready.behind;
  }
  ready_less long (MakeDurable ∷ stages) x ready = ready
  ready_less long (Cut len ∷ stages) x ready = record {
    guard = ready.guard;
    rests = rests_less ready.guard x ready.rests;
    enough = ready.enough;
    within = ready.within;
    behind = ready_less long stages (take len x) ready.behind;
  }
