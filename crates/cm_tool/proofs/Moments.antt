-- What a crash leaves in the course of a line.
-- For `answer`, `define`, `change` and others.
use Rattle.std.proofs.Common.{◌≡◌, ◌≤◌, ◌⊎◌, ℕ, Bool, true, List, Result, Ok, Err, inl, inr, refl}
use Rattle.std.proofs.Common.{sym, ◌∙◌, ap, subst, arith}
use Rattle.cm_class.specs.declared.class_file.ClassFile.{ClassFile}
use Rattle.cm_pool.specs.Geometry.{Sizes}
use Rattle.cm_disk.specs.Disk.{OnlyNow, View}
use Rattle.cm_guards.specs.Guards.{EachImage}
use Rattle.cm_guards.specs.Calls.{LeavesOnly}
use Rattle.cm_guards.proofs.{leaves_none, leaves_more}
use Rattle.cm_state.specs.Step.{Change}
use Rattle.cm_commit.specs.States.{CommitterState}
use Rattle.cm_commands.specs.Machine.{Machine}
use Rattle.cm_session.specs.declared.session.Session.{Session}
use Rattle.cm_session.specs.declared.storing.NotStored.{NotStored}
use Rattle.cm_session.specs.declared.storing.NotStored.TheVariants.{Refused, Unsure}
use Rattle.cm_session.specs.Images.{StandsForSome}
use Rattle.cm_session.specs.Moves.{SessionMatches}
use Rattle.cm_session.specs.Storing.{Hands, Stores, MakesNoCall}
use Rattle.cm_tool.specs.Answers.{StandsBetween}
use Rattle.cm_tool.specs.Serving.{IsReady, MayProgress}

-- what stands for a machine's commands does so however many are acknowledged, and whether or not
-- the device failed
between_kept : (sizes : Sizes) (k handed : Machine) (acknowledged : ℕ) (failed noticed : Bool)
    (image : List ℕ) → StandsBetween sizes k handed image
    → StandsBetween sizes k
    (record handed { acknowledged = acknowledged; failed = failed; noticed = noticed }) image
between_kept sizes k handed acknowledged failed noticed image b = record {
  number = b.number;
  least = b.least;
  most = b.most;
  stands = record {
    from = b.stands.from;
    known = b.stands.known;
    state = b.stands.state;
    arenas = b.stands.arenas;
    stands = b.stands.stands;
    holds = b.stands.holds;
  };
}

between_some : (sizes : Sizes) (k next : Machine) (image : List ℕ)
    → k.acknowledged ≤ next.acknowledged → StandsForSome sizes next image
    → StandsBetween sizes k next image
between_some sizes k next image less s = record {
  number = s.number;
  least = omega (arith, less, s.least);
  most = s.most;
  stands = s.stands;
}

module _ {D : Type 0} (view : View D) where
  -- nothing was done
  pub still : (k : Machine) (s : Session D) → SessionMatches k s → MayProgress view k s s k
  still k s matches = record { matches = matches; no_less = omega arith; moments = inl refl }

  -- a command was stored, or not
  module _ (k next : Machine) (old new : Session D) (change : Change ClassFile)
      (ready : IsReady k) (matches : SessionMatches next new) where
    abbrev sizes : Sizes
    sizes = old.committer.sizes

    abbrev Leaves : (List ℕ → Type 0) → Type 0
    Leaves = LeavesOnly view old.committer.disk new.committer.disk

    -- what was handed out acknowledges nothing yet
    handed_ack : (number : ℕ) (handed : Machine) → Hands sizes k change Leaves number handed
        → handed.acknowledged ≡ k.acknowledged
    handed_ack number handed h =
        ap (λ (m : Machine). m.acknowledged) h.handed_is
        ∙ ap (λ (m : Machine). m.acknowledged) h.answers.1.next_is

    handed_leaves : (number : ℕ) (handed : Machine) → Hands sizes k change Leaves number handed
        → ((image : List ℕ) → StandsBetween sizes k handed image → StandsBetween sizes k next image)
        → Leaves (StandsBetween sizes k next)
    handed_leaves number handed h more =
        let same = handed_ack number handed h in
        leaves_more view old.committer.disk new.committer.disk
        (StandsForSome sizes handed) (StandsBetween sizes k next)
        (λ image s. more image (between_some sizes k handed image (omega (arith, same)) s))
        h.moments

    pub stored_goes_on : (stored : Result ℕ NotStored) → Stores sizes k change Leaves stored next
        → (MakesNoCall stored → new.committer ≡ old.committer)
        → MayProgress view k old new next
    stored_goes_on (Ok number) s none =
        let number_is = s.1.answers.1.number_is in
        let before = ready.rest.stored ready.works in
        let acknowledged = ap (λ (m : Machine). m.acknowledged) s.2 in
        record {
          matches = matches;
          no_less = omega (arith, number_is, before, acknowledged);
          moments = inr (handed_leaves number s.0 s.1 (λ image b.
              subst (λ m. StandsBetween sizes k m image) (sym s.2)
              (between_kept sizes k s.0 number s.0.failed s.0.noticed image b)));
        }
    stored_goes_on (Err (Refused r)) s none =
        let same = ap (λ (m : Machine). m.acknowledged) s.0.0 in
        record {
          matches = matches;
          no_less = omega (arith, same);
          moments = inl (ap (λ (c : CommitterState D). c.disk) (none tt));
        }
    stored_goes_on (Err (Unsure number)) s none =
        let same = ap (λ (m : Machine). m.acknowledged) s.2 ∙ handed_ack number s.0 s.1 in
        record {
          matches = matches;
          no_less = omega (arith, same);
          moments = inr (handed_leaves number s.0 s.1 (λ image b.
              subst (λ m. StandsBetween sizes k m image) (sym s.2)
              (between_kept sizes k s.0 s.0.acknowledged true true image b)));
        }

  -- from what a crash leaves now follows what it leaves at each moment meanwhile
  pub moments_of : OnlyNow view
      → (k next : Machine) (old new : Session D)
      → EachImage (view.contents new.committer.disk) (view.unsynced new.committer.disk)
      (StandsForSome old.committer.sizes next)
      → MayProgress view k old new next
      → LeavesOnly view old.committer.disk new.committer.disk
      (StandsBetween old.committer.sizes k next)
  moments_of only_now k next old new images g = by g.moments
    where
      sizes : Sizes
      sizes = old.committer.sizes

      by : ((new.committer.disk ≡ old.committer.disk)
          ⊎ LeavesOnly view old.committer.disk new.committer.disk
          (StandsBetween sizes k next))
          → LeavesOnly view old.committer.disk new.committer.disk
          (StandsBetween sizes k next)
      by (inl same) =
          subst (λ (d : D). LeavesOnly view d new.committer.disk
          (StandsBetween sizes k next)) same
          (leaves_none view only_now new.committer.disk
          (StandsBetween sizes k next)
          (record {
            each = λ image is. between_some sizes k next image g.no_less
                (images.each image is);
          }))
      by (inr leaves) = leaves

  -- between two lines
  pub rests : OnlyNow view
      → (k : Machine) (s : Session D)
      → EachImage (view.contents s.committer.disk) (view.unsynced s.committer.disk)
      (StandsForSome s.committer.sizes k)
      → SessionMatches k s
      → LeavesOnly view s.committer.disk s.committer.disk
      (StandsBetween s.committer.sizes k k)
  rests only_now k s images matches =
      moments_of only_now k k s s images (still k s matches)
