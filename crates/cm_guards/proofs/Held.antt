-- The laws.
-- For `cuts_behind_keep_a_claim`, `gates_turn_claims`, `guarded_claim_holds_of_each_image` and
-- others.
use Rattle.std.proofs.Common.{ℕ, List}
use Rattle.cm_disk.specs.Disk.{widened, shortened}
use Rattle.cm_guards.specs.Laws.{GuardedHolds, HoldsDuringWrites, HoldsAfterWrites}
use Rattle.cm_guards.specs.Laws.{HoldsDuringCuts, HoldsAfterCuts, DurableHolds, DurableKeeps}
use Rattle.cm_guards.specs.Laws.{PlansGoOn, PlansKeep}
use Rattle.cm_guards.specs.Laws.{TurnsDuring, TurnsAfter, TurnsContents}
use Rattle.cm_guards.proofs.Kept.{guarded_images, keeps_during, keeps_write, write_agrees}
use Rattle.cm_guards.proofs.Kept.{keeps_shortened, keeps_cut, cut_agrees, keeps_durable}
use Rattle.cm_guards.proofs.Planned.{plan_goes_on, written_goes_on, kept_by_plan}
use Rattle.cm_guards.proofs.Gated.{durable_images, turned_during, turned_after, turned}

module _ (P : List ℕ → Type 0) where
  pub guarded_holds : GuardedHolds P
  guarded_holds g contents unsynced guards keeps holds =
      guarded_images g P contents unsynced guards keeps holds

  pub holds_during_writes : HoldsDuringWrites P
  holds_during_writes g at n contents unsynced guards keeps apart holds =
      guarded_images g P contents (widened at n unsynced) guards
      (keeps_during g at n contents unsynced apart keeps) holds

  pub holds_after_writes : HoldsAfterWrites P
  holds_after_writes g at n old new before after guards keeps apart holds torn within = record {
    keeps = keeps_write g at n old new before after apart torn within keeps;
    holds = guards.carries old new keeps.long (write_agrees g at n old new keeps.long apart torn)
        holds;
  }

  pub holds_during_cuts : HoldsDuringCuts P
  holds_during_cuts g len contents unsynced guards keeps behind holds =
      guarded_images g P contents (shortened len unsynced) guards
      (keeps_shortened g len contents unsynced behind keeps) holds

  pub holds_after_cuts : HoldsAfterCuts P
  holds_after_cuts g len old new before after guards keeps behind holds cut within = record {
    keeps = keeps_cut g len old new before after behind cut within keeps;
    holds = guards.carries old new keeps.long (cut_agrees g len old new keeps.ends behind cut)
        holds;
  }

  pub durable_holds : DurableHolds P
  durable_holds contents unsynced durable holds =
      durable_images P contents unsynced durable holds

  pub plans_keep : PlansKeep P
  plans_keep g writes contents guards long can holds =
      kept_by_plan g P writes contents guards long can holds

pub durable_keeps : DurableKeeps
durable_keeps g contents unsynced ends long durable =
    keeps_durable g contents unsynced ends long durable

pub plans_go_on : PlansGoOn
plans_go_on g w writes old new can e = record {
  can = plan_goes_on g w writes old new can e;
  same = written_goes_on w writes old new e;
}

module _ (P Q : List ℕ → Type 0) where
  pub turns_during : TurnsDuring P Q
  turns_during gate byte base unsynced turns durable =
      turned_during P Q gate byte base unsynced turns durable

  pub turns_after : TurnsAfter P Q
  turns_after gate byte base now before after turns durable torn within =
      turned_after P Q gate byte base now before after turns durable torn within

  pub turns_contents : TurnsContents P Q
  turns_contents gate byte base now turns e = turned P Q gate byte base now turns e
