-- What is under way, and what a trim leaves.
-- For `World::advance`, `World::trim`.
use Rattle.std.proofs.Common.{◌≡◌, ℕ, List, Option, Some, None, Result, Ok, Err, Bool, true}
use Rattle.std.proofs.Common.{false, inl, inr, refl, sym, ap, subst, ◌∙◌}
use Rattle.std.specs.Prelude.{◌⊎◌}
use Rattle.cm_disk.specs.declared.sim.SimDisk.{SimDisk}
use Rattle.cm_disk.specs.Sim.{sim_view, sim_contents}
use Rattle.cm_group.specs.Groups.{Handed}
use Rattle.cm_commit.specs.declared.progress.NotIdle.{NotIdle}
use Rattle.cm_commit.specs.declared.progress.Progress.{Progress}
use Rattle.cm_commit.specs.declared.progress.Progress.TheVariants.{Idle, Working, Done, Trimmed}
use Rattle.cm_commit.specs.declared.progress.AdvanceFault.{AdvanceFault}
use Rattle.cm_commit.specs.declared.progress.AdvanceFault.TheVariants.{Device, Broken}
use Rattle.cm_commit.specs.Advances.{Advances}
use Rattle.cm_commit.specs.States.{Work, Storing, Trimming, CommitterState, NoGroup, ShowsCommitted}
use Rattle.cm_commit.specs.States.{BeginsTrim}
use Rattle.cm_commit.specs.Trims.{roots_of_rows}
use Rattle.cm_commands.specs.Machine.{Machine}
use Rattle.cm_session.specs.Session.{IsBusyWith}
use Rattle.cm_session.specs.Moves.{Steps}
use Rattle.cm_session.proofs.{none_under}
use Rattle.cm_world.specs.Steps.{State, UsesRoots, TellsRoots, StoresGroup, Ends, WorksOn, Trims}

-- ---- a step

ends : (begun new : CommitterState SimDisk) → IsBusyWith new.underway new.left
    → (result : Result Progress AdvanceFault) → Advances begun result new
    → Ends begun.underway result new.underway
ends begun new busy (Ok Idle) r =
    let same = ap (λ (c : CommitterState SimDisk). c.underway) r.stays in
    let none = none_under new.underway new.left busy
    (ap (λ (c : CommitterState SimDisk). c.left) r.stays ∙ r.none) in
    (sym same ∙ none, none)
ends begun new busy (Ok Working) w = ap (λ (c : CommitterState SimDisk). c.underway) w.new_is
ends begun new busy (Ok (Done receipt)) f = (
  subst StoresGroup (sym f.underway) tt,
  ap (λ (c : CommitterState SimDisk). c.underway) f.new_is,
)
ends begun new busy (Ok (Trimmed roots)) t = (
  t.underway,
  ap (λ (c : CommitterState SimDisk). c.underway) t.new_is,
)
ends begun new busy (Err Device) b = ap (λ (c : CommitterState SimDisk). c.underway) b.new_is
ends begun new busy (Err Broken) s = ap (λ (c : CommitterState SimDisk). c.underway) s.stays

stores_no_trim : (u : Option Work) → StoresGroup u → u ≡ Some Trimming → ⊥
stores_no_trim None stores same = stores
stores_no_trim (Some Trimming) stores same = stores
stores_no_trim (Some (Storing group)) stores same = cc

module _ (waiting : List Handed) (old new : CommitterState SimDisk)
    (result : Result Progress AdvanceFault) (s : Steps sim_view waiting old result new) where
  took : (s.begun.underway ≡ old.underway)
      ⊎ ((old.underway ≡ None) × StoresGroup s.begun.underway)
  took =
      elim s.takes [
        | inl same ↦ inl (ap (λ (c : CommitterState SimDisk). c.underway) same)
        | inr taken ↦ inr (
          taken.0,
          subst StoresGroup
              (sym (ap (λ (c : CommitterState SimDisk). c.underway) taken.3.0)) tt,
        )
      ]

  pub works_on : IsBusyWith new.underway new.left → WorksOn old.underway result new.underway
  works_on busy = record {
    begun = s.begun.underway;
    takes = took;
    ends = ends s.begun new busy result s.moved;
  }

  module _ (committed : NoGroup old.underway → ShowsCommitted old (sim_contents old.disk)) where
    used : s.begun.underway ≡ Some Trimming
        → UsesRoots old.sizes (sim_contents old.disk) (roots_of_rows s.begun.rows)
    used trimming =
        elim s.takes [
          | inl same ↦
              let before = sym (ap (λ (c : CommitterState SimDisk). c.underway) same) ∙ trimming in
              record {
                rows = old.rows;
                number = old.number;
                shows = committed (subst NoGroup (sym before) tt);
                roots_are = ap (λ (c : CommitterState SimDisk). roots_of_rows c.rows) same;
              }
          | inr taken ↦ absurd (stores_no_trim s.begun.underway
              (subst StoresGroup
              (sym (ap (λ (c : CommitterState SimDisk). c.underway) taken.3.0)) tt) trimming)
        ]

    told : (r : Result Progress AdvanceFault) → Advances s.begun r new
        → TellsRoots old.sizes (sim_contents old.disk) r
    told (Ok Idle) r = tt
    told (Ok Working) w = tt
    told (Ok (Done receipt)) f = tt
    told (Ok (Trimmed roots)) t =
        subst (UsesRoots old.sizes (sim_contents old.disk)) (sym t.told) (used t.underway)
    told (Err Device) b = tt
    told (Err Broken) s = tt

    pub tells_roots : TellsRoots old.sizes (sim_contents old.disk) result
    tells_roots = told result s.moved

-- ---- a trim is requested

module _ (k : Machine) (old new : CommitterState SimDisk) (failed_is : k.failed ≡ old.broken)
    (committed : NoGroup old.underway → ShowsCommitted old (sim_contents old.disk)) where
  uses : old.underway ≡ None
      → UsesRoots old.sizes (sim_contents old.disk) (roots_of_rows old.rows)
  uses idle = record {
    rows = old.rows;
    number = old.number;
    shows = committed (subst NoGroup (sym idle) tt);
    roots_are = refl;
  }

  pub trims : (result : Result Bool NotIdle) → BeginsTrim sim_view old result new
      → Trims old.sizes (record { disk = old.disk; machine = k; underway = old.underway }) result
      (record { disk = new.disk; machine = k; underway = new.underway })
  trims (Ok true) b = (
    record { sound = failed_is ∙ b.0.sound; idle = b.0.idle },
    roots_of_rows old.rows,
    uses b.0.idle,
    b.1,
    ap (λ (c : CommitterState SimDisk).
        record { disk = c.disk; machine = k; underway = c.underway }) b.2,
  )
  trims (Ok false) b = (
    record { sound = failed_is ∙ b.0.sound; idle = b.0.idle },
    roots_of_rows old.rows,
    uses b.0.idle,
    b.1,
    ap (λ (c : CommitterState SimDisk).
        record { disk = c.disk; machine = k; underway = c.underway }) b.2
        ∙ ap (λ (u : Option Work). record { disk = old.disk; machine = k; underway = u }) b.0.idle,
  )
  trims (Err e) b = (
    λ idle. b.0 (record { sound = sym failed_is ∙ idle.sound; idle = idle.idle }),
    ap (λ (c : CommitterState SimDisk).
        record { disk = c.disk; machine = k; underway = c.underway }) b.1,
  )
