-- What a crash leaves if an event touches nothing.
-- For `World::arm`, `World::reopen`.
use Rattle.std.proofs.Common.{◌≡◌, ℕ, List, Option, inl, refl, sym, subst, arith}
use Rattle.cm_disk.specs.declared.sim.SimDisk.{SimDisk}
use Rattle.cm_disk.specs.Disk.{IsImage}
use Rattle.cm_disk.specs.Moments.{none_since_now}
use Rattle.cm_disk.specs.Sim.{sim_view, sim_contents, sim_unsynced}
use Rattle.cm_guards.specs.Calls.{LeavesOnly}
use Rattle.cm_guards.specs.Guards.{EachImage}

-- the images are the same, whatever is armed
pub unmoved : (disk : SimDisk) (armed : Option ℕ) (P : List ℕ → Type 0)
    → EachImage (sim_contents disk) (sim_unsynced disk) P
    → LeavesOnly sim_view disk (record disk { armed = armed }) P
unmoved disk armed P images = record {
  later = omega arith;
  each = λ image left.
      images.each image (none_since_now disk.history.moments image left);
  before = λ t image le left. inl left;
}

pub still : (old new : SimDisk) (P : List ℕ → Type 0) → new ≡ old
    → EachImage (sim_contents old) (sim_unsynced old) P
    → LeavesOnly sim_view old new P
still old new P same images =
    subst (λ d. LeavesOnly sim_view old d P) (sym same)
    (unmoved old old.armed P images)

-- what a disk holds is one of its images
pub now_left : (disk : SimDisk)
    → IsImage (sim_contents disk) (sim_unsynced disk) (sim_contents disk)
now_left disk =
    let sound = disk.medium.sound in
    record {
      no_shorter = sound.least;
      no_longer = sound.greatest;
      bytes = sound.bytes;
      same = λ i inside shut. refl;
    }
