-- A file that is opened.
-- For `World::crash`, `World::new`, `World::reopen`.
use Rattle.std.proofs.Common.{◌≡◌, ℕ, List, [], Result, Ok, Err, refl, sym, ap, subst, ◌∙◌, arith}
use Rattle.std.proofs.Common.{false, None}
use Rattle.std.specs.Prelude.{IfOk, ◌↔◌}
use Rattle.std.specs.FinMap as map
use Rattle.cm_pool.specs.Geometry.{Sizes}
use Rattle.cm_disk.specs.declared.sim.SimDisk.{SimDisk}
use Rattle.cm_disk.specs.Disk.{Unsynced, IsImage, IsBytes, IsDurable}
use Rattle.cm_disk.specs.Sim.{sim_view, sim_contents, sim_unsynced, IsFresh}
use Rattle.cm_recover.specs.NewFile.{new_bytes, IsEmptyCache}
use Rattle.cm_commands.specs.Machine.{Machine, empty_machine, commands_to}
use Rattle.cm_session.specs.Images.{StandsForSome}
use Rattle.cm_session.proofs.{leaves_so}
use Rattle.cm_world.specs.declared.event.Event.{Event}
use Rattle.cm_world.specs.declared.reply.Reply.{Reply}
use Rattle.cm_world.specs.declared.world.World.{World}
use Rattle.cm_world.specs.Steps.{BeginsWith, Does, OpenedAgain}
use Rattle.cm_world.specs.Runs.{IsBegun}
use Rattle.cm_world.specs.Moves.{state, EventMoves, MovesTo}

pub map_ok : {A E : Type 0} {P Q : A → Type 0} (r : Result A E) → ((x : A) → P x → Q x)
    → IfOk r P → IfOk r Q
map_ok (Ok x) f p = f x p
map_ok (Err e) f p = tt

-- the event opens the file that this disk holds
pub opened_moves : (k : Machine) (e : Event) (r : Reply) (old new : World) (begun : SimDisk)
    → BeginsWith e old.session.committer.disk begun
    → ((next : Machine)
    → OpenedAgain old.session.committer.sizes r begun (state old k) (state new next)
    → Does old.session.committer.sizes e r begun (state old k) (state new next))
    → ((image : List ℕ) → IsImage (sim_contents begun) (sim_unsynced begun) image
    → StandsForSome old.session.committer.sizes k image)
    → MovesTo old.session.committer.sizes k r begun (state old k) new → EventMoves k e r old new
opened_moves k e r old new begun begins does images m = record {
  next = m.next;
  step = record {
    begun = begun;
    begins = begins;
    does = does m.next m.opens;
    moments = leaves_so sim_view begun new.session.committer.disk
        (IsImage (sim_contents begun) (sim_unsynced begun))
        (StandsForSome old.session.committer.sizes k) images m.moments;
    images = m.images;
  };
  matches = m.matches;
  sizes_stay = m.sizes_are;
}

-- ---- a crash

-- a disk that nothing has happened to holds one image
pub one_image : ((contents image : List ℕ) (unsynced : Unsynced) → IsBytes contents
    → IsDurable contents unsynced → (IsImage contents unsynced image ↔ (image ≡ contents)))
    → (disk : SimDisk) → IsFresh disk → (P : List ℕ → Type 0) → P (sim_contents disk)
    → (image : List ℕ) → IsImage (sim_contents disk) (sim_unsynced disk) image → P image
one_image law disk fresh P p image is =
    subst P (sym ((law (sim_contents disk) image (sim_unsynced disk) disk.medium.sound.bytes
    fresh.durable).0 is)) p

-- ---- a new file

pub nothing_stands : (sizes : Sizes) (contents : List ℕ) → IsEmptyCache sizes contents
    → StandsForSome sizes empty_machine contents
nothing_stands sizes contents empty = record {
  number = 0;
  least = omega arith;
  most = omega arith;
  stands = record {
    from = omega arith;
    known = omega arith;
    state = map.empty;
    arenas = map.empty;
    stands = empty;
    holds = refl;
  };
}

pub begun : (sizes : Sizes) (r : Reply) (disk : SimDisk) (w : World)
    → sim_contents disk ≡ new_bytes sizes
    → MovesTo sizes empty_machine r disk
    (record { disk = disk; machine = empty_machine; underway = None }) w
    → IsBegun sizes w
begun sizes r disk w made m = record {
  first = state w m.next;
  new = record {
    contents = m.opens.contents_stay ∙ made;
    stored = m.opens.stored;
    images = m.images;
    disarmed = m.opens.disarmed;
    machine = m.opens.reopens.reopens.next_is ∙ (λ i. record {
      base = empty_machine.base;
      commands = none i;
      acknowledged = zero i;
      sealed = zero i;
      failed = false;
      noticed = false;
    });
    idle = m.opens.idle;
  };
  at = record { disk = refl; underway = refl; matches = m.matches };
  sizes_are = m.sizes_are;
}
  where
    number : ℕ
    number = m.opens.reopens.number

    zero : m.opens.reopens.number ≡ 0
    zero = let most = m.opens.reopens.reopens.most in omega (arith, most)

    none : commands_to m.opens.reopens.number empty_machine ≡ []
    none = ap (λ (n : ℕ). commands_to n empty_machine) zero
