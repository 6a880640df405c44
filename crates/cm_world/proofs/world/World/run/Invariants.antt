use Rattle.std.proofs.Common.{length, ◌≤◌, vec_capacity}
use Rattle.cm_world.specs.Runs.{HasRun}
use Rattle.cm_world.proofs.world.World.run.Given as goal

abbrev pub invariant-loop-event : goal.invariant-loop-event
invariant-loop-event l =
    HasRun l.fn.geometry l.yielded l.replies.items l.world
    × (length l.fn.events.items ≤ vec_capacity l.replies)
