-- What crates above may cite of these proofs is what `pub use` passes on; all else is private.
mod Kept
mod Gated
mod Planned
mod Left
mod Held
mod Steps
mod Going
-- One byte is written when everything is durable: each image has some byte there, and nothing else
-- new.
pub use Gated.{durable_images, turned, gate_written, contents_are_image}
-- Writes that are left: what remains of the plan after one of them, and what all of them leave.
pub use Planned.{overwritten_size, kept_by_plan}
-- What a crash leaves at the moments inside runs of calls.
pub use Left.{one_call, leaves_none, leaves_on, leaves_more, no_read, one_read, reads_on}
pub use Left.{reads_as}
pub use Left.{reading}
-- What one device call leaves at each moment, and what the disk holds after it: one line for each
-- step of a writer over any disk.
pub use Steps.{gate_leaves, gate_images, images_synced, run_then_sync, writing, cutting, syncing}
pub use Steps.{gating}
pub use Steps.{settling}
pub use Steps.{turning}
-- Stages: what holds between two calls, what one call does, and what a crash leaves.
pub use Going.{ready_stands, takes_call, stages_leave, call_done, call_failed, call_moments}
pub use Going.{call_cause, calls_left-append, gone_through-append, one_call_less, leaves_so}
pub use Going.{leaves_one, ready_less}
