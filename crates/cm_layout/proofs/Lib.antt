-- What crates above may cite of these proofs is what `pub use` passes on; all else is private.
mod LoaderSlots
mod OneSlot
mod Apart
mod OneReading
mod Superblocks
mod StayLive
mod OwnLoaders
mod Agreement
mod Matched
mod SlotCounts
mod OneHalf
mod Newest
mod BareRows
mod ClassPlaces
mod KeptOn
mod Padded
mod SlotsJoined
mod Numbers
mod Unloaded
mod EachClass
-- Chunks of rows that keep the rules share no word, except those with records of one loader on one
-- chunk.
pub use Apart.{entry-apart, rows_after_all-append}
-- Contents frame at most one thing: the sizes, the rows with their words, and the number. An entry
-- has 64 bytes for each slot that it takes, and takes at least one.
pub use OneReading.{slot_count, some_slots}
-- The slots of a loader: how many bytes they have, and that they determine its name. One slot is
-- enough for a name that fits into it.
pub use LoaderSlots.{loader_slot-count, rest_slot-count, loader_slots-count, name-back, not_long}
pub use LoaderSlots.{within-room}
-- A superblock is its front, zeros and a gate.
pub use Superblocks.{length-blank}
-- Rows after entries that keep the rules are live rows that keep theirs: what a checkpoint writes.
pub use StayLive.{class_keeps, live-append, numbers-moved, number-moved, entry-live, live_rows_stay}
pub use StayLive.{last-without}
-- Live rows that keep the rules: their loaders differ, have numbers of the past, and own each
-- class.
pub use OwnLoaders.{own_loaders}
-- Rows and entries that fit their slots are of the version that is written now.
pub use Newest.{newest-rows, newest-entries}
-- Contents that agree on what is guarded match the same framing.
pub use Agreement.{record_part, agreement_matches}
-- Contents frame rows exactly if they match a framing that is right for them.
pub use Matched.{matches_frame, matched_head}
-- Rows with nothing kept of a class have the same loaders, numbers, chunks and rules.
pub use BareRows.{bare-with, number-bare, name-bare, numbers-bare, classes-bare}
pub use BareRows.{differ-bare, more-bare, after-bare, rule-bare}
-- How many slots rows take: one or two each, whatever is kept of their classes.
pub use SlotCounts.{slots-name, rows-within, slots-within, slots-append, slots-push}
pub use SlotCounts.{slots-without, slots-moved, slots_of-with, slots-bare}
-- Where classes are: what the tests on chunks, on last chunks and on words in use say.
pub use ClassPlaces.{meets-true, classes_in-append, used-append, is_unused-apart}
pub use ClassPlaces.{apart-unused, last_chunk-among, is_last_chunk-among, begins_behind}
-- What is kept of the classes on one chunk, after each change of the rows.
pub use KeptOn.{kept-append, kept-with, kept-without, kept-elsewhere, kept-onto, none-kept}
pub use KeptOn.{unused-none, none-used, begins-at, moves-stand}
-- Loaders that are unloaded at once: each is live in its turn, and the others stay.
pub use Unloaded.{live-in-turn, name-without, name-gone}
-- What holds for all that is kept of classes, after each change of the rows.
pub use EachClass.{each-append, each-without, each-without-all, each-moved}
