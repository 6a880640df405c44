-- What a cache is started with.
use Rattle.std.specs.Prelude.{◌≡◌, ℕ, false, [], None}
use Rattle.atomic_table.specs.Seated.{TableId}
use Rattle.crossbeam_channel.specs.Ends.{sends_on}
use Rattle.cm_front.specs.Front.{FrontState}
use Rattle.cm_commit.specs.States.{CommitterState}
use Rattle.cm_cache.specs.declared.channel.Base.{Base}
use Rattle.cm_cache.specs.declared.new_cache.NewCache.{NewCache}
use Rattle.cm_cache.specs.Channel.{ChannelId, channel_of}
use Rattle.cm_cache.specs.Handing.{IsFresh}
use Rattle.cm_cache.specs.Shared.{most_passes}
use Rattle.cm_cache.specs.Flushing.{HasCommitted}

-- channel, Board, ledger and number of passes are those that the cache is named by
pub record Belongs (base : Base) (channel : ChannelId) (board : TableId) (name parts passes : ℕ)
    (new : NewCache) : Type 0 where
  pub channel_is : channel_of (sends_on new.channel.sender) ≡ channel
  pub board_is : new.board.table.shared.table_id ≡ board
  pub number_is : new.board.number ≡ base.number
  pub name_is : new.ledger.name ≡ name
  pub parts_is : parts ≡ most_passes
  pub passes_is : new.passes ≡ passes

-- the accepted cache and the committer of what was opened, as they are at the start, with the count
-- of the disk's failures
pub record MayStart {D : Type 0} (base : Base) (failed : ℕ) (failures : D → ℕ) (front : FrontState)
    (committer : CommitterState D) : Type 0 where
  pub fresh : IsFresh base front
  pub at : HasCommitted base [] committer
  pub sound : committer.broken ≡ false
  pub idle : committer.underway ≡ None
  pub failed_is : failed ≡ failures committer.disk

-- what is opened with a committer
abbrev pub base_of : {D : Type 0} → CommitterState D → Base
base_of committer =
    record { sizes = committer.sizes; rows = committer.rows; number = committer.number }
