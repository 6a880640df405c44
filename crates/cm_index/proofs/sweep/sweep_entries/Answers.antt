use Rattle.std.proofs.Common.{◌<◌, length}
use Rattle.cm_index.specs.declared.index.IndexEntry.{IndexEntry}
use Rattle.cm_index.specs.Index.{leads_to_life}
use Rattle.cm_index.proofs.Sweeping.{all-kept}
use Rattle.cm_index.proofs.sweep.sweep_entries.Goals as goal

pub move_up-requires : goal.move_up-requires
move_up-requires g c =
    rw (c.keep_living.ensures.index)
    (all-kept (leads_to_life c.args.slots.now)
    (λ (e : IndexEntry). e.at < length c.args.places.now) c.args.entries.now.items c.requires)
