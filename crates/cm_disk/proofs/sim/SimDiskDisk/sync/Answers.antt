use Rattle.std.proofs.Common.{rules, refl, ap, ◌∙◌, ◌∷◌}
use Rattle.cm_disk.specs.declared.sim.SimDisk.{SimDisk}
use Rattle.cm_disk.specs.Medium.{moment_of, medium_unsynced}
use Rattle.cm_disk.proofs.Elapsed.{elapses_sync}
use Rattle.cm_disk.proofs.sim.SimDiskDisk.sync.Goals as goal

pub returns-clause-syncs : goal.returns-clause-syncs
returns-clause-syncs c =
    let old = c.args.self.now.medium in
    let rest = c.begin_call.ensures.rest in
    record {
      durable = search rules;
      not_durable = search rules;
      same = search rules;
      time = elapses_sync old.bytes.items c.make_durable.new.self.bytes.items (medium_unsynced old)
          (medium_unsynced c.make_durable.new.self)
          c.args.self.now.history.moments c.note-2.new.self.moments (moment_of old)
          (c.note-2.ensures ∙ ap (λ (d : SimDisk). moment_of d.medium ∷ d.history.moments) rest)
          refl refl
          (c.make_durable.ensures.bytes
          ∙ ap (λ (d : SimDisk). d.medium.bytes.items) rest) (search rules);
      cause = search rules;
    }
