use Rattle.std.proofs.Common.{rules, ap, ◌∙◌, ◌∷◌}
use Rattle.cm_disk.specs.declared.sim.SimDisk.{SimDisk}
use Rattle.cm_disk.specs.Medium.{moment_of, medium_unsynced}
use Rattle.cm_disk.proofs.Elapsed.{elapses_cut}
use Rattle.cm_disk.proofs.Images.{uncut}
use Rattle.cm_disk.proofs.sim.SimDiskDisk.cut.Goals as goal

pub returns-clause-cuts : goal.returns-clause-cuts
returns-clause-cuts c =
    let old = c.args.self.now.medium in
    let rest = c.begin_call-armed.ensures.rest in
    record {
      cut = search rules;
      between = search rules;
      shortens = search rules;
      time = elapses_cut c.args.len old.bytes.items c.cut.new.self.bytes.items (medium_unsynced old)
          (medium_unsynced c.cut.new.self)
          c.args.self.now.history.moments c.note.new.self.moments (moment_of c.begin_cut.new.self)
          (c.note.ensures
          ∙ ap (λ (d : SimDisk). moment_of c.begin_cut.new.self ∷ d.history.moments) rest)
          (c.begin_cut.ensures.bytes ∙ ap (λ (d : SimDisk). d.medium.bytes.items) rest)
          (search rules) (search rules) (search rules) (search rules);
      cause = search rules;
    }

-- the call fails: the length may be less from now on, but isn't
pub returns-then-is_some-clause-cuts : goal.returns-then-is_some-clause-cuts
returns-then-is_some-clause-cuts c =
    let old = c.args.self.now.medium in
    let rest = c.begin_call-armed.ensures.rest in
    let bytes = c.begin_cut.ensures.bytes ∙ ap (λ (d : SimDisk). d.medium.bytes.items) rest in
    let whole = uncut c.args.len old.bytes.items c.begin_cut.new.self.bytes.items c.requires bytes
    in
    record {
      cut = search rules;
      between = whole;
      shortens = search rules;
      time = elapses_cut c.args.len old.bytes.items c.begin_cut.new.self.bytes.items
          (medium_unsynced old) (medium_unsynced c.begin_cut.new.self)
          c.args.self.now.history.moments c.note.new.self.moments (moment_of c.begin_cut.new.self)
          (c.note.ensures
          ∙ ap (λ (d : SimDisk). moment_of c.begin_cut.new.self ∷ d.history.moments) rest)
          bytes
          (search rules) (search rules)
          whole
          (search rules);
      cause = search rules;
    }
