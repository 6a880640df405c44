use Rattle.std.proofs.Common.{◌∙◌, ap, subst, ◌≡◌, ◌≤◌, ◌+◌, ◌++◌, ◌∷◌, [], List, ℕ, length, arith}
use Rattle.cm_disk.specs.Calls.{IsTorn}
use Rattle.cm_disk.specs.Medium.{moment_of, medium_unsynced}
use Rattle.cm_disk.proofs.Elapsed.{elapses_write, wider, narrow}
use Rattle.cm_disk.proofs.Images.{torn_write}
use Rattle.cm_disk.proofs.sim.SimDisk.store.Goals as goal

pub returns-clause-time : goal.returns-clause-time
returns-clause-time c =
    let old = c.args.self.now.medium in
    let opened = c.begin_write.new.self in
    let new = c.write.new.self in
    let at = c.args.at in
    let n = c.args.count in
    let within : at ≤ length opened.bytes.items =
    omega (arith, c.requires.starts_within, ap length c.begin_write.ensures.bytes) in
    let torn : IsTorn at n old.bytes.items new.bytes.items =
    subst (λ (xs : List ℕ). IsTorn at n xs new.bytes.items) c.begin_write.ensures.bytes
    (torn_write c.write.result at n c.args.stored.now opened.bytes.items new.bytes.items within
    c.requires.part c.write.ensures.ok c.write.ensures.err) in
    let ranges : new.ranges.items ≡ old.ranges.items ++ record { start = at; end = at + n } ∷ [] =
    c.write.ensures.ranges ∙ c.in_ok-begin_write.ensures.ranges in
    elapses_write at n old.bytes.items new.bytes.items (medium_unsynced old) (medium_unsynced new)
    c.args.self.now.history.moments c.note.new.self.moments (moment_of opened) c.note.ensures
    c.begin_write.ensures.bytes
    (wider old.ranges.items opened.ranges.items old.least opened.least old.greatest opened.greatest
    at n c.in_ok-begin_write.ensures.ranges c.begin_write.ensures.least
    c.in_ok-begin_write.ensures.greatest)
    (narrow old.ranges.items opened.ranges.items old.least opened.least old.greatest opened.greatest
    at n c.in_ok-begin_write.ensures.ranges c.begin_write.ensures.least
    c.in_ok-begin_write.ensures.greatest)
    torn
    (narrow old.ranges.items new.ranges.items old.least new.least old.greatest new.greatest at n
    ranges (c.write.ensures.least ∙ c.begin_write.ensures.least)
    (c.write.ensures.greatest ∙ c.in_ok-begin_write.ensures.greatest))
