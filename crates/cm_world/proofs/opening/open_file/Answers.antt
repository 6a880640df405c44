use Rattle.std.proofs.Common.{◌≡◌, sym, ap, subst, ◌∙◌}
use Rattle.cm_disk.specs.declared.sim.SimDisk.{SimDisk}
use Rattle.cm_disk.specs.Disk.{IsImage, IsDurable}
use Rattle.cm_disk.specs.Sim.{sim_view, sim_contents, sim_unsynced, sim_armed}
use Rattle.cm_guards.specs.Calls.{LeavesOnly}
use Rattle.cm_commit.specs.States.{CommitterState}
use Rattle.cm_commands.specs.Machine.{Machine}
use Rattle.cm_world.specs.declared.world.World.{World}
use Rattle.cm_world.specs.declared.reply.Reply.TheVariants as reply
use Rattle.cm_world.proofs.Moved.{Shows}
use Rattle.cm_world.proofs.opening.open_file.Goals as goal

pub returns-in-Ok-clause-opened : goal.returns-in-Ok-clause-opened
returns-in-Ok-clause-opened c =
    λ sizes before some newest.
    let o = c.in-Ok.ensures.opened sizes before.machine some in
    let run = c.in-Ok.ensures.run.reads_alone
    (c.newest_is_not_older.ensures (sim_contents c.args.disk) newest) in
    let d = c.in-Ok.session.committer.disk in
    let now = c.disarm.new.self in
    let disk = c.args.disk in
    let same = sym c.disarm.ensures.disk in
    let w : World = record { alloc = c.args.alloc; session = now } in
    let matches = c.disarm.ensures.machine o.reaches.next o.reaches.matches in
    let sizes_are = subst (λ (z : CommitterState SimDisk). z.sizes ≡ sizes) same o.sizes_are in
    record {
      next = o.reaches.next;
      opens = record {
        reopens = o.reaches.does;
        reply_is = ap reply.Opened (c.number.ensures
            ∙ (sym matches.told.acknowledged_is
            ∙ ap (λ (k : Machine). k.acknowledged) o.reaches.does.reopens.next_is));
        contents_stay = subst (λ (z : CommitterState SimDisk).
            sim_contents z.disk ≡ sim_contents disk) same run.contents_stay;
        stored = subst (λ (z : CommitterState SimDisk).
            IsDurable (sim_contents z.disk) (sim_unsynced z.disk)) same o.durable;
        disarmed = ap (λ (z : CommitterState SimDisk). sim_armed z.disk) c.disarm.ensures.disk;
        idle = ap (λ (z : CommitterState SimDisk). z.underway) c.disarm.ensures.disk
            ∙ c.in-Ok.ensures.idle;
      };
      moments = subst (λ (z : CommitterState SimDisk). LeavesOnly sim_view disk
          z.disk (IsImage (sim_contents disk) (sim_unsynced disk))) same
          (let before = run.images in
          record { later = before.later; each = before.each; before = before.before });
      images = subst (λ z. Shows z o.reaches.next w) sizes_are
          (c.images.ensures o.reaches.next matches);
      matches = matches;
      sizes_are = sizes_are;
    }
