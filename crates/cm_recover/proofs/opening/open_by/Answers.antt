use Rattle.std.proofs.Common.{◌≡◌, refl, ap, rules}
use Rattle.cm_guards.proofs.{contents_are_image}
use Rattle.cm_commit.specs.States.{CommitterState}
use Rattle.cm_verdict.specs.declared.fault.OpenFault.TheVariants as open_fault
use Rattle.cm_recover.proofs.Opened.{front_rows, front_right, front_last, opens, same_shown}
use Rattle.cm_recover.proofs.Opened.{sizes_told, journal_same}
use Rattle.cm_recover.proofs.MovedOver.{then_through}
use Rattle.cm_verdict.proofs.{ok_no_fault}
use Rattle.cm_recover.proofs.opening.open_by.Goals as goal

pub restore-requires-clause-rows : goal.restore-requires-clause-rows
restore-requires-clause-rows g c =
    front_rows c.found_is_live.ensures c.found_is_framed.ensures.framed
    c.verdict_is_exact.ensures.stands c.words_tell_name.ensures c.others_are_told.ensures
    (g.D.Disk.view.contents c.args.disk) c.in-Ok.file c.in-Ok.ensures.standing

pub restore-requires-clause-right : goal.restore-requires-clause-right
restore-requires-clause-right g c =
    front_right c.found_is_live.ensures c.found_is_framed.ensures.framed
    c.verdict_is_exact.ensures.stands c.words_tell_name.ensures c.others_are_told.ensures
    (g.D.Disk.view.contents c.args.disk) c.in-Ok.file c.in-Ok.ensures.standing

pub restore-requires-clause-last : goal.restore-requires-clause-last
restore-requires-clause-last g c =
    front_last c.found_is_live.ensures c.found_is_framed.ensures.framed
    c.verdict_is_exact.ensures.stands c.words_tell_name.ensures c.others_are_told.ensures
    (g.D.Disk.view.contents c.args.disk) c.in-Ok.file c.in-Ok.ensures.standing

pub new-requires-clause-sizes : goal.new-requires-clause-sizes
new-requires-clause-sizes g c =
    let view = g.D.Disk.view in
    sizes_told c.found_is_live.ensures c.found_is_framed.ensures.framed
    c.verdict_is_exact.ensures.stands c.words_tell_name.ensures c.others_are_told.ensures
    (view.contents c.args.disk) c.in-Ok.file c.in-Ok.ensures.standing
    c.in-Ok-upgrade.journal
    (journal_same (view.contents c.read_synced.new.disk) (view.contents c.args.disk)
    c.in-Ok.ensures.run.contents_stay c.in-Ok.file c.in-Ok.ensures.standing
    c.in-Ok-upgrade.journal c.in-Ok-upgrade.ensures.journal)

pub new-requires-clause-held : goal.new-requires-clause-held
new-requires-clause-held g c = c.in-Ok-upgrade.ensures.held

pub returns-in-Err : goal.returns-in-Err
returns-in-Err g c = record {
  opened = tt;
  same = tt;
  newest = tt;
  stored = tt;
  fault = search rules;
  run = search rules;
}

pub returns-in-Err-upgrade : goal.returns-in-Err-upgrade
returns-in-Err-upgrade g c =
    let moved = c.in-Err-upgrade.ensures in
    record {
      opened = tt;
      same = tt;
      newest = tt;
      stored = tt;
      fault = search rules;
      run = then_through g.D.Disk.view c.args.disk c.read_synced.new.disk c.upgrade.new.disk
          c.upgrade.new.disk _ _ _ (ok_no_fault _ _ open_fault.Device refl) c.in-Ok.ensures.run
          moved.no_call moved.images moved.cause refl (λ e. cc) (λ e. cc);
    }

pub returns-in_default : goal.returns-in_default
returns-in_default g c =
    let moved = c.in-Ok-upgrade.ensures in
    record {
      opened = tt;
      same = tt;
      newest = tt;
      stored = tt;
      fault = search rules;
      run = then_through g.D.Disk.view c.args.disk c.read_synced.new.disk c.upgrade.new.disk
          c.upgrade.new.disk _ _ _ (ok_no_fault _ _ open_fault.Device refl) c.in-Ok.ensures.run
          moved.no_call moved.images moved.cause refl (λ e. absurd (cc)) (λ e. absurd (cc));
    }

pub returns-in-Err-new : goal.returns-in-Err-new
returns-in-Err-new g c =
    let moved = c.in-Ok-upgrade.ensures in
    record {
      opened = tt;
      same = tt;
      newest = tt;
      stored = tt;
      fault = search rules;
      run = then_through g.D.Disk.view c.args.disk c.read_synced.new.disk c.upgrade.new.disk
          c.in-Err-new.field-0.disk _ _ (open_fault.NoMemory ≡ open_fault.Device)
          (ok_no_fault _ _ open_fault.Device refl) c.in-Ok.ensures.run moved.no_call moved.images
          moved.cause c.in-Err-new.ensures.not_made (λ e. absurd (cc)) (λ e. absurd (cc));
    }

pub returns-in-Ok-new : goal.returns-in-Ok-new
returns-in-Ok-new g c =
    let view = g.D.Disk.view in
    let disk = c.in-Ok-new.committer.disk in
    let moved = c.in-Ok-upgrade.ensures in
    let itself = contents_are_image (view.contents disk) (view.unsynced disk)
    (g.met.D.Disk.sound disk) in
    let opened = opens c.found_is_live.ensures c.found_is_framed.ensures.framed
    c.verdict_is_exact.ensures.stands c.words_tell_name.ensures c.others_are_told.ensures
    (view.contents c.args.disk) c.in-Ok.file c.in-Ok.ensures.standing
    c.arenas_are_of_rows.ensures c.upgrade.new.disk c.in-Ok-restore.front c.in-Ok-new.committer
    c.in-Ok-upgrade.journal c.invariant_holds.ensures c.in-Ok-restore.ensures
    (journal_same (view.contents c.read_synced.new.disk) (view.contents c.args.disk)
    c.in-Ok.ensures.run.contents_stay c.in-Ok.file c.in-Ok.ensures.standing
    c.in-Ok-upgrade.journal c.in-Ok-upgrade.ensures.journal)
    c.in-Ok-new.ensures.made in
    record {
      opened = opened;
      same = same_shown (view.contents c.args.disk) c.in-Ok-restore.front c.in-Ok-new.committer
          opened (view.contents disk) (c.images.ensures.each (view.contents disk) itself);
      newest = c.versions.ensures.each (view.contents disk) itself;
      stored = search rules;
      fault = tt;
      run = then_through g.D.Disk.view c.args.disk c.read_synced.new.disk c.upgrade.new.disk
          c.in-Ok-new.committer.disk _ _ ⊥ (ok_no_fault _ _ open_fault.Device refl)
          c.in-Ok.ensures.run moved.no_call moved.images moved.cause
          (ap (λ (s : CommitterState _). s.disk) c.in-Ok-new.ensures.made) (λ e. absurd (cc))
          (λ e. absurd e);
    }
