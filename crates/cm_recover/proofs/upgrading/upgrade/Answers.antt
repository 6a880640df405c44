use Rattle.std.proofs.Common.{refl}
use Rattle.std.specs.Arc.{arc_value}
use Rattle.cm_guards.proofs.{leaves_none, leaves_more, durable_images}
use Rattle.cm_layout.specs.Laws.{IsFramed}
use Rattle.cm_layout.specs.Rows.{rows_with}
use Rattle.cm_layout.specs.Frames.{entry_version}
use Rattle.cm_recover.specs.Opened.{StandsForSame}
use Rattle.cm_recover.proofs.Opened.{held, version_now, may_renew, same_framed, framed_here}
use Rattle.cm_recover.proofs.upgrading.upgrade.Goals as goal

pub returns-then-file-ge-ENTRY_VERSION-clause-held :
    goal.returns-then-file-ge-ENTRY_VERSION-clause-held
returns-then-file-ge-ENTRY_VERSION-clause-held g c =
    let view = g.D.Disk.view in
    let now = view.contents c.args.disk.now in
    let file = c.args.file.now in
    let loose = view.unsynced c.args.disk.now in
    held c.found_is_live.ensures c.found_is_framed.ensures.framed
    c.verdict_is_exact.ensures.stands c.words_tell_name.ensures c.others_are_told.ensures now file
    c.requires.standing entry_version
    (version_now c.found_is_live.ensures c.found_is_framed.ensures.framed
    c.verdict_is_exact.ensures.stands c.words_tell_name.ensures c.others_are_told.ensures now file
    c.requires.standing c.if-file-ge-ENTRY_VERSION.true).0 now loose c.requires.stored refl

pub returns-then-file-ge-ENTRY_VERSION-clause-journal :
    goal.returns-then-file-ge-ENTRY_VERSION-clause-journal
returns-then-file-ge-ENTRY_VERSION-clause-journal g c =
    λ t.
    (version_now c.found_is_live.ensures c.found_is_framed.ensures.framed
    c.verdict_is_exact.ensures.stands c.words_tell_name.ensures c.others_are_told.ensures
    (g.D.Disk.view.contents c.args.disk.now) c.args.file.now t
    c.if-file-ge-ENTRY_VERSION.true).1

pub returns-then-file-ge-ENTRY_VERSION-clause-images :
    goal.returns-then-file-ge-ENTRY_VERSION-clause-images
returns-then-file-ge-ENTRY_VERSION-clause-images g c =
    let view = g.D.Disk.view in
    let now = view.contents c.args.disk.now in
    leaves_none view g.met.D.Disk.only_now c.args.disk.now (StandsForSame now)
    (durable_images (StandsForSame now) now (view.unsynced c.args.disk.now) c.requires.stored
    (framed_here c.found_is_live.ensures c.found_is_framed.ensures.framed
    c.verdict_is_exact.ensures.stands c.words_tell_name.ensures c.others_are_told.ensures now
    c.args.file.now c.requires.standing))

pub renew-requires : goal.renew-requires
renew-requires g c =
    let view = g.D.Disk.view in
    record {
      held = may_renew c.found_is_live.ensures c.found_is_framed.ensures.framed
          c.verdict_is_exact.ensures.stands c.words_tell_name.ensures c.others_are_told.ensures
          (view.contents c.args.disk.now) c.args.file.now c.requires.standing
          c.if-file-ge-ENTRY_VERSION.false (view.unsynced c.args.disk.now) c.requires.stored;
    }

pub returns-in-Ok-clause-images : goal.returns-in-Ok-clause-images
returns-in-Ok-clause-images g c =
    let view = g.D.Disk.view in
    let now = view.contents c.args.disk.now in
    let file = c.args.file.now in
    leaves_more view c.args.disk.now c.renew.new.disk
    (λ image. IsFramed file.journal.geometry image (rows_with arc_value file.committed.rows)
    file.journal.number) (StandsForSame now)
    (same_framed c.found_is_live.ensures c.found_is_framed.ensures.framed
    c.verdict_is_exact.ensures.stands c.words_tell_name.ensures c.others_are_told.ensures now file
    c.requires.standing) c.renew.ensures.images

pub returns-in-Err-Device-clause-images : goal.returns-in-Err-Device-clause-images
returns-in-Err-Device-clause-images g c =
    let view = g.D.Disk.view in
    let now = view.contents c.args.disk.now in
    let file = c.args.file.now in
    leaves_more view c.args.disk.now c.renew.new.disk
    (λ image. IsFramed file.journal.geometry image (rows_with arc_value file.committed.rows)
    file.journal.number) (StandsForSame now)
    (same_framed c.found_is_live.ensures c.found_is_framed.ensures.framed
    c.verdict_is_exact.ensures.stands c.words_tell_name.ensures c.others_are_told.ensures now file
    c.requires.standing) c.renew.ensures.images

pub returns-in-Err-NoMemory-clause-images : goal.returns-in-Err-NoMemory-clause-images
returns-in-Err-NoMemory-clause-images g c =
    let view = g.D.Disk.view in
    let now = view.contents c.args.disk.now in
    let file = c.args.file.now in
    leaves_more view c.args.disk.now c.renew.new.disk
    (λ image. IsFramed file.journal.geometry image (rows_with arc_value file.committed.rows)
    file.journal.number) (StandsForSame now)
    (same_framed c.found_is_live.ensures c.found_is_framed.ensures.framed
    c.verdict_is_exact.ensures.stands c.words_tell_name.ensures c.others_are_told.ensures now file
    c.requires.standing) c.renew.ensures.images
