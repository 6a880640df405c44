-- What one device call does to a committer.
-- For `Committer::advance`, `Committer::images`, `Committer::offer`, `Committer::steps_left`.
use Rattle.std.proofs.Common.{◌≡◌, ℕ, ◌+◌, ◌^◌, ◌<◌, ◌≤◌, Bool, true, false, cond, List, []}
use Rattle.std.proofs.Common.{◌∷◌, ◌++◌, length}
use Rattle.std.proofs.Common.{Option, Some, None, refl, sym, ap, subst, ◌∙◌, arith}
use Rattle.std.specs.Prelude.{Result, Ok, Err, OnOk, OnErr, IfOk, nat_lt}
use Rattle.std.specs.List.{list_all}
use Rattle.cm_disk.specs.Disk.{OnlyNow, View, IsDurable, IsSound}
use Rattle.cm_pool.specs.Geometry.{Sizes}
use Rattle.cm_layout.specs.declared.row.Row.{Row}
use Rattle.cm_layout.specs.Rows.{bare, rows_with, numbers_in}
use Rattle.cm_layout.specs.Frames.{BareRow, entry_version}
use Rattle.cm_layout.specs.Laws.{IsNewest}
use Rattle.cm_layout.specs.Offsets.{root_at}
use Rattle.cm_layout.proofs.{numbers-bare}
use Rattle.cm_guards.specs.Guards.{EachImage}
use Rattle.cm_guards.specs.Calls.{LeavesOnly}
use Rattle.cm_guards.specs.Stages.{Stage, after_call, calls_left, leaves, CallsOnce, TakesCall}
use Rattle.cm_guards.specs.Stages.{StagesStand}
use Rattle.cm_guards.proofs.{durable_images, leaves_more, takes_call, stages_leave, call_done}
use Rattle.cm_guards.proofs.{call_failed, call_moments as moments_of, leaves_so, leaves_one}
use Rattle.cm_rows.specs.Rows.{LiveRows, is_above}
use Rattle.cm_group.specs.Groups.{Handed, AreRight, entries_in}
use Rattle.cm_state.specs.State.{words_show}
use Rattle.cm_state.specs.Entries.{AreCacheRows}
use Rattle.cm_commit.specs.declared.journal_end.JournalEnd.{JournalEnd}
use Rattle.cm_commit.specs.declared.step.TrimStep.{TrimStep}
use Rattle.cm_commit.specs.declared.step.TrimStep.TheVariants as trim
use Rattle.cm_commit.specs.declared.step.PlanStep.{PlanStep}
use Rattle.cm_commit.specs.declared.step.PlanStep.TheVariants as plan
use Rattle.cm_commit.specs.declared.step.CommitStep.TheVariants as step
use Rattle.cm_commit.specs.Committed.{Committed, journal_of, with_group}
use Rattle.cm_commit.specs.Checkpoints.{ready_for, target_of}
use Rattle.cm_commit.specs.Offers.{committed_after}
use Rattle.cm_commit.specs.GroupPlans.{whole_roots, roots_of_entries, all_writes}
use Rattle.cm_commit.specs.Guarding.{ContentsShow, HoldsCommitted, IsCommitted}
use Rattle.cm_commit.specs.States.{Work, Storing, Trimming, NoGroup, CommitterState, MayLeave}
use Rattle.cm_commit.specs.States.{ShowsCommitted, ShowsWith, journal_at}
use Rattle.cm_commit.specs.Steps.{FitsJournal, FitsHalf, plan_left, stages_left, checkpoint_left}
use Rattle.cm_commit.specs.Steps.{work_of, is_trim, trim_left}
use Rattle.cm_commit.specs.Trims.{roots_of_rows}
use Rattle.cm_commit.specs.Advances.{with_committed}
use Rattle.cm_commit.specs.Keeps.{IsCommitter, IsIdle, IsBusy, IsTrimming, StandsDuring}
use Rattle.cm_commit.specs.Keeps.{StandsBroken}
use Rattle.cm_commit.specs.Keeps.{roots_then}
use Rattle.cm_commit.specs.Keeps.{rows_then}
use Rattle.cm_commit.proofs.Committing.{fits_journal, cache_after, right_rows_after}
use Rattle.cm_commit.proofs.Journals.{half_fits, target_is, end_after}
use Rattle.cm_commit.proofs.Shown.{shows_cache}
use Rattle.cm_commit.proofs.Through.{shows_holds, ready_right, ready_newest, ready_next}
use Rattle.cm_commit.proofs.Through.{after_right}
use Rattle.cm_commit.proofs.Trims.{few_used, whole_used}
use Rattle.cm_commit.proofs.With.{bare-with}

pub of_ok : {T E : Type 0} (r : Result T E) (A : Type 0) (x : T) → r ≡ Ok x → OnOk r A → A
of_ok (Ok y) A x e a = a
of_ok (Err f) A x e a = absurd (cc)

of_err : {T E : Type 0} (r : Result T E) (A : Type 0) (f : E) → r ≡ Err f → OnErr r A → A
of_err (Ok y) A f e a = absurd (cc)
of_err (Err g) A f e a = a

module _ {D : Type 0} (view : View D) (s : CommitterState D)
    (sizes : Sizes) (next : LiveRows (Unit {0})) (roots room : ℕ)
    (i : IsCommitter view s sizes next roots room) where
  abbrev before : Committed
  before = record { sizes = s.sizes; rows = s.rows; number = s.number; framing = i.is.framing }

  shows_before : (image : List ℕ) → HoldsCommitted before image → ShowsCommitted s image
  shows_before image held =
      shows_cache (record before { framing = held.framing }) image held.right i.is.records
      i.is.cache.differ held.matches

  newest_before : (image : List ℕ) → HoldsCommitted before image → IsNewest image
  newest_before image held = record {
    sizes = s.sizes;
    rows = s.rows;
    number = s.number;
    framed = record { framing = held.framing; right = held.right; matches = held.matches };
    version = omega (arith, i.is.newest, held.no_older, held.right.good.head.version_to);
  }

  -- the half of a checkpoint fits
  pub half : FitsHalf (journal_at s) (bare s.rows)
  half =
      subst (λ (j : JournalEnd). FitsHalf j (bare s.rows)) (sym i.is.journal_is)
      (half_fits before i.is.right)

  -- the roots that rows use are few
  pub used_few : roots_of_rows s.rows < 2 ^ 32
  used_few = few_used before i.is.right

  -- ---- nothing is under way

  pub idle_images : s.underway ≡ None → s.left ≡ []
      → EachImage (view.contents s.disk) (view.unsynced s.disk) (MayLeave s)
  idle_images none empty =
      let at : IsIdle before roots s.broken (view.contents s.disk) (view.unsynced s.disk) =
      subst (λ (o : Option Work). StandsDuring before roots o s.left s.broken (view.contents s.disk)
      (view.unsynced s.disk)) none i.at in
      let images = durable_images (ContentsShow before) (view.contents s.disk)
      (view.unsynced s.disk)
      at.durable
      at.shows in
      record {
        each = λ image is.
            subst (λ (l : List Stage). leaves l (ShowsCommitted s) (ShowsWith s s.underway) image)
            (sym empty)
            (shows_before image (shows_holds before image i.is.right (images.each image is)));
      }

  pub idle_newest : s.underway ≡ None
      → EachImage (view.contents s.disk) (view.unsynced s.disk) IsNewest
  idle_newest none =
      let at : IsIdle before roots s.broken (view.contents s.disk) (view.unsynced s.disk) =
      subst (λ (o : Option Work). StandsDuring before roots o s.left s.broken (view.contents s.disk)
      (view.unsynced s.disk)) none i.at in
      let images = durable_images (ContentsShow before) (view.contents s.disk)
      (view.unsynced s.disk)
      at.durable
      at.shows in
      record {
        each = λ image is.
            newest_before image (shows_holds before image i.is.right (images.each image is));
      }

  -- ---- stages are left, which lead to what is committed in the end

  module _ (then : Committed) (long : ℕ) (some : s.left ≡ [] → ⊥)
      (shows_then : (image : List ℕ) → ContentsShow then image → ShowsWith s s.underway image) where
    so : (image : List ℕ) → leaves s.left (HoldsCommitted before) (ContentsShow then) image
        → MayLeave s image
    so image l =
        leaves_so s.left (HoldsCommitted before) (ContentsShow then) (ShowsCommitted s)
        (ShowsWith s s.underway)
        shows_before shows_then image l

    abbrev Stand : Bool → Type 0
    Stand t = StandsBroken t before then long s.left (view.contents s.disk) (view.unsynced s.disk)

    stages_left_behind : (t : Bool) → Stand t
        → EachImage (view.contents s.disk) (view.unsynced s.disk)
        (leaves s.left (HoldsCommitted before) (ContentsShow then))
    stages_left_behind false stands =
        stages_leave (HoldsCommitted before) (ContentsShow then) long s.left (view.contents s.disk)
        (view.unsynced s.disk) some stands
    stages_left_behind true stands = stands

    pub stage_images : Stand s.broken → EachImage (view.contents s.disk) (view.unsynced s.disk)
        (MayLeave s)
    stage_images at =
        let images = stages_left_behind s.broken at in
        record { each = λ image is. so image (images.each image is) }

    -- a crash leaves halves of the newest version, if those that the stages lead to are
    pub stage_newest : ((image : List ℕ) → ContentsShow then image → IsNewest image)
        → Stand s.broken
        → EachImage (view.contents s.disk) (view.unsynced s.disk) IsNewest
    stage_newest newest_then at =
        let images = stages_left_behind s.broken at in
        record {
          each = λ image is.
              leaves_one s.left IsNewest image
              (leaves_so s.left (HoldsCommitted before) (ContentsShow then) IsNewest IsNewest
              newest_before
              newest_then image (images.each image is));
        }

    module _ (at : Stand s.broken) (sound : s.broken ≡ false) where
      stands : StagesStand (HoldsCommitted before) (ContentsShow then) long s.left
          (view.contents s.disk)
          (view.unsynced s.disk)
      stands = subst Stand sound at

      -- the next call can be made
      pub stage_takes : IsSound (view.contents s.disk) (view.unsynced s.disk)
          → TakesCall s.left (length (view.contents s.disk))
      stage_takes is =
          takes_call (HoldsCommitted before) (ContentsShow then) long s.left (view.contents s.disk)
          (view.unsynced s.disk) is
          some stands

      module _ {T E : Type 0} (only_now : OnlyNow view) (new : D) (r : Result T E)
          (call : CallsOnce view s.left s.disk new r) where
        -- what a crash leaves meanwhile
        pub stage_moments : LeavesOnly view s.disk new (MayLeave s)
        stage_moments =
            leaves_more view s.disk new (leaves s.left (HoldsCommitted before) (ContentsShow then))
            (MayLeave s) so
            (moments_of view only_now (HoldsCommitted before)
            (ContentsShow then) long s.disk new r s.left stands call)

        pub stage_done : (x : T) → r ≡ Ok x
            → StagesStand (HoldsCommitted before) (ContentsShow then) long (after_call s.left)
            (view.contents new)
            (view.unsynced new)
        stage_done x e =
            of_ok r (StagesStand (HoldsCommitted before) (ContentsShow then) long
            (after_call s.left)
            (view.contents new) (view.unsynced new)) x e
            (call_done view only_now (HoldsCommitted before)
            (ContentsShow then) long s.disk new r s.left stands call)

        pub stage_failed : (f : E) → r ≡ Err f
            → EachImage (view.contents new) (view.unsynced new)
            (leaves s.left (HoldsCommitted before) (ContentsShow then))
        stage_failed f e =
            of_err r (EachImage (view.contents new) (view.unsynced new)
            (leaves s.left (HoldsCommitted before) (ContentsShow then))) f e
            (call_failed view only_now (HoldsCommitted before)
            (ContentsShow then) long s.disk new r s.left stands call)

  -- ---- a trim is under way

  module _ (trimming : s.underway ≡ Some Trimming) where
    pub trim_at : IsTrimming before roots s.left s.broken (view.contents s.disk)
        (view.unsynced s.disk)
    trim_at =
        subst (λ (o : Option Work). StandsDuring before roots o s.left s.broken
        (view.contents s.disk)
        (view.unsynced s.disk)) trimming i.at

    abbrev left_long : ℕ
    left_long = root_at s.sizes roots

    shows_still : (image : List ℕ) → ContentsShow before image → ShowsWith s s.underway image
    shows_still image shows =
        subst (λ (o : Option Work). ShowsWith s o image) (sym trimming)
        (shows_before image (shows_holds before image i.is.right shows))

    pub trim_images : EachImage (view.contents s.disk) (view.unsynced s.disk) (MayLeave s)
    trim_images = stage_images before left_long trim_at.some shows_still trim_at.stands

    pub trim_newest : EachImage (view.contents s.disk) (view.unsynced s.disk) IsNewest
    trim_newest =
        stage_newest before left_long trim_at.some shows_still
        (λ image shows. newest_before image (shows_holds before image i.is.right shows))
        trim_at.stands

    module _ (sound : s.broken ≡ false) where
      pub trim_takes : IsSound (view.contents s.disk) (view.unsynced s.disk)
          → TakesCall s.left (length (view.contents s.disk))
      trim_takes =
          stage_takes before left_long trim_at.some shows_still trim_at.stands sound

      module _ {T E : Type 0} (only_now : OnlyNow view) (new : D) (r : Result T E)
          (call : CallsOnce view s.left s.disk new r) where
        pub trim_moments : LeavesOnly view s.disk new (MayLeave s)
        trim_moments =
            stage_moments before left_long trim_at.some shows_still trim_at.stands sound only_now
            new r call

        -- the call failed
        pub trim_is_broken : (f : E) → r ≡ Err f
            → IsCommitter view (record s { disk = new; broken = true }) sizes next
            roots room
        trim_is_broken f e = record {
          is = i.is;
          beside = i.beside;
          at = subst (λ (o : Option Work). StandsDuring before roots o s.left true
              (view.contents new)
              (view.unsynced new)) (sym trimming) (record {
                some = trim_at.some;
                roots_are = trim_at.roots_are;
                stands = stage_failed before left_long trim_at.some shows_still trim_at.stands
                    sound only_now new r call f e;
              });
        }

        -- the sync is left
        pub trim_is_working : (x : T) → r ≡ Ok x → (left : List Stage) → left ≡ after_call s.left
            → (left ≡ [] → ⊥)
            → IsCommitter view (record s { disk = new; left = left }) sizes next roots
            room
        trim_is_working x e left left_is some = record {
          is = i.is;
          beside = i.beside;
          at = subst (λ (t : Bool). StandsDuring before roots s.underway left t (view.contents new)
              (view.unsynced new)) (sym sound)
              (subst (λ (o : Option Work). StandsDuring before roots o left false
              (view.contents new)
              (view.unsynced new)) (sym trimming) (record {
                some = some;
                roots_are = trim_at.roots_are;
                stands = subst (λ (l : List Stage). StagesStand (HoldsCommitted before)
                    (ContentsShow before)
                    left_long l (view.contents new) (view.unsynced new)) (sym left_is)
                    (stage_done before left_long trim_at.some shows_still trim_at.stands sound
                    only_now new r call x e);
              }));
        }

        -- no call is left
        module _ (x : T) (ok : r ≡ Ok x) (last : after_call s.left ≡ []) where
          trim_stored : StagesStand (HoldsCommitted before) (ContentsShow before) left_long []
              (view.contents new)
              (view.unsynced new)
          trim_stored =
              subst (λ (l : List Stage). StagesStand (HoldsCommitted before) (ContentsShow before)
              left_long l
              (view.contents new) (view.unsynced new)) last
              (stage_done before left_long trim_at.some shows_still trim_at.stands sound only_now
              new r call x ok)

          pub trim_ends : (length (view.contents new) ≡ root_at s.sizes roots)
              × IsDurable (view.contents new) (view.unsynced new)
          trim_ends = (trim_stored.ready.size, trim_stored.durable)

          pub is_trimmed : IsCommitter view
              (record s { disk = new; underway = None; left = [] }) sizes next roots room
          is_trimmed = record {
            is = i.is;
            beside = record {
              sizes_are = i.beside.sizes_are;
              next_is = i.beside.next_is
                  ∙ ap (λ (o : Option Work). record {
                    sizes = s.sizes;
                    rows = bare (rows_then s.rows o);
                  }) trimming;
              room_is = i.beside.room_is;
            };
            at = record {
              sound = sound;
              durable = trim_stored.durable;
              shows = trim_stored.ready.holds;
              roots_are = sym (whole_used s.sizes roots)
                  ∙ ap (whole_roots s.sizes) (sym trim_stored.ready.size);
            };
          }

  -- ---- a group is under way

  module _ (group : Handed) (underway : s.underway ≡ Some (Storing group)) where
    pub busy : IsBusy before roots group s.left s.broken (view.contents s.disk)
        (view.unsynced s.disk)
    busy =
        subst (λ (o : Option Work). StandsDuring before roots o s.left s.broken
        (view.contents s.disk)
        (view.unsynced s.disk)) underway i.at

    -- what is committed, in halves that have room for it
    abbrev ready : Committed
    ready = ready_for before group.entries

    abbrev after : Committed
    after = committed_after ready group

    -- where the group is written
    pub target_ready : target_of (journal_at s) (bare s.rows) group.entries ≡ journal_of ready
    target_ready =
        ap (λ (j : JournalEnd). target_of j (bare s.rows) group.entries) i.is.journal_is
        ∙ target_is before group.entries

    -- the writes of the group fit
    pub fits : FitsJournal (target_of (journal_at s) (bare s.rows) group.entries) group
    fits =
        subst (λ (j : JournalEnd). FitsJournal j group) (sym target_ready)
        (fits_journal ready group (ready_right before group i.is.right busy.is busy.next) busy.is
        busy.counted (ready_next before group i.is.right busy.is busy.next))

    pub few_roots : roots_of_entries (entries_in group.entries) < 2 ^ 32
    few_roots =
        let f = fits_journal ready group (ready_right before group i.is.right busy.is busy.next)
        busy.is busy.counted (ready_next before group i.is.right busy.is busy.next) in
        omega (arith, f.roots, f.lawful.roots_to)

    pub few_writes : length (all_writes group.entries) < 2 ^ 32
    few_writes =
        (fits_journal ready group (ready_right before group i.is.right busy.is busy.next) busy.is
        busy.counted (ready_next before group i.is.right busy.is busy.next)).few

    right-next : IsCommitted after
    right-next = after_right before group i.is.right busy.is busy.next i.is.newest

    newest-next : after.framing.head.version ≡ entry_version
    newest-next = ready_newest before group i.is.right busy.is busy.next i.is.newest

    cache-next : AreCacheRows words_show s.sizes after.number after.rows
    cache-next =
        cache_after s.sizes s.rows s.rows s.number group.entries i.is.cache busy.next.entries
        busy.next.ends

    records-next : AreRight after.rows
    records-next =
        right_rows_after s.sizes s.rows s.rows s.number group.entries i.is.records busy.is.right
        busy.next.entries

    shows_after : (image : List ℕ) → ContentsShow after image → ShowsWith s s.underway image
    shows_after image shows =
        subst (λ (o : Option Work). ShowsWith s o image) (sym underway)
        (shows_cache after image right-next records-next cache-next.differ shows)

    newest_after : (image : List ℕ) → ContentsShow after image → IsNewest image
    newest_after image shows = record {
      sizes = after.sizes;
      rows = after.rows;
      number = after.number;
      framed = record { framing = after.framing; right = right-next; matches = shows };
      version = newest-next;
    }

    pub busy_images : EachImage (view.contents s.disk) (view.unsynced s.disk) (MayLeave s)
    busy_images = stage_images after busy.long busy.some shows_after busy.stands

    pub busy_newest : EachImage (view.contents s.disk) (view.unsynced s.disk) IsNewest
    busy_newest =
        stage_newest after busy.long busy.some shows_after newest_after busy.stands

    module _ (sound : s.broken ≡ false) where
      -- the next call can be made
      pub takes : IsSound (view.contents s.disk) (view.unsynced s.disk)
          → TakesCall s.left (length (view.contents s.disk))
      takes = stage_takes after busy.long busy.some shows_after busy.stands sound

      module _ {T E : Type 0} (only_now : OnlyNow view) (new : D) (r : Result T E)
          (call : CallsOnce view s.left s.disk new r) where
        -- what a crash leaves meanwhile
        pub call_moments : LeavesOnly view s.disk new (MayLeave s)
        call_moments =
            stage_moments after busy.long busy.some shows_after busy.stands sound only_now new r
            call

        done : (x : T) → r ≡ Ok x
            → StagesStand (HoldsCommitted before) (ContentsShow after) busy.long (after_call s.left)
            (view.contents new) (view.unsynced new)
        done =
            stage_done after busy.long busy.some shows_after busy.stands sound only_now new r call

        -- the call failed
        pub is_broken : (f : E) → r ≡ Err f → (more : ℕ) → room ≤ more
            → IsCommitter view (record s { disk = new; broken = true }) sizes next
            roots more
        is_broken f e more le = record {
          is = i.is;
          beside = record {
            sizes_are = i.beside.sizes_are;
            next_is = i.beside.next_is;
            room_is = omega (arith, i.beside.room_is, le);
          };
          at = subst (λ (o : Option Work). StandsDuring before roots o s.left true
              (view.contents new)
              (view.unsynced new)) (sym underway) (record {
                is = busy.is;
                next = busy.next;
                counted = busy.counted;
                some = busy.some;
                long = busy.long;
                roots_are = busy.roots_are;
                stands = stage_failed after busy.long busy.some shows_after busy.stands sound
                    only_now new r call f e;
              });
        }

        -- other calls are left
        pub is_working : (x : T) → r ≡ Ok x → (left : List Stage) → left ≡ after_call s.left
            → (left ≡ [] → ⊥) → (more : ℕ) → room ≤ more
            → IsCommitter view (record s { disk = new; left = left }) sizes next roots
            more
        is_working x e left left_is some more le = record {
          is = i.is;
          beside = record {
            sizes_are = i.beside.sizes_are;
            next_is = i.beside.next_is;
            room_is = omega (arith, i.beside.room_is, le);
          };
          at = subst (λ (t : Bool). StandsDuring before roots s.underway left t (view.contents new)
              (view.unsynced new)) (sym sound)
              (subst (λ (o : Option Work). StandsDuring before roots o left false
              (view.contents new)
              (view.unsynced new)) (sym underway) (record {
                is = busy.is;
                next = busy.next;
                counted = busy.counted;
                some = some;
                long = busy.long;
                roots_are = busy.roots_are;
                stands = subst (λ (l : List Stage). StagesStand (HoldsCommitted before)
                    (ContentsShow after)
                    busy.long l (view.contents new) (view.unsynced new)) (sym left_is) (done x e);
              }));
        }

        -- it was the last call; the group was written where this journal ends
        abbrev done_at : JournalEnd → CommitterState D
        done_at to = record (with_committed s to group new) {
          sizes = to.geometry;
          number = to.number + length group.entries;
        }

        finished_ready : (x : T) → r ≡ Ok x → after_call s.left ≡ [] → (more : ℕ) → room ≤ more
            → IsCommitter view (done_at (journal_of ready)) sizes next
            (roots_then roots group) more
        finished_ready x e last more le =
            let stored = subst (λ (l : List Stage). StagesStand (HoldsCommitted before)
            (ContentsShow after)
            busy.long l (view.contents new) (view.unsynced new)) last (done x e) in
            record {
              is = record {
                framing = with_group ready.framing (entries_in group.entries);
                newest = newest-next;
                journal_is = λ k. record (journal_of after) {
                  end = sym (end_after ready.framing (entries_in group.entries)) k;
                };
                right = right-next;
                cache = cache-next;
                records = records-next;
                number_is = busy.next.ends;
              };
              beside = record {
                sizes_are = i.beside.sizes_are;
                next_is = i.beside.next_is
                    ∙ ap (λ (o : Option Work). record {
                      sizes = s.sizes;
                      rows = bare (rows_then s.rows o);
                    }) underway;
                room_is = omega (arith, i.beside.room_is, le);
              };
              at = record {
                sound = sound;
                durable = stored.durable;
                shows = stored.ready.holds;
                roots_are = busy.roots_are
                    ∙ ap (whole_roots s.sizes) (sym stored.ready.size);
              };
            }

        pub is_finished : (to : JournalEnd)
            → to ≡ target_of (journal_at s) (bare s.rows) group.entries → (x : T) → r ≡ Ok x
            → after_call s.left ≡ [] → (more : ℕ) → room ≤ more
            → IsCommitter view (done_at to) sizes next (roots_then roots group) more
        is_finished to to_is x e last more le =
            subst (λ (j : JournalEnd). IsCommitter view (done_at j) sizes next
            (roots_then roots group) more) (sym (to_is ∙ target_ready))
            (finished_ready x e last more le)

  -- ---- either way

  pub images : (s.underway ≡ None → s.left ≡ [])
      → EachImage (view.contents s.disk) (view.unsynced s.disk) (MayLeave s)
  images empty = by_work s.underway refl
    where
      by_work : (o : Option Work) → s.underway ≡ o
          → EachImage (view.contents s.disk) (view.unsynced s.disk) (MayLeave s)
      by_work None e = idle_images e (empty e)
      by_work (Some Trimming) e = trim_images e
      by_work (Some (Storing group)) e = busy_images group e

  pub newest_images : EachImage (view.contents s.disk) (view.unsynced s.disk) IsNewest
  newest_images = by_work s.underway refl
    where
      by_work : (o : Option Work) → s.underway ≡ o
          → EachImage (view.contents s.disk) (view.unsynced s.disk) IsNewest
      by_work None e = idle_newest e
      by_work (Some Trimming) e = trim_newest e
      by_work (Some (Storing group)) e = busy_newest group e

pub steps_are : (broken : Bool) (left : List Stage) (n : ℕ) → broken ≡ false → n ≡ calls_left left
    → n ≡ cond broken 0 (calls_left left)
steps_are true left n e same = absurd (cc)
steps_are false left n e same = same

-- the state of a committer once a group is committed that was written where this journal ends
pub as_committed : {D : Type 0} (s : CommitterState D) (to target : JournalEnd) (group : Handed)
    (disk : D) → to ≡ target → target.geometry ≡ s.sizes → target.number ≡ s.number
    → record (with_committed s to group disk) {
      sizes = to.geometry;
      number = to.number + length group.entries;
    }
    ≡ with_committed s target group disk
as_committed s to target group disk e sizes number =
    λ i. record (with_committed s (e i) group disk) {
      sizes = (ap (λ (j : JournalEnd). j.geometry) e ∙ sizes) i;
      number = (ap (λ (j : JournalEnd). j.number) e ∙ number) i + length group.entries;
    }

pub told_ok : {T E : Type 0} (r : Result T E) (P : T → Type 0) (x : T) → r ≡ Ok x → IfOk r P → P x
told_ok (Ok y) P x e p = subst P (cc) p
told_ok (Err f) P x e p = absurd (cc)

pub some_behind : (front : List Stage) (stage : Stage) (stages : List Stage)
    → front ++ stage ∷ stages ≡ [] → ⊥
some_behind [] stage stages e = absurd (cc)
some_behind (first ∷ front) stage stages e = absurd (cc)

-- while calls are left, stages are left
pub some_stages : (j : JournalEnd) (rows : List BareRow) (roots : ℕ) (group : Handed)
    (now : PlanStep)
    → (now ≡ plan.Group step.Done → ⊥) → is_trim now ≡ false
    → plan_left j rows roots group now ≡ [] → ⊥
some_stages j rows roots group (plan.Checkpoint at) isnt own e =
    some_behind (checkpoint_left j rows at) _ _ e
some_stages j rows roots group (plan.Group (step.Grow r)) isnt own e = absurd (cc)
some_stages j rows roots group (plan.Group (step.Write entry n)) isnt own e = absurd (cc)
some_stages j rows roots group (plan.Group step.Sync) isnt own e = absurd (cc)
some_stages j rows roots group (plan.Group step.Gate) isnt own e = absurd (cc)
some_stages j rows roots group (plan.Group step.LastSync) isnt own e = absurd (cc)
some_stages j rows roots group (plan.Group step.Done) isnt own e = isnt refl
some_stages j rows roots group (plan.Trim at) isnt own e = absurd (cc)

pub no_stages : (j : JournalEnd) (rows : List BareRow) (roots : ℕ) (group : Handed) (now : PlanStep)
    → now ≡ plan.Group step.Done → plan_left j rows roots group now ≡ []
no_stages j rows roots group now is = ap (plan_left j rows roots group) is

pub above_own : {P : Type 0} (f : P → List ℕ) (rows : List (Row P)) (n : ℕ)
    → is_above n (bare (rows_with f rows)) ≡ true → is_above n rows ≡ true
above_own f rows n h =
    ap (list_all (λ u. nat_lt u n))
    (sym (ap numbers_in (bare-with f rows) ∙ numbers-bare rows)) ∙ h

-- ---- what is under way, by the group and the next step

pub group_works : (o : Option Handed) (group : Handed) (now : PlanStep) → o ≡ Some group
    → work_of o now ≡ Some (Storing group)
group_works o group now e = ap (λ (x : Option Handed). work_of x now) e

-- whichever step of the group is next
pub same_work : (o : Option Handed) (group : Handed) (a b : PlanStep) → o ≡ Some group
    → work_of o a ≡ work_of o b
same_work o group a b e = group_works o group a e ∙ sym (group_works o group b e)

-- if nothing is under way, no stage is left
pub nothing_left : (j : JournalEnd) (rows : List BareRow) (roots : ℕ) (o : Option Handed)
    (now : PlanStep) → work_of o now ≡ None → stages_left j rows roots o now ≡ []
nothing_left j rows roots None (plan.Checkpoint at) e = refl
nothing_left j rows roots None (plan.Group s) e = refl
nothing_left j rows roots None (plan.Trim at) e = absurd (cc)
nothing_left j rows roots (Some group) now e = absurd (cc)

-- ---- no group is under way

pub no_group : (o : Option Handed) (now : PlanStep) → NoGroup (work_of o now) → o ≡ None
no_group None now h = refl
no_group (Some group) now h = absurd h

pub trim_works : (o : Option Handed) (at : TrimStep) → o ≡ None
    → work_of o (plan.Trim at) ≡ Some Trimming
trim_works o at none = ap (λ (x : Option Handed). work_of x (plan.Trim at)) none

pub trim_stages : (j : JournalEnd) (rows : List BareRow) (roots : ℕ) (o : Option Handed)
    (at : TrimStep) → o ≡ None
    → stages_left j rows roots o (plan.Trim at) ≡ trim_left j.geometry roots at
trim_stages j rows roots o at none =
    ap (λ (x : Option Handed). stages_left j rows roots x (plan.Trim at)) none

-- if neither a group nor a trim is under way, nothing is
pub nothing_works : (o : Option Handed) (now : PlanStep) → NoGroup (work_of o now)
    → ((at : TrimStep) → now ≡ plan.Trim at → ⊥) → work_of o now ≡ None
nothing_works None (plan.Checkpoint at) h isnt = refl
nothing_works None (plan.Group s) h isnt = refl
nothing_works None (plan.Trim at) h isnt = absurd (isnt at refl)
nothing_works (Some group) now h isnt = absurd h

pub some_trim : (sizes : Sizes) (roots : ℕ) (at : TrimStep) → trim_left sizes roots at ≡ [] → ⊥
some_trim sizes roots trim.Cut e = absurd (cc)
some_trim sizes roots trim.Sync e = absurd (cc)
