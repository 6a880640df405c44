-- What a crash leaves while groups are stored, beside what the Board says.
-- For `Flushing::images`, `Flushing::store`, `Flushing::run`, `Ended::images`, `Poster::post`.
use Rattle.std.proofs.Common.{◌≡◌, ℕ, ◌+◌, ◌-◌, ◌≤◌, List, [], ◌++◌, Some, None, length, sym, ap}
use Rattle.std.proofs.Common.{subst, ◌∙◌, ⊎_elim, arith}
use Rattle.std.proofs.lemmas.List.{append-nil, length-append, take-append-le}
use Rattle.std.specs.Prelude.{Option}
use Rattle.cm_disk.specs.Disk.{View}
use Rattle.cm_group.specs.Groups.{Carried, Handed}
use Rattle.cm_guards.specs.Calls.{LeavesOnly}
use Rattle.cm_guards.specs.Stages.{leaves}
use Rattle.cm_guards.proofs.{leaves_one, leaves_more, leaves_on}
use Rattle.cm_commit.specs.Offers.{rows_after_group}
use Rattle.cm_commit.specs.States.{Work, Storing, Trimming, CommitterState, ShowsCommitted}
use Rattle.cm_commit.specs.States.{ShowsCache, ShowsWith, MayLeave}
use Rattle.cm_cache.specs.declared.board_view.Seen.{Seen}
use Rattle.cm_cache.specs.declared.channel.Base.{Base}
use Rattle.cm_cache.specs.Board.{ShowsFrom}
use Rattle.cm_cache.specs.declared.channel.Message.{Message}
use Rattle.cm_cache.specs.Channel.{entries_of}
use Rattle.cm_cache.specs.Closing.{ShowsBeginning, ShowsPosted}
use Rattle.cm_cache.specs.Flushing.{waiting, FlushingState, IsFlushing, EndedState, IsEnded}
use Rattle.cm_cache.specs.Flushing.{OnlyReceives}
use Rattle.cm_cache.specs.Storing.{ShowsEither}
use Rattle.cm_cache.proofs.Shown.{entries_join}
use Rattle.cm_cache.proofs.Leaving.{either, committed, with_group, one_of}

-- ---- posted

module _ {D : Type 0} (s : CommitterState D) (posted : ℕ) (is : posted ≡ s.number) where
  from_committed : (image : List ℕ) → ShowsCommitted s image → ShowsFrom s.sizes posted image
  from_committed image shows = record {
    rows = s.rows;
    number = s.number;
    from = omega (arith, is);
    shows = shows;
  }

  from_with : (u : Option Work) (image : List ℕ) → ShowsWith s u image
      → ShowsFrom s.sizes posted image
  from_with None image shows = from_committed image shows
  from_with (Some Trimming) image shows = from_committed image shows
  from_with (Some (Storing group)) image shows = record {
    rows = rows_after_group s.rows group.entries;
    number = s.number + length group.entries;
    from = omega (arith, is);
    shows = shows;
  }

  pub shows_from : (image : List ℕ) → MayLeave s image → ShowsFrom s.sizes posted image
  shows_from image l =
      ⊎_elim (λ before. from_committed image before)
      (λ after. from_with s.underway image after)
      (either s.left (ShowsCommitted s) (ShowsWith s s.underway) image l)

-- ---- while groups are stored

module _ {D : Type 0} (base : Base) (failed : ℕ) (failures : D → ℕ) (f : FlushingState D)
    (i : IsFlushing base failed failures f) where
  abbrev s : CommitterState D
  s = f.committer

  least_posted : f.posted.receipt.number - base.number ≡ s.number - base.number
  least_posted = ap (λ (p : Seen). p.receipt.number - base.number) i.says

  received_is : (all : List Carried) → entries_of f.received ≡ all → (image : List ℕ)
      → ShowsBeginning base all (s.number - base.number) image
      → ShowsPosted base f.received f.posted image
  received_is all is image shows =
      subst (λ (x : List Carried × ℕ). ShowsBeginning base x.0 x.1 image)
      (λ k. (sym is k, sym least_posted k)) shows

  pub shows_posted : (image : List ℕ) → MayLeave s image
      → ShowsPosted base f.received f.posted image
  shows_posted image l =
      received_is (i.done ++ (waiting f.next ++ waiting f.behind)) i.all image
      (committed base i.done s i.at (waiting f.next ++ waiting f.behind) image
      (leaves_one s.left (ShowsCommitted s) image
      (subst (λ o. leaves s.left (ShowsCommitted s) (ShowsWith s o) image) i.idle l)))

  pub shows_either_posted : (group : Handed) → f.next ≡ Some group → (image : List ℕ)
      → ShowsEither s group image → ShowsPosted base f.received f.posted image
  shows_either_posted group next_is image shows =
      received_is (i.done ++ (group.entries ++ waiting f.behind))
      (i.all ∙ ap (λ (o : Option Handed). i.done ++ (waiting o ++ waiting f.behind)) next_is)
      image
      (⊎_elim
      (λ before. committed base i.done s i.at (group.entries ++ waiting f.behind) image before)
      (λ after. with_group base i.done s i.at group (waiting f.behind) image after)
      shows.which)

  pub moments_posted : (view : View D) (new : D) (group : Handed) → f.next ≡ Some group
      → LeavesOnly view s.disk new (ShowsEither s group)
      → LeavesOnly view s.disk new (ShowsPosted base f.received f.posted)
  moments_posted view new group next_is leaves =
      leaves_more view s.disk new (ShowsEither s group) (ShowsPosted base f.received f.posted)
      (shows_either_posted group next_is) leaves

-- ---- over a whole run

-- more is received, and the Board said less before
pub shows_grown : (base : Base) (received more : List Message) (posted earlier : Seen)
    → earlier.receipt.number ≤ posted.receipt.number → (image : List ℕ)
    → ShowsPosted base received posted image → ShowsPosted base (received ++ more) earlier image
shows_grown base received more posted earlier before image shows =
    let to = shows.to in
    let from = shows.from in
    let count = length-append (entries_of received) (entries_of more) in
    subst (λ l. ShowsBeginning base l (earlier.receipt.number - base.number) image)
    (sym (entries_join received more))
    (record {
      stored = shows.stored;
      from = omega (arith, from, before);
      to = omega (arith, to, count);
      shows = subst
          (λ l. ShowsCache base.sizes (rows_after_group base.rows l) (base.number + shows.stored)
          image)
          (sym (take-append-le shows.stored (entries_of received) (entries_of more) to))
          shows.shows;
    })

module _ {D : Type 0} (view : View D) (base : Base) (received more : List Message)
    (posted earlier : Seen) (before : earlier.receipt.number ≤ posted.receipt.number) where
  grown : (old new : D) → LeavesOnly view old new (ShowsPosted base received posted)
      → LeavesOnly view old new (ShowsPosted base (received ++ more) earlier)
  grown old new leaves =
      leaves_more view old new (ShowsPosted base received posted)
      (ShowsPosted base (received ++ more) earlier)
      (shows_grown base received more posted earlier before) leaves

-- what a run left, after more was received
pub run_grows : {D : Type 0} (view : View D) (base : Base) (received now more : List Message)
    (earlier : Seen) (old new : D) → now ≡ received ++ more
    → LeavesOnly view old new (ShowsPosted base received earlier)
    → LeavesOnly view old new (ShowsPosted base now earlier)
run_grows view base received now more earlier old new is leaves =
    subst (λ l. LeavesOnly view old new (ShowsPosted base l earlier)) (sym is)
    (grown view base received more earlier earlier (omega arith) old new leaves)

pub run_goes : {D : Type 0} (view : View D) (base : Base) (first : D) (earlier : Seen)
    (old new : FlushingState D) → OnlyReceives old new
    → LeavesOnly view first old.committer.disk (ShowsPosted base old.received earlier)
    → LeavesOnly view first new.committer.disk (ShowsPosted base new.received earlier)
run_goes view base first earlier old new is leaves =
    subst (λ (s : CommitterState _). LeavesOnly view first s.disk
    (ShowsPosted base new.received earlier)) (sym is.same)
    (run_grows view base old.received new.received is.more earlier first old.committer.disk
    is.received leaves)

-- and after one more group was stored
pub run_stores : {D : Type 0} (view : View D) (base : Base) (received : List Message)
    (posted earlier : Seen) (old disk new : D) → earlier.receipt.number ≤ posted.receipt.number
    → LeavesOnly view old disk (ShowsPosted base received earlier)
    → LeavesOnly view disk new (ShowsPosted base received posted)
    → LeavesOnly view old new (ShowsPosted base received earlier)
run_stores view base received posted earlier old disk new before first second =
    leaves_on view old disk new (ShowsPosted base received earlier) first
    (subst (λ l. LeavesOnly view disk new (ShowsPosted base l earlier)) (append-nil received)
    (grown view base received [] posted earlier before disk new second))

-- ---- once the flusher has ended

module _ {D : Type 0} (base : Base) (failed : ℕ) (failures : D → ℕ) (e : EndedState D)
    (i : IsEnded base failed failures e) where
  pub shows_ended : (image : List ℕ) → MayLeave e.committer image
      → ShowsPosted base e.received e.posted image
  shows_ended image l =
      subst (λ (x : List Carried × ℕ). ShowsBeginning base x.0 x.1 image)
      (λ k. (sym i.all k, ap (λ n. n - base.number) (sym i.says) k))
      (one_of base i.done e.committer i.at i.rest i.oldest image
      (either e.committer.left (ShowsCommitted e.committer)
      (ShowsWith e.committer e.committer.underway) image l))
