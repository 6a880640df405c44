-- What a cache that was opened and closed leaves, from what opening it and closing it say.
-- For `open`, `run`, `run_in_threads`.
use Rattle.std.proofs.Common.{◌≡◌, ℕ, List, Ok, Err, refl, ap, sym, subst}
use Rattle.std.specs.Prelude.{Result, IfOk}
use Rattle.cm_disk.specs.Disk.{View}
use Rattle.cm_front.specs.Front.{FrontState}
use Rattle.cm_commit.specs.States.{CommitterState}
use Rattle.cm_recover.specs.Opened.{Opens, OpensThrough}
use Rattle.cm_cache.specs.declared.channel.Base.{Base}
use Rattle.cm_cache.specs.Shared.{PassState}
use Rattle.cm_cache.specs.Starting.{base_of}
use Rattle.cm_library.specs.declared.counts.Counts.{Counts}
use Rattle.cm_library.specs.declared.running.Finished.{Finished}
use Rattle.cm_library.specs.Running.{HasOpened, IsOpened, Closes, RunsWork}
use Rattle.cm_library.specs.Running.{base_in}

module _ {D : Type 0} (view : View D) where
  module _ (begun : D) (front : FrontState) (committer : CommitterState D)
      (o : Opens (view.contents begun) front committer)
      (through : OpensThrough view begun committer.disk ⊥) where
    has_opened : HasOpened view begun
    has_opened = record {
      standing = o.standing;
      verdict_is = o.verdict_is;
      stands = o.stands;
      opened = committer.disk;
      opening = through;
    }

    pub is_opened : IsOpened view begun committer
    unfolding has_opened
    is_opened = record {
      opens = has_opened;
      disk_is = refl;
      base_is = ap base_of o.committer_is;
      failures_are = through.no_cause (λ none. none);
    }

  module _ (inside committer : CommitterState D) (same : inside ≡ committer) (drawn : ℕ) where
    of_opened : (Keeps : List PassState → Type 0) (counts : Counts) (disk begun : D)
        (is : IsOpened view begun inside)
        → Closes view Keeps (base_of inside) (view.failures inside.disk) drawn counts disk
        → Closes view Keeps (base_in is.opens.standing) (view.failures begun) drawn counts disk
    of_opened Keeps counts disk begun is h =
        subst (λ (n : ℕ). Closes view Keeps (base_in is.opens.standing) n drawn counts disk)
        is.failures_are
        (subst (λ (b : Base). Closes view Keeps b (view.failures inside.disk) drawn counts disk)
        is.base_is h)

    -- work was done on it
    pub ran : (Keeps : List PassState → Type 0) (counts : Counts) (disk : D)
        → Closes view Keeps (base_of inside) (view.failures inside.disk) drawn counts disk
        → (begun : D) → IsOpened view begun committer
        → RunsWork view Keeps drawn begun counts disk
    ran Keeps counts disk h = λ begun is.
        let was = subst (λ (c : CommitterState D). IsOpened view begun c) (sym same) is in
        record {
          opens = was.opens;
          done = of_opened Keeps counts disk begun was h;
        }

    pub runs : {T E : Type 0} (keeps : T → List PassState → Type 0)
        (result : Result (Finished T D) E)
        → IfOk result (λ f. Closes view (keeps f.output) (base_of inside)
        (view.failures inside.disk) drawn f.counts f.disk)
        → IfOk result (λ f. (begun : D) → IsOpened view begun committer
        → RunsWork view (keeps f.output) drawn begun f.counts f.disk)
    runs keeps (Ok f) h = ran (keeps f.output) f.counts f.disk h
    runs keeps (Err e) h = tt
