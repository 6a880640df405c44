-- A trim's two device calls, and what holds meanwhile.
-- For `cut`, `trim_file`, `trim_to`.
use Rattle.std.proofs.Common.{◌≡◌, ℕ, Bool, true, false, List, [], ◌∷◌, length}
use Rattle.std.proofs.Common.{Option, Some, None, Result, Ok, Err, refl, sym, ap, subst}
use Rattle.std.proofs.Common.{◌∙◌, arith}
use Rattle.std.proofs.Common.{get_or}
use Rattle.std.specs.Prelude.{IfOk, IsErr}
use Rattle.cm_pool.specs.Geometry.{Sizes}
use Rattle.cm_disk.specs.Disk.{View, Unsynced, IsImage, IsWithin}
use Rattle.cm_disk.proofs.{false_before}
use Rattle.cm_layout.specs.declared.row.Row.{Row}
use Rattle.cm_layout.specs.Offsets.{root_at}
use Rattle.cm_guards.proofs.{leaves_one, leaves_so}
use Rattle.cm_guards.specs.Stages.{Stage, Store, Cut, calls_left, after_call}
use Rattle.cm_commit.specs.declared.progress.NotIdle.{NotIdle}
use Rattle.cm_commit.specs.declared.progress.Progress.{Progress}
use Rattle.cm_commit.specs.declared.progress.Progress.TheVariants.{Idle, Working, Done, Trimmed}
use Rattle.cm_commit.specs.Advances.{Advances}
use Rattle.cm_commit.specs.GroupPlans.{whole_roots}
use Rattle.cm_commit.specs.States.{Work, Storing, Trimming, NoGroup, CommitterState, ShowsCache}
use Rattle.cm_commit.specs.States.{ShowsCommitted, ShowsWith, MayLeave, BeginsTrim, with_trim}
use Rattle.cm_commit.specs.States.{IsFree}
use Rattle.cm_commit.specs.Trims.{roots_of_rows}
use Rattle.cm_commit.proofs.{whole_used}
use Rattle.cm_front.specs.Front.{FrontState}
use Rattle.cm_verdict.specs.Verdict.{Standing, verdict}
use Rattle.cm_verdict.specs.declared.fault.OpenFault.{OpenFault}
use Rattle.cm_verdict.specs.declared.fault.OpenFault.TheVariants as open_fault
use Rattle.cm_recover.specs.Opened.{Opens}
use Rattle.cm_verdict.specs.Standing.{FollowsVerdict}
use Rattle.cm_lines.specs.declared.fault.LineFault.{LineFault}
use Rattle.cm_maintenance.specs.declared.status.Status.{Status}
use Rattle.cm_maintenance.specs.declared.status.Status.TheVariants as status
use Rattle.cm_maintenance.specs.Reporting.{Writes, told, status_of}
use Rattle.cm_maintenance.specs.Texts.{roots_line, fault_line}
use Rattle.cm_maintenance.proofs.Statuses.{never_done}
use Rattle.cm_maintenance.specs.Trimming.{SameIdle, HasNoMore, Uses, IsTrimmed, rows_in}
use Rattle.cm_recover.specs.Opened.{StandsForSame}

-- ---- what a crash leaves

-- while no group is under way, a crash leaves what is committed
pub shows_committed : {D : Type 0} (s : CommitterState D) → NoGroup s.underway → (image : List ℕ)
    → MayLeave s image → ShowsCommitted s image
shows_committed s none image l =
    leaves_one s.left (ShowsCommitted s) image
    (leaves_so s.left (ShowsCommitted s) (ShowsWith s s.underway) (ShowsCommitted s)
    (ShowsCommitted s) (λ x shows. shows) (λ x. with_it s.underway none x) image l)
  where
    with_it : (u : Option Work) → NoGroup u → (x : List ℕ) → ShowsWith s u x
        → ShowsCommitted s x
    with_it None none x shows = shows
    with_it (Some Trimming) none x shows = shows
    with_it (Some (Storing group)) none x shows = absurd none

-- the same for a committer in which the same is committed
pub shows_as : {D : Type 0} (old new : CommitterState D) → SameIdle old new → (image : List ℕ)
    → MayLeave new image → ShowsCommitted old image
shows_as old new kept image l =
    subst (λ (x : Sizes × (List (Row (List ℕ)) × ℕ)). ShowsCache x.0 x.1.0 x.1.1 image)
    (λ k. (kept.sizes k, (kept.rows k, kept.number k)))
    (shows_committed new kept.ungrouped image l)

-- ---- the first call

no_stage : {A : Type 0} (x : A) (l : List A) → [] ≡ x ∷ l → ⊥
no_stage x l e = cc

not_group : Some Trimming ≡ None → ⊥
not_group e = cc

module _ {D : Type 0} (old : CommitterState D) (sound : old.broken ≡ false)
    (begun : old ≡ with_trim old) where
  trimming : old.underway ≡ Some Trimming
  trimming = ap (λ (c : CommitterState D). c.underway) begun

  left_is : old.left ≡ Cut (root_at old.sizes (roots_of_rows old.rows)) ∷ []
  left_is = ap (λ (c : CommitterState D). c.left) begun

  pub kept_itself : SameIdle old old
  kept_itself = record {
    sizes = refl;
    rows = refl;
    number = refl;
    ungrouped = subst NoGroup (sym trimming) tt;
  }

  pub first_call : (mid : CommitterState D) (p : Progress) → Advances old (Ok p) mid
      → mid ≡ record old { disk = mid.disk; left = Store [] ∷ [] }
  first_call mid Idle r = absurd (no_stage _ _ (sym r.none ∙ left_is))
  first_call mid Working w =
      w.new_is
      ∙ ap (λ (l : List Stage). record old { disk = mid.disk; left = after_call l }) left_is
  first_call mid (Done receipt) f =
      let last = f.last in
      let two = ap calls_left left_is in
      absurd (omega (arith, last, two))
  first_call mid (Trimmed roots) t =
      let last = t.last in
      let two = ap calls_left left_is in
      absurd (omega (arith, last, two))

  pub kept_first : (mid : CommitterState D)
      → mid ≡ record old { disk = mid.disk; left = Store [] ∷ [] } → SameIdle old mid
  kept_first mid is = record {
    sizes = ap (λ (c : CommitterState D). c.sizes) is;
    rows = ap (λ (c : CommitterState D). c.rows) is;
    number = ap (λ (c : CommitterState D). c.number) is;
    ungrouped = subst NoGroup (sym (ap (λ (c : CommitterState D). c.underway) is ∙ trimming)) tt;
  }

-- ---- whether a trim is due

pub begun_is : {D : Type 0} (view : View D) (old mid : CommitterState D) (due : Bool)
    → due ≡ true → BeginsTrim {E = NotIdle} view old (Ok due) mid → mid ≡ with_trim old
begun_is view old mid true e b = b.2
begun_is view old mid false e b = absurd (cc)

pub none_is : {D : Type 0} (view : View D) (old mid : CommitterState D) (due : Bool)
    → due ≡ false → BeginsTrim {E = NotIdle} view old (Ok due) mid → mid ≡ old
none_is view old mid true e b = absurd (cc)
none_is view old mid false e b = b.2

-- ---- how many roots are left

pub none_to_spare : (sizes : Sizes) (roots : ℕ) (contents : List ℕ)
    → length contents ≡ root_at sizes roots → HasNoMore sizes roots contents
none_to_spare sizes roots contents ends =
    let whole : whole_roots sizes (length contents) ≡ roots =
    ap (whole_roots sizes) ends ∙ whole_used sizes roots in
    omega (arith, whole)

-- ---- a file

-- an image of what is within is an image
pub image_within : (contents now : List ℕ) (old new : Unsynced) (image : List ℕ) → now ≡ contents
    → IsWithin old new → IsImage now new image → IsImage contents old image
image_within contents now old new image same within is = record {
  no_shorter = omega (arith, is.no_shorter, within.least);
  no_longer = omega (arith, is.no_longer, within.greatest);
  bytes = is.bytes;
  same = λ i lt shut.
      is.same i (omega (arith, lt, within.least))
      (false_before (new.is_open i) (old.is_open i) (within.positions i) shut)
      ∙ ap (λ (l : List ℕ). get_or l i 0) same;
}

module _ {D : Type 0} (contents : List ℕ) (front : FrontState) (committer : CommitterState D)
    (opens : Opens contents front committer) where
  abbrev s : Standing
  s = opens.standing

  pub is_free : IsFree committer
  is_free = record {
    sound = ap (λ (c : CommitterState D). c.broken) opens.committer_is;
    idle = ap (λ (c : CommitterState D). c.underway) opens.committer_is;
  }

  sizes_are : committer.sizes ≡ s.found.sizes
  sizes_are = ap (λ (c : CommitterState D). c.sizes) opens.committer_is

  rows_are : committer.rows ≡ rows_in s
  rows_are = ap (λ (c : CommitterState D). c.rows) opens.committer_is

  number_is : committer.number ≡ s.found.number
  number_is = ap (λ (c : CommitterState D). c.number) opens.committer_is

  -- what stands for what is committed stands for the same cache
  pub same_cache : (image : List ℕ) → ShowsCommitted committer image → StandsForSame contents image
  same_cache image shows = record {
    standing = s;
    verdict_is = opens.verdict_is;
    shows = subst (λ (x : Sizes × (List (Row (List ℕ)) × ℕ)). ShowsCache x.0 x.1.0 x.1.1 image)
        (λ k. (sizes_are k, (rows_are k, number_is k))) shows;
  }

  pub roots_told : (result : Result ℕ OpenFault)
      → IfOk result (λ roots. roots ≡ roots_of_rows committer.rows)
      → (IsErr result → result ≡ Err open_fault.Device)
      → FollowsVerdict (Uses contents) result (verdict contents)
  roots_told (Ok roots) told device = record {
    told = s;
    verdict_is = opens.verdict_is;
    alike = record {
      stands = opens.stands;
      roots_are = told ∙ ap (λ (l : List (Row (List ℕ))). roots_of_rows l) rows_are;
    };
  }
  roots_told (Err f) told device =
      subst (λ (r : Result ℕ OpenFault). FollowsVerdict (Uses contents) r (verdict contents))
      (sym (device refl)) tt

  pub trimmed_so : (roots : ℕ) (left : List ℕ) → roots ≡ roots_of_rows committer.rows
      → HasNoMore committer.sizes roots left → IsTrimmed contents left
  trimmed_so roots left told no_more = record {
    standing = s;
    verdict_is = opens.verdict_is;
    no_more = subst (λ (x : Sizes × ℕ). HasNoMore x.0 x.1 left)
        (λ k. (
          sizes_are k,
          (told ∙ ap (λ (l : List (Row (List ℕ))). roots_of_rows l) rows_are) k,
        ))
        no_more;
  }

-- ---- what is written

pub of_ok : {T E : Type 0} (r : Result T E) (P : T → Type 0) (x : T) → r ≡ Ok x → IfOk r P → P x
of_ok (Ok y) P x e p = subst P (cc) p
of_ok (Err f) P x e p = absurd (cc)

-- the status is done only if the number of roots is returned
pub done_roots : (held holds : Option (List ℕ)) (roots : Result ℕ OpenFault)
    (r : Result Status LineFault)
    → Writes held holds (told roots_line roots) (status_of roots) r
    → r ≡ Ok status.Done → (n : ℕ) × (roots ≡ Ok n)
done_roots held holds (Ok n) r written e = (n, refl)
done_roots held holds (Err f) r written e =
    absurd (never_done held holds (fault_line f) f r written e)
