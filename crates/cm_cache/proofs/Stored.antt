-- What the device calls of a group do to a committer.
-- For `store_group`, `make_calls`.
use Rattle.std.proofs.Common.{◌≡◌, ℕ, ◌+◌, ◌-◌, ◌<◌, ◌≤◌, true≢false, List, []}
use Rattle.std.proofs.Common.{Some, None, Err, length, refl, sym, ap, subst, ◌∙◌, arith, inl}
use Rattle.std.proofs.Common.{inr}
use Rattle.std.specs.Prelude.{Option, IfSome, IfNone}
use Rattle.cm_disk.specs.Disk.{View, OnlyNow}
use Rattle.cm_pool.specs.Geometry.{Sizes}
use Rattle.cm_layout.specs.declared.row.Row.{Row}
use Rattle.cm_group.specs.declared.receipt.Receipt.{Receipt}
use Rattle.cm_group.specs.Groups.{Handed}
use Rattle.cm_guards.specs.Calls.{LeavesOnly}
use Rattle.cm_guards.specs.Guards.{EachImage}
use Rattle.cm_guards.specs.Stages.{Stage, calls_left, after_call}
use Rattle.cm_guards.proofs.{one_call_less, leaves_none, leaves_on, leaves_more, leaves_so}
use Rattle.cm_guards.proofs.{leaves_one}
use Rattle.cm_commit.specs.declared.progress.AdvanceFault.{AdvanceFault}
use Rattle.cm_commit.specs.declared.progress.AdvanceFault.TheVariants.{Device, Broken}
use Rattle.cm_commit.specs.Offers.{rows_after_group}
use Rattle.cm_commit.specs.States.{Storing, Trimming, CommitterState, TakesGroup, with_taken}
use Rattle.cm_commit.specs.States.{ShowsCache, ShowsCommitted, ShowsWith, MayLeave}
use Rattle.cm_commit.specs.Advances.{Trims, Advances, HasRisen, Rests, Works, Finishes}
use Rattle.cm_cache.specs.Storing.{SameCommitted, IsUnderway, IsCommittedGroup, IsLeftBroken}
use Rattle.cm_cache.specs.Storing.{ShowsEither}

some_is : (a b : Handed) → Some (Storing a) ≡ Some (Storing b) → a ≡ b
some_is a b e = cc

module _ {D : Type 0} where
  -- ---- taken

  pub taken_is_underway : (view : View D) (s : CommitterState D) (group : Handed)
      (new : CommitterState D) (calls : ℕ) → TakesGroup s group → new ≡ with_taken view s group
      → calls_left new.left ≡ calls + 1 → IsUnderway s group new
  taken_is_underway view s group new calls takes is left = record {
    same = record {
      sizes = ap (λ (t : CommitterState D). t.sizes) is;
      rows = ap (λ (t : CommitterState D). t.rows) is;
      number = ap (λ (t : CommitterState D). t.number) is;
    };
    sound = ap (λ (t : CommitterState D). t.broken) is ∙ takes.sound;
    group_is = ap (λ (t : CommitterState D). t.underway) is;
    some = calls;
    left = left;
  }

  pub underway_itself : (old s : CommitterState D) (group : Handed) → IsUnderway old group s
      → IsUnderway s group s
  underway_itself old s group u = record {
    same = record { sizes = refl; rows = refl; number = refl };
    sound = u.sound;
    group_is = u.group_is;
    some = u.some;
    left = u.left;
  }

  -- ---- one call

  pub works : (old s new : CommitterState D) (group : Handed) → Works s new
      → IsUnderway old group s → IsUnderway old group new
  works old s new group w u = record {
    same = record {
      sizes = ap (λ (t : CommitterState D). t.sizes) w.new_is ∙ u.same.sizes;
      rows = ap (λ (t : CommitterState D). t.rows) w.new_is ∙ u.same.rows;
      number = ap (λ (t : CommitterState D). t.number) w.new_is ∙ u.same.number;
    };
    sound = ap (λ (t : CommitterState D). t.broken) w.new_is ∙ u.sound;
    group_is = ap (λ (t : CommitterState D). t.underway) w.new_is ∙ u.group_is;
    some = calls_left (after_call s.left) - 1;
    left =
        ap (λ (t : CommitterState D). calls_left t.left) w.new_is
        ∙ (let less = one_call_less s.left some_left in
        let more = w.more in
        omega (arith, less, more));
  }
    where
      none_left : (left : List Stage) → left ≡ [] → 2 ≤ calls_left left → ⊥
      none_left left e more =
          let zero_left = ap calls_left e in
          omega (arith, zero_left, more)

      some_left : s.left ≡ [] → ⊥
      some_left e = none_left s.left e w.more

  pub finishes : (old s new : CommitterState D) (receipt : Receipt) (group : Handed)
      → Finishes s receipt new → IsUnderway old group s
      → IsCommittedGroup old group receipt.number new
  finishes old s new receipt group f u = record {
    sizes = ap (λ (t : CommitterState D). t.sizes) f.new_is ∙ u.same.sizes;
    rows =
        ap (λ (t : CommitterState D). t.rows) f.new_is
        ∙ ap (λ (g : Handed). rows_after_group s.rows g.entries) same
        ∙ ap (λ rows. rows_after_group rows group.entries) u.same.rows;
    number = number;
    sound = ap (λ (t : CommitterState D). t.broken) f.new_is ∙ f.sound;
    idle = ap (λ (t : CommitterState D). t.underway) f.new_is;
    is_told = f.told ∙ sym (ap (λ (t : CommitterState D). t.number) f.new_is);
  }
    where
      same : f.group ≡ group
      same = some_is f.group group (sym f.underway ∙ u.group_is)

      number : new.number ≡ old.number + length group.entries
      number =
          ap (λ (t : CommitterState D). t.number) f.new_is
          ∙ ap (λ (g : Handed). s.number + length g.entries) same
          ∙ ap (λ n. n + length group.entries) u.same.number

  pub fails : (old s new : CommitterState D) (fault : AdvanceFault) (group : Handed)
      → Advances s (Err fault) new → IsUnderway old group s → IsLeftBroken old group new
  fails old s new Device group b u = record {
    same = record {
      sizes = ap (λ (t : CommitterState D). t.sizes) b.new_is ∙ u.same.sizes;
      rows = ap (λ (t : CommitterState D). t.rows) b.new_is ∙ u.same.rows;
      number = ap (λ (t : CommitterState D). t.number) b.new_is ∙ u.same.number;
    };
    broken = ap (λ (t : CommitterState D). t.broken) b.new_is;
    group_is = ap (λ (t : CommitterState D). t.underway) b.new_is ∙ u.group_is;
  }
  fails old s new Broken group b u = absurd (true≢false (sym b.broken ∙ u.sound))

  pub fails_by_device : (old s new : CommitterState D) (fault : AdvanceFault) (group : Handed)
      (before now : ℕ) → Advances s (Err fault) new → IsUnderway old group s
      → HasRisen before now (Err fault) → before < now
  fails_by_device old s new Device group before now b u risen = risen.device tt
  fails_by_device old s new Broken group before now b u risen =
      absurd (true≢false (sym b.broken ∙ u.sound))

  -- something is left to do
  pub not_idle : (old s new : CommitterState D) (group : Handed) → Rests s new
      → IsUnderway old group s → ⊥
  not_idle old s new group r u =
      let none = ap calls_left r.none in
      let left = u.left in
      omega (arith, none, left)

  -- what is under way is a group
  pub no_trim : (old s new : CommitterState D) (group : Handed) (roots : ℕ) → Trims s roots new
      → IsUnderway old group s → ⊥
  no_trim old s new group roots t u = differ (sym t.underway ∙ u.group_is)
    where
      differ : Some Trimming ≡ Some (Storing group) → ⊥
      differ e = cc

  -- ---- at each moment

  shows_before : (old s : CommitterState D) (group : Handed) → SameCommitted old s
      → (image : List ℕ) → ShowsCommitted s image → ShowsEither old group image
  shows_before old s group same image shows = record {
    which = inl (subst
        (λ (x : Sizes × (List (Row (List ℕ)) × ℕ)). ShowsCache x.0 x.1.0 x.1.1 image)
        (λ i. (same.sizes i, (same.rows i, same.number i))) shows);
  }

  shows_after : (old s : CommitterState D) (group : Handed) → SameCommitted old s
      → (image : List ℕ) → ShowsWith s (Some (Storing group)) image → ShowsEither old group image
  shows_after old s group same image shows = record {
    which = inr (subst
        (λ (x : Sizes × (List (Row (List ℕ)) × ℕ)).
        ShowsCache x.0 (rows_after_group x.1.0 group.entries) (x.1.1 + length group.entries) image)
        (λ i. (same.sizes i, (same.rows i, same.number i))) shows);
  }

  shows_either : (old s : CommitterState D) (group : Handed) → IsUnderway old group s
      → (image : List ℕ) → MayLeave s image → ShowsEither old group image
  shows_either old s group u image l =
      leaves_one s.left (ShowsEither old group) image
      (leaves_so s.left (ShowsCommitted s) (ShowsWith s s.underway) (ShowsEither old group)
      (ShowsEither old group) (shows_before old s group u.same)
      (λ x shows. shows_after old s group u.same x
      (subst (λ o. ShowsWith s o x) u.group_is shows)) image l)

  pub no_moment : (view : View D) → OnlyNow view → (s : CommitterState D) (group : Handed)
      → EachImage (view.contents s.disk) (view.unsynced s.disk) (MayLeave s)
      → IsUnderway s group s → LeavesOnly view s.disk s.disk (ShowsEither s group)
  no_moment view only_now s group images u =
      leaves_none view only_now s.disk (ShowsEither s group)
      (record { each = λ image is. shows_either s s group u image (images.each image is) })

  pub one_more_call : (view : View D) (old s new : CommitterState D) (group : Handed)
      → IsUnderway old group s → LeavesOnly view old.disk s.disk (ShowsEither old group)
      → LeavesOnly view s.disk new.disk (MayLeave s)
      → LeavesOnly view old.disk new.disk (ShowsEither old group)
  one_more_call view old s new group u before call =
      leaves_on view old.disk s.disk new.disk (ShowsEither old group) before
      (leaves_more view s.disk new.disk (MayLeave s) (ShowsEither old group)
      (shows_either old s group u) call)

  -- the offer made no call
  pub moments_since_offer : (view : View D) (old s new : CommitterState D) (group : Handed)
      → s ≡ with_taken view old group → LeavesOnly view s.disk new.disk (ShowsEither s group)
      → LeavesOnly view old.disk new.disk (ShowsEither old group)
  moments_since_offer view old s new group is leaves =
      subst (λ (t : CommitterState D). LeavesOnly view t.disk new.disk (ShowsEither t group)) is
      leaves

  -- ---- after the offer

  pub stored_from : (old s new : CommitterState D) (group : Handed) (told : ℕ)
      → SameCommitted old s → IsCommittedGroup s group told new
      → IsCommittedGroup old group told new
  stored_from old s new group told same is = record {
    sizes = is.sizes ∙ same.sizes;
    rows = is.rows ∙ ap (λ rows. rows_after_group rows group.entries) same.rows;
    number = is.number ∙ ap (λ n. n + length group.entries) same.number;
    sound = is.sound;
    idle = is.idle;
    is_told = is.is_told;
  }

  pub left_from : (old s new : CommitterState D) (group : Handed) → SameCommitted old s
      → IsLeftBroken s group new → IsLeftBroken old group new
  left_from old s new group same is = record {
    same = record {
      sizes = is.same.sizes ∙ same.sizes;
      rows = is.same.rows ∙ same.rows;
      number = is.same.number ∙ same.number;
    };
    broken = is.broken;
    group_is = is.group_is;
  }

  pub all_stored_from : (old s new : CommitterState D) (group : Handed) (r : Option Receipt)
      → IsUnderway old group s
      → IfSome r (λ t. (g : Handed) → IsUnderway s g s → IsCommittedGroup s g t.number new)
      → IfSome r (λ t. IsCommittedGroup old group t.number new)
  all_stored_from old s new group None u h = tt
  all_stored_from old s new group (Some t) u h =
      stored_from old s new group t.number u.same (h group (underway_itself old s group u))

  pub all_left_from : (old s new : CommitterState D) (group : Handed) (r : Option Receipt)
      → IsUnderway old group s
      → IfNone r ((g : Handed) → IsUnderway s g s → IsLeftBroken s g new)
      → IfNone r (IsLeftBroken old group new)
  all_left_from old s new group None u h =
      left_from old s new group u.same (h group (underway_itself old s group u))
  all_left_from old s new group (Some t) u h = tt
