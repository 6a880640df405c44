-- What a cache that ran leaves, from what was sent and what its flusher left.
-- For `Ended::leave`.
use Rattle.std.proofs.Common.{◌≡◌, ℕ, ◌+◌, ◌-◌, ◌≤◌, Bool, true, false, List, []}
use Rattle.std.proofs.Common.{◌∷◌, ◌++◌, Some, None, length, refl, sym, ap, subst, ◌∙◌, arith}
use Rattle.std.proofs.Common.{inl, inr, append_assoc}
use Rattle.std.specs.Prelude.{Option, ◌⊎◌}
use Rattle.std.proofs.lemmas.List.{length-append}
use Rattle.std.proofs.Math.Seq.{take-append_seam}
use Rattle.cm_disk.specs.Disk.{Unsynced}
use Rattle.cm_pool.specs.Geometry.{Sizes}
use Rattle.cm_layout.specs.declared.row.Row.{Row}
use Rattle.cm_group.specs.Groups.{Carried, Handed}
use Rattle.cm_guards.specs.Guards.{EachImage}
use Rattle.cm_guards.specs.Stages.{Stage, Store, Turn, MakeDurable, Cut, turned, leaves}
use Rattle.cm_commit.specs.Offers.{rows_after_group}
use Rattle.cm_commit.specs.States.{Work, Storing, Trimming}
use Rattle.cm_commit.specs.States.{CommitterState, ShowsCache, ShowsCommitted, ShowsWith, MayLeave}
use Rattle.cm_handover.specs.Ahead.{AllFollow}
use Rattle.cm_handover.proofs.{rows_after_two, follow_two}
use Rattle.cm_cache.specs.declared.channel.Base.{Base}
use Rattle.cm_cache.specs.declared.channel.Message.{Message}
use Rattle.cm_cache.specs.declared.channel.Message.TheVariants.{Group, End}
use Rattle.cm_cache.specs.Channel.{entries_of, InOrder}
use Rattle.cm_cache.specs.Flushing.{HasCommitted, IsOldest, EndedState, IsEnded}
use Rattle.cm_cache.specs.Closing.{ShowsBeginning}

-- ---- what was sent follows

in_order_follows : (base : Base) (before : List Carried) (sent : List Message)
    → InOrder base before sent
    → AllFollow base.sizes (rows_after_group base.rows before) (base.number + length before)
    (entries_of sent)
in_order_follows base before [] o = tt
in_order_follows base before (Group g ∷ sent) o =
    follow_two base.sizes (rows_after_group base.rows before) (base.number + length before)
    g.entries (entries_of sent) o.0.follow
    (subst (λ (x : List (Row (List ℕ)) × ℕ). AllFollow base.sizes x.0 x.1 (entries_of sent))
    (λ i. (rows_after_two base.rows before g.entries i, longer i))
    (in_order_follows base (before ++ g.entries) sent o.1))
  where
    longer : base.number + length (before ++ g.entries)
        ≡ base.number + length before + length g.entries
    longer = let count = length-append before g.entries in omega (arith, count)
in_order_follows base before (End ∷ sent) o =
    subst
    (λ (l : List Message). AllFollow base.sizes (rows_after_group base.rows before)
    (base.number + length before) (entries_of l)) (sym o) tt

pub sent_follow : (base : Base) (sent : List Message) → InOrder base [] sent
    → AllFollow base.sizes base.rows base.number (entries_of sent)
sent_follow base sent ordered =
    subst (λ n. AllFollow base.sizes base.rows n (entries_of sent)) first
    (in_order_follows base [] sent ordered)
  where
    first : base.number + 0 ≡ base.number
    first = omega arith

-- ---- what is committed, and what is under way

at_gate : (stages : List Stage) (before after : List ℕ → Type 0) (image : List ℕ)
    → turned stages before after image → before image ⊎ after image
at_gate [] before after image l = l.which
at_gate (stage ∷ stages) before after image l = inl l

pub either : (left : List Stage) (before after : List ℕ → Type 0) (image : List ℕ)
    → leaves left before after image → before image ⊎ after image
either [] before after image l = inl l
either (Store writes ∷ stages) before after image l = inl l
either (Turn gate byte ∷ stages) before after image l = at_gate stages before after image l
either (MakeDurable ∷ stages) before after image l = at_gate stages before after image l
either (Cut len ∷ stages) before after image l = inl l

module _ {D : Type 0} (base : Base) (done : List Carried) (s : CommitterState D)
    (at : HasCommitted base done s) where
  -- how many are committed
  abbrev least : ℕ
  least = s.number - base.number

  least_is : least ≡ length done
  least_is = let number = at.number in omega (arith, number)

  -- a beginning that the image holds
  begins : (image : List ℕ) (first rest : List Carried) → least ≤ length first
      → ShowsCache base.sizes (rows_after_group base.rows first) (base.number + length first) image
      → ShowsBeginning base (first ++ rest) least image
  begins image first rest from shows = record {
    stored = length first;
    from = from;
    to = let count = length-append first rest in omega (arith, count);
    shows = subst
        (λ l. ShowsCache base.sizes (rows_after_group base.rows l) (base.number + length first)
        image)
        (sym (take-append_seam first rest)) shows;
  }

  pub committed : (rest : List Carried) (image : List ℕ) → ShowsCommitted s image
      → ShowsBeginning base (done ++ rest) least image
  committed rest image shows =
      begins image done rest (let is = least_is in omega (arith, is))
      (subst (λ (x : Sizes × (List (Row (List ℕ)) × ℕ)). ShowsCache x.0 x.1.0 x.1.1 image)
      (λ i. (at.sizes i, (at.rows i, at.number i))) shows)

  pub with_group : (group : Handed) (more : List Carried) (image : List ℕ)
      → ShowsCache s.sizes (rows_after_group s.rows group.entries)
      (s.number + length group.entries) image
      → ShowsBeginning base (done ++ (group.entries ++ more)) least image
  with_group group more image shows =
      subst (λ l. ShowsBeginning base l least image)
      (append_assoc done group.entries more)
      (begins image (done ++ group.entries) more
      (let is = least_is in
      let count = length-append done group.entries in
      omega (arith, is, count))
      (subst (λ (x : Sizes × (List (Row (List ℕ)) × ℕ)). ShowsCache x.0 x.1.0 x.1.1 image)
      (λ i. (at.sizes i, (rows_are i, number_is i))) shows))
    where
      rows_are : rows_after_group s.rows group.entries
          ≡ rows_after_group base.rows (done ++ group.entries)
      rows_are =
          ap (λ rows. rows_after_group rows group.entries) at.rows
          ∙ sym (rows_after_two base.rows done group.entries)

      number_is : s.number + length group.entries
          ≡ base.number + length (done ++ group.entries)
      number_is =
          let number = at.number in
          let count = length-append done group.entries in
          omega (arith, number, count)

  with_underway : (u : Option Work) (rest : List Carried) → IsOldest u rest
      → (image : List ℕ) → ShowsWith s u image → ShowsBeginning base (done ++ rest) least image
  with_underway None rest oldest image shows = committed rest image shows
  with_underway (Some Trimming) rest oldest image shows = committed rest image shows
  with_underway (Some (Storing group)) rest oldest image shows =
      subst (λ l. ShowsBeginning base (done ++ l) least image) (sym oldest.1)
      (with_group group oldest.0 image shows)

  pub one_of : (rest : List Carried) → IsOldest s.underway rest → (image : List ℕ)
      → ShowsCommitted s image ⊎ ShowsWith s s.underway image
      → ShowsBeginning base (done ++ rest) least image
  one_of rest oldest image (inl shows) = committed rest image shows
  one_of rest oldest image (inr shows) = with_underway s.underway rest oldest image shows

-- ---- once the flusher has ended

module _ {D : Type 0} (base : Base) (failed : ℕ) (failures : D → ℕ) (e : EndedState D)
    (i : IsEnded base failed failures e) (sent : List Message) (all : sent ≡ e.received) where
  entries_are : entries_of sent ≡ i.done ++ i.rest
  entries_are = ap entries_of all ∙ i.all

  pub least_known : base.number ≤ e.committer.number
  least_known = let number = i.at.number in omega (arith, number)

  pub most_known : e.committer.number ≤ base.number + length (entries_of sent)
  most_known =
      let number = i.at.number in
      let entries = ap length entries_are in
      let count = length-append i.done i.rest in
      omega (arith, number, entries, count)

  pub shows_sent : (contents : List ℕ) (unsynced : Unsynced)
      → EachImage contents unsynced (MayLeave e.committer)
      → EachImage contents unsynced
      (ShowsBeginning base (entries_of sent) (e.committer.number - base.number))
  shows_sent contents unsynced images = record {
    each = λ image is.
        subst (λ l. ShowsBeginning base l (e.committer.number - base.number) image)
        (sym entries_are)
        (one_of base i.done e.committer i.at i.rest i.oldest image
        (either e.committer.left (ShowsCommitted e.committer)
        (ShowsWith e.committer e.committer.underway) image (images.each image is)));
  }

  -- the device didn't fail, so nothing is left
  unbroken : failures e.committer.disk ≡ failed → (b : Bool) → e.committer.broken ≡ b
      → e.committer.broken ≡ false
  unbroken same true broken = let more = i.cause broken in absurd (omega (arith, same, more))
  unbroken same false whole = whole

  pub all_committed : failures e.committer.disk ≡ failed
      → (e.committer.number ≡ base.number + length (entries_of sent))
      × (e.posted.broken ≡ false)
  all_committed same =
      let whole = i.whole (unbroken same e.committer.broken refl) in (
        (let number = i.at.number in
            let entries = ap length entries_are in
            let count = length-append i.done i.rest in
            let none = ap length whole.0 in
            omega (arith, number, entries, count, none)),
        whole.1,
      )
