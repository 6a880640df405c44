-- What was received matches what is durable, before and after each step of the flusher.
-- For `Flushing`, `Ended`.
use Rattle.std.proofs.Common.{◌≡◌, ℕ, ◌<◌, ◌≤◌, true, false, true≢false, List, [], ◌∷◌}
use Rattle.std.proofs.Common.{◌++◌, Some, None, refl, sym, ap, subst, ◌∙◌, arith}
use Rattle.std.proofs.Common.{append_assoc}
use Rattle.std.specs.Prelude.{Option, is_some}
use Rattle.std.proofs.lemmas.List.{length-append, append-nil}
use Rattle.cm_pool.specs.Geometry.{Sizes}
use Rattle.cm_layout.specs.declared.row.Row.{Row}
use Rattle.cm_group.specs.Groups.{Carried, Handed, IsContinuedBy, joined_group}
use Rattle.cm_commit.specs.Offers.{MayCome, rows_after_group}
use Rattle.cm_commit.specs.States.{Work, Storing, Trimming, CommitterState, TakesGroup}
use Rattle.cm_handover.specs.Carrying.{GroupMayFollow, JoinedCarriesOn, CarriedMayCome}
use Rattle.cm_handover.proofs.{rows_after_two}
use Rattle.cm_cache.specs.declared.board_view.Seen.{Seen}
use Rattle.cm_cache.specs.declared.channel.Base.{Base}
use Rattle.cm_cache.specs.declared.channel.Message.{Message}
use Rattle.cm_cache.specs.declared.channel.Message.TheVariants.{Group, End}
use Rattle.cm_cache.specs.Channel.{entries_of, is_open, MayBeSent}
use Rattle.cm_cache.specs.Storing.{IsCommittedGroup, IsLeftBroken}
use Rattle.cm_cache.specs.Flushing.{waiting, WaitsOn, HasCommitted, FlushingState, IsFlushing}
use Rattle.cm_cache.specs.Flushing.{EndedState, IsEnded, IsOldest, OnlyReceives}
use Rattle.cm_cache.proofs.Tied.{entries-append}

-- ---- the End

pub entries_with_end : (l : List Message) → entries_of (l ++ End ∷ []) ≡ entries_of l
entries_with_end [] = refl
entries_with_end (Group g ∷ l) = ap (λ r. g.entries ++ r) (entries_with_end l)
entries_with_end (End ∷ l) = entries_with_end l

pub closed_by_end : (l : List Message) → is_open (l ++ End ∷ []) ≡ false
closed_by_end [] = refl
closed_by_end (Group g ∷ l) = closed_by_end l
closed_by_end (End ∷ l) = refl

off : true ≡ false → ⊥
off e = true≢false e

none_is : (o : Option Handed) → is_some o ≡ false → o ≡ None
none_is None e = refl
none_is (Some g) e = absurd (off e)

-- ---- what is received

pub receives_none : {D : Type 0} (f : FlushingState D) → OnlyReceives f f
receives_none f = record {
  same = refl;
  posted = refl;
  more = [];
  received = sym (append-nil f.received);
}

pub receives_one : {D : Type 0} (old inside new : FlushingState D) (m : Message) → inside ≡ old
    → new.committer ≡ inside.committer → new.posted ≡ inside.posted
    → new.received ≡ inside.received ++ m ∷ [] → OnlyReceives old new
receives_one old inside new m is same posted received = record {
  same = same ∙ ap (λ (f : FlushingState _). f.committer) is;
  posted = posted ∙ ap (λ (f : FlushingState _). f.posted) is;
  more = m ∷ [];
  received = received ∙ ap (λ (f : FlushingState _). f.received ++ m ∷ []) is;
}

pub drops_one : {D : Type 0} (old inside : EndedState D) (received : List Message) (m : Message)
    → inside ≡ old → received ≡ inside.received ++ m ∷ []
    → (more : List Message) × (received ≡ old.received ++ more)
drops_one old inside received m is more =
    (m ∷ [], more ∙ ap (λ (e : EndedState _). e.received ++ m ∷ []) is)

pub receives_on : {D : Type 0} (a b c : FlushingState D) → OnlyReceives a b → OnlyReceives b c
    → OnlyReceives a c
receives_on a b c first second = record {
  same = second.same ∙ first.same;
  posted = second.posted ∙ first.posted;
  more = first.more ++ second.more;
  received =
      second.received
      ∙ ap (λ l. l ++ second.more) first.received
      ∙ append_assoc a.received first.more second.more;
}

module _ {D : Type 0} (base : Base) (failed : ℕ) (failures : D → ℕ) where
  -- ---- receiving

  pub end_came : (f : FlushingState D) (received : List Message) → IsFlushing base failed failures f
      → received ≡ f.received ++ End ∷ []
      → IsFlushing base failed failures (record f { received = received; over = true })
  end_came f received i is = record {
    done = i.done;
    all = ap entries_of is ∙ entries_with_end f.received ∙ i.all;
    at = record { sizes = i.at.sizes; rows = i.at.rows; number = i.at.number };
    sound = i.sound;
    idle = i.idle;
    says = i.says;
    next_on = i.next_on;
    behind_on = i.behind_on;
    ended = λ _. ap is_open is ∙ closed_by_end f.received;
    later = i.later;
  }

  pub end_came_with : (f : FlushingState D) (next : Handed) (received : List Message)
      → IsFlushing base failed failures f → f.next ≡ Some next → received ≡ f.received ++ End ∷ []
      → IsFlushing base failed failures
      (record f { received = received; next = Some next; over = true })
  end_came_with f next received i next_is is =
      subst
      (λ o. IsFlushing base failed failures
      (record f { received = received; next = o; over = true }))
      next_is (end_came f received i is)

  pub fetched : (f : FlushingState D) (received : List Message) (group : Handed)
      → IsFlushing base failed failures f → is_some f.next ≡ false → is_some f.behind ≡ false
      → f.over ≡ false → received ≡ f.received ++ Group group ∷ []
      → MayBeSent base (entries_of f.received) (Group group)
      → IsFlushing base failed failures (record f { received = received; next = Some group })
  fetched f received group i no_next no_behind going is may = record {
    done = i.done;
    all =
        ap entries_of is
        ∙ entries-append f.received group
        ∙ ap (λ l. l ++ group.entries) is_done
        ∙ ap (λ l. i.done ++ l) (sym (append-nil group.entries))
        ∙ ap (λ o. i.done ++ (group.entries ++ waiting o)) (sym (none_is f.behind no_behind));
    at = record { sizes = i.at.sizes; rows = i.at.rows; number = i.at.number };
    sound = i.sound;
    idle = i.idle;
    says = i.says;
    next_on = subst (λ l. MayBeSent base l (Group group)) is_done may;
    behind_on =
        subst (WaitsOn base (i.done ++ group.entries)) (sym (none_is f.behind no_behind)) tt;
    ended = λ over. absurd (off (sym over ∙ going));
    later = i.later;
  }
    where
      is_done : entries_of f.received ≡ i.done
      is_done =
          i.all
          ∙ ap (λ (o : Option Handed). i.done ++ (waiting o ++ waiting f.behind))
          (none_is f.next no_next)
          ∙ ap (λ (o : Option Handed). i.done ++ waiting o) (none_is f.behind no_behind)
          ∙ append-nil i.done

  -- ---- joining

  pub received_more : (f : FlushingState D) (next group : Handed)
      → (i : IsFlushing base failed failures f)
      → f.next ≡ Some next → is_some f.behind ≡ false
      → MayBeSent base (entries_of f.received) (Group group)
      → GroupMayFollow base.sizes base.rows base.number (i.done ++ next.entries) group
  received_more f next group i next_is no_behind may =
      subst (λ l. MayBeSent base l (Group group))
      (i.all
      ∙ ap (λ (o : Option Handed). i.done ++ (waiting o ++ waiting f.behind)) next_is
      ∙ ap (λ (o : Option Handed). i.done ++ (next.entries ++ waiting o))
      (none_is f.behind no_behind)
      ∙ ap (λ l. i.done ++ l) (append-nil next.entries))
      may

  all_with : (f : FlushingState D) (next group : Handed) (received : List Message)
      (i : IsFlushing base failed failures f) → f.next ≡ Some next → is_some f.behind ≡ false
      → received ≡ f.received ++ Group group ∷ []
      → entries_of received ≡ (i.done ++ next.entries) ++ group.entries
  all_with f next group received i next_is no_behind is =
      ap entries_of is
      ∙ entries-append f.received group
      ∙ ap (λ l. l ++ group.entries)
      (i.all
      ∙ ap (λ (o : Option Handed). i.done ++ (waiting o ++ waiting f.behind)) next_is
      ∙ ap (λ (o : Option Handed). i.done ++ (next.entries ++ waiting o))
      (none_is f.behind no_behind)
      ∙ ap (λ l. i.done ++ l) (append-nil next.entries))

  pub joined_on : JoinedCarriesOn → (f : FlushingState D) (next group grown : Handed)
      (received : List Message) → IsFlushing base failed failures f → f.next ≡ Some next
      → is_some f.behind ≡ false → f.over ≡ false → received ≡ f.received ++ Group group ∷ []
      → MayBeSent base (entries_of f.received) (Group group) → IsContinuedBy next group
      → grown ≡ joined_group next group
      → IsFlushing base failed failures (record f { received = received; next = Some grown })
  joined_on law f next group grown received i next_is no_behind going is may goes same = record {
    done = i.done;
    all =
        all_with f next group received i next_is no_behind is
        ∙ append_assoc i.done next.entries group.entries
        ∙ ap (λ (g : Handed). i.done ++ g.entries) (sym same)
        ∙ ap (λ l. i.done ++ l) (sym (append-nil grown.entries))
        ∙ ap (λ (o : Option Handed). i.done ++ (grown.entries ++ waiting o))
        (sym (none_is f.behind no_behind));
    at = record { sizes = i.at.sizes; rows = i.at.rows; number = i.at.number };
    sound = i.sound;
    idle = i.idle;
    says = i.says;
    next_on = subst (λ g. GroupMayFollow base.sizes base.rows base.number i.done g) (sym same)
        (law base.sizes base.rows base.number i.done next group
        (subst (WaitsOn base i.done) next_is i.next_on)
        (received_more f next group i next_is no_behind may) goes);
    behind_on =
        subst (WaitsOn base (i.done ++ grown.entries)) (sym (none_is f.behind no_behind)) tt;
    ended = λ over. absurd (off (sym over ∙ going));
    later = i.later;
  }

  pub kept_behind : (f : FlushingState D) (next group : Handed) (received : List Message)
      → IsFlushing base failed failures f → f.next ≡ Some next → is_some f.behind ≡ false
      → f.over ≡ false → received ≡ f.received ++ Group group ∷ []
      → MayBeSent base (entries_of f.received) (Group group)
      → IsFlushing base failed failures
      (record f { received = received; next = Some next; behind = Some group })
  kept_behind f next group received i next_is no_behind going is may = record {
    done = i.done;
    all =
        all_with f next group received i next_is no_behind is
        ∙ append_assoc i.done next.entries group.entries;
    at = record { sizes = i.at.sizes; rows = i.at.rows; number = i.at.number };
    sound = i.sound;
    idle = i.idle;
    says = i.says;
    next_on = subst (WaitsOn base i.done) next_is i.next_on;
    behind_on = received_more f next group i next_is no_behind may;
    ended = λ over. absurd (off (sym over ∙ going));
    later = i.later;
  }

  -- ---- storing

  pub may_be_stored : CarriedMayCome → (f : FlushingState D) (group : Handed)
      → IsFlushing base failed failures f → f.next ≡ Some group → TakesGroup f.committer group
  may_be_stored law f group i next_is = record {
    sound = i.sound;
    idle = i.idle;
    next =
        subst
        (λ (x : Sizes × (List (Row (List ℕ)) × ℕ)). MayCome x.0 x.1.0 x.1.1 group)
        (λ k. (sym i.at.sizes k, (sym i.at.rows k, sym i.at.number k)))
        (law base.sizes base.rows base.number i.done group
        (subst (WaitsOn base i.done) next_is i.next_on));
  }

  pub has_stored : (f : FlushingState D) (group : Handed) (told : ℕ) (committer : CommitterState D)
      (i : IsFlushing base failed failures f) → IsCommittedGroup f.committer group told committer
      → HasCommitted base (i.done ++ group.entries) committer
  has_stored f group told committer i is = record {
    sizes = is.sizes ∙ i.at.sizes;
    rows =
        is.rows
        ∙ ap (λ rows. rows_after_group rows group.entries) i.at.rows
        ∙ sym (rows_after_two base.rows i.done group.entries);
    number =
        let count = length-append i.done group.entries in
        let number = is.number in
        let before = i.at.number in
        omega (arith, count, number, before);
  }

  pub stored : (f : FlushingState D) (group : Handed) (told : ℕ) (committer : CommitterState D)
      (posted : Seen) → IsFlushing base failed failures f → f.next ≡ Some group
      → IsCommittedGroup f.committer group told committer
      → failures f.committer.disk ≤ failures committer.disk
      → posted ≡ record {
        receipt = record { number = committer.number };
        broken = f.posted.broken;
      }
      → IsFlushing base failed failures
      (record f { committer = committer; posted = posted; next = None })
  stored f group told committer posted i next_is is later says = record {
    done = i.done ++ group.entries;
    all =
        i.all
        ∙ ap (λ (o : Option Handed). i.done ++ (waiting o ++ waiting f.behind)) next_is
        ∙ sym (append_assoc i.done group.entries (waiting f.behind));
    at = has_stored f group told committer i is;
    sound = is.sound;
    idle = is.idle;
    says =
        says
        ∙ ap (λ (s : Seen). record {
          receipt = record { number = committer.number };
          broken = s.broken;
        }) i.says;
    next_on = tt;
    behind_on =
        subst (λ l. WaitsOn base l f.behind) (sym (append-nil (i.done ++ group.entries)))
        (subst (λ (o : Option Handed). WaitsOn base (i.done ++ waiting o) f.behind) next_is
        i.behind_on);
    ended = i.ended;
    later = let before = i.later in omega (arith, before, later);
  }

  pub not_stored : (f : FlushingState D) (group : Handed) (committer : CommitterState D)
      (posted : Seen) → IsFlushing base failed failures f → f.next ≡ Some group
      → IsLeftBroken f.committer group committer
      → failures f.committer.disk < failures committer.disk
      → posted ≡ record { receipt = f.posted.receipt; broken = true }
      → IsEnded base failed failures (record {
        committer = committer;
        received = f.received;
        posted = posted;
        over = f.over;
      })
  not_stored f group committer posted i next_is is rose says = record {
    done = i.done;
    rest = waiting f.next ++ waiting f.behind;
    all = i.all;
    at = record {
      sizes = is.same.sizes ∙ i.at.sizes;
      rows = is.same.rows ∙ i.at.rows;
      number = is.same.number ∙ i.at.number;
    };
    says =
        ap (λ (s : Seen). s.receipt.number) says
        ∙ ap (λ (s : Seen). s.receipt.number) i.says
        ∙ sym is.same.number;
    oldest = subst (λ o. IsOldest o (waiting f.next ++ waiting f.behind)) (sym is.group_is)
        (waiting f.behind, ap (λ (o : Option Handed). waiting o ++ waiting f.behind) next_is);
    whole = λ sound. absurd (off (sym is.broken ∙ sound));
    told = λ _. ap (λ (s : Seen). s.broken) says;
    ended = i.ended;
    later = let before = i.later in omega (arith, before, rose);
    cause = λ _. let before = i.later in omega (arith, before, rose);
  }

  pub all_stored : (f : FlushingState D) → IsFlushing base failed failures f → f.next ≡ None
      → f.behind ≡ None
      → IsEnded base failed failures (record {
        committer = f.committer;
        received = f.received;
        posted = f.posted;
        over = f.over;
      })
  all_stored f i no_next no_behind = record {
    done = i.done;
    rest = [];
    all =
        i.all
        ∙ ap (λ (o : Option Handed). i.done ++ (waiting o ++ waiting f.behind)) no_next
        ∙ ap (λ (o : Option Handed). i.done ++ waiting o) no_behind;
    at = record { sizes = i.at.sizes; rows = i.at.rows; number = i.at.number };
    says = ap (λ (s : Seen). s.receipt.number) i.says;
    oldest = subst (λ o. IsOldest o []) (sym i.idle) tt;
    whole = λ _. (refl, ap (λ (s : Seen). s.broken) i.says);
    told = λ broken. absurd (off (sym broken ∙ i.sound));
    ended = i.ended;
    later = i.later;
    cause = λ broken. absurd (off (sym broken ∙ i.sound));
  }

  -- ---- dropping

  oldest_of_more : (o : Option Work) (rest more : List Carried) → IsOldest o rest
      → IsOldest o (rest ++ more)
  oldest_of_more None rest more h = tt
  oldest_of_more (Some Trimming) rest more h = tt
  oldest_of_more (Some (Storing g)) rest more h =
      (h.0 ++ more, ap (λ l. l ++ more) h.1 ∙ append_assoc g.entries h.0 more)

  pub dropped : (e : EndedState D) (group : Handed) (received : List Message)
      → IsEnded base failed failures e → e.committer.broken ≡ true → e.over ≡ false
      → received ≡ e.received ++ Group group ∷ []
      → IsEnded base failed failures (record e { received = received })
  dropped e group received i broken going is = record {
    done = i.done;
    rest = i.rest ++ group.entries;
    all =
        ap entries_of is
        ∙ entries-append e.received group
        ∙ ap (λ l. l ++ group.entries) i.all
        ∙ append_assoc i.done i.rest group.entries;
    at = record { sizes = i.at.sizes; rows = i.at.rows; number = i.at.number };
    says = i.says;
    oldest = oldest_of_more e.committer.underway i.rest group.entries i.oldest;
    whole = λ sound. absurd (off (sym broken ∙ sound));
    told = i.told;
    ended = λ over. absurd (off (sym over ∙ going));
    later = i.later;
    cause = i.cause;
  }

  pub end_came_late : (e : EndedState D) (received : List Message)
      → IsEnded base failed failures e → received ≡ e.received ++ End ∷ []
      → IsEnded base failed failures (record e { received = received; over = true })
  end_came_late e received i is = record {
    done = i.done;
    rest = i.rest;
    all = ap entries_of is ∙ entries_with_end e.received ∙ i.all;
    at = record { sizes = i.at.sizes; rows = i.at.rows; number = i.at.number };
    says = i.says;
    oldest = i.oldest;
    whole = i.whole;
    told = i.told;
    ended = λ _. ap is_open is ∙ closed_by_end e.received;
    later = i.later;
    cause = i.cause;
  }
