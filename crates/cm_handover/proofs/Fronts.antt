-- The accepted cache does what the machine does.
-- For `commands_follow_the_machine`, `committed_rows_are_the_machines`.
use Rattle.std.proofs.Common.{◌≡◌, ℕ, suc, ◌+◌, ◌^◌, Bool, true, false, cond, List, [], ◌∷◌, ◌++◌}
use Rattle.std.proofs.Common.{length, map, take, Option, Some, None, Result, Ok, Err, inl, inr}
use Rattle.std.proofs.Common.{refl}
use Rattle.std.proofs.Common.{sym, ap, subst, ◌∙◌, ◌<◌, arith, append-nil, append_assoc}
use Rattle.std.specs.Prelude.{◌⊎◌, ◌-◌}
use Rattle.std.specs.Option.{option_map}
use Rattle.std.proofs.lemmas.List.{length-append, map-append, length-take-le}
use Rattle.std.proofs.Math.Seq.{take-append_seam}
use Rattle.cm_class.specs.declared.class_file.ClassFile.{ClassFile}
use Rattle.cm_pool.specs.Geometry.{Sizes}
use Rattle.cm_record.specs.Layout.{lay}
use Rattle.cm_layout.specs.declared.row.Row.{Row}
use Rattle.cm_layout.specs.declared.row.Row.TheVariants.{Loader, Class}
use Rattle.cm_layout.specs.declared.entry.Entry.{Entry}
use Rattle.cm_layout.specs.declared.entry.Entry.TheVariants as entry
use Rattle.cm_layout.specs.Rows.{name_of, rows_after, rows_after_all, rows_with, entry_with}
use Rattle.cm_group.specs.Groups.{Carried}
use Rattle.cm_commands.specs.declared.refusal.Refusal.{Refusal}
use Rattle.cm_commands.specs.declared.refusal.Refusal.TheVariants as refusal
use Rattle.cm_commands.specs.Refusals.{refusal_of}
use Rattle.cm_space.specs.Space.{SpaceState}
use Rattle.cm_state.specs.State.{CacheState, Loaders, class_shows, words_show, class_in, state_of}
use Rattle.cm_state.specs.Step.{Change, AddLoader, Define, Unload, Tighten, UnloadAll, Cause, step}
use Rattle.cm_state.specs.Entries.{AreCacheRows, MayFollow, change_of, names_of}
use Rattle.cm_state.specs.Laws.{EntriesAreSteps, ChangesGoOn}
use Rattle.cm_commit.specs.Offers.{filled}
use Rattle.cm_front.specs.Front.{FrontState, IsFront, first_refusal}
use Rattle.cm_front.specs.Accepting.{FrontAccepts, HasNoChunk, SpaceAfter, accepted, carried}
use Rattle.cm_front.specs.Accepting.{refusal_of_chunk}
use Rattle.cm_handover.specs.Ahead.{IsAhead, pending}
use Rattle.cm_handover.proofs.Accepted.{filled_again, pending_accepted}
use Rattle.cm_commands.specs.Machine.{Base, Machine, Holds, Asks, WantsRoom, commands_to}
use Rattle.cm_commands.specs.Machine.{IsReason as IsMachineReason, Accepts}
use Rattle.cm_handover.specs.Following.{IsRightEntry, Make, Follows}
use Rattle.cm_handover.specs.Laws.{FollowsFront, IsAccepted, AcceptedIsMade, RefusedIsRefused}
use Rattle.cm_handover.specs.Laws.{FoundIsThere, CommandsAreCounted, RowsAreAfter, OpenedFollows}
use Rattle.cm_handover.proofs.Classes.{ClassRows, name_words, names_words, may_follow}
use Rattle.cm_handover.proofs.Causes.{Known, Both, cause_in, same_cause, same_class}
use Rattle.cm_handover.proofs.Making.{Whole, whole, make_two, map_length}

some_is : {A : Type 0} (x y : A) → Some x ≡ Some y → x ≡ y
some_is x y e = cc

-- ---- all that is accepted

whole_of : EntriesAreSteps ClassFile → ChangesGoOn → (k : Machine) (rows : List (Row (List ℕ)))
    (number : ℕ) (out : List Carried) (s : FrontState) → IsFront s
    → IsAhead rows number out s → (follows : FollowsFront k rows number out s) → Whole follows
whole_of steps on k rows number out s f a follows =
    whole steps on s.sizes k rows number (map filled (pending out s)) follows
    (let to = f.numbers in
    let is = a.numbers in
    let long = map_length filled (pending out s) in
    omega (arith, to, is, long))

as_many : (rows : List (Row (List ℕ))) (number : ℕ) (out : List Carried) (s : FrontState)
    → IsAhead rows number out s → number + length (map filled (pending out s)) ≡ s.number
as_many rows number out s a =
    ap (λ n. number + n) (map_length filled (pending out s)) ∙ a.numbers

-- ---- a command that is accepted

-- an entry with words is one with a class, which makes the change
record IsEntryOf (rows : ClassRows) (e : Entry (List ℕ)) (change : Change ClassFile) : Type 0 where
  with_class : Entry ClassFile
  words : entry_with lay with_class ≡ e
  right : IsRightEntry with_class
  makes : change_of rows with_class ≡ Some change

-- what a change is made from, if it is made from something found
asked_by : {X : Type 0} (made : X → Change (List ℕ)) (o : Option X) (asked : Change (List ℕ))
    → option_map made o ≡ Some asked → (x : X) × (o ≡ Some x) × (asked ≡ made x)
asked_by made None asked h = absurd (cc)
asked_by made (Some x) asked h = (x, refl, sym (some_is _ _ h))

entry_of : (s : FrontState) (rows : ClassRows) (e : Entry (List ℕ)) (space : SpaceState)
    (asked : Change (List ℕ)) (change : Change ClassFile) → rows_with lay rows ≡ s.rows
    → change_of s.rows e ≡ Some asked → SpaceAfter s e space → Asks asked change
    → IsEntryOf rows e change
entry_of s rows (entry.Live (Loader r)) space asked change are is after asks =
    let same : asked ≡ AddLoader r.name = sym (some_is _ _ is) in
    record {
      with_class = entry.Live (Loader r);
      words = refl;
      right = tt;
      makes = ap Some (sym (subst (λ a. Asks a change) same asks));
    }
entry_of s rows (entry.Live (Class r words)) space asked change are is after asks =
    by_name (name_of r.loader s.rows) refl is
  where
    by_name : (o : Option (List ℕ)) → name_of r.loader s.rows ≡ o
        → ◌≡◌ {A = Option (Change (List ℕ))} (option_map (λ x. Define x words) o) (Some asked)
        → IsEntryOf rows (entry.Live (Class r words)) change
    by_name None e h = absurd (cc)
    by_name (Some x) e h =
        let same : asked ≡ Define x words = sym (some_is _ _ h) in
        let class = subst (λ a. Asks a change) same asks in
        record {
          with_class = entry.Live (Class r class.0);
          words = ap (λ w. entry.Live (Class r w)) class.2;
          right = class.1;
          makes =
              ap (option_map (λ y. Define y class.0))
              (sym (name_words r.loader rows) ∙ (ap (name_of r.loader) are ∙ e))
              ∙ ap Some (sym class.3);
        }
entry_of s rows (entry.Unload u) space asked change are is after asks =
    let found = asked_by Unload (name_of u.loader s.rows) asked is in
    record {
      with_class = entry.Unload u;
      words = refl;
      right = tt;
      makes =
          ap (option_map Unload)
          (sym (name_words u.loader rows) ∙ (ap (name_of u.loader) are ∙ found.1))
          ∙ ap Some (sym (subst (λ a. Asks a change) found.2 asks));
    }
entry_of s rows (entry.Move m) space asked change are is after asks =
    let found = asked_by Tighten (name_of m.loader s.rows) asked is in
    record {
      with_class = entry.Move m;
      words = refl;
      right = tt;
      makes =
          ap (option_map Tighten)
          (sym (name_words m.loader rows) ∙ (ap (name_of m.loader) are ∙ found.1))
          ∙ ap Some (sym (subst (λ a. Asks a change) found.2 asks));
    }
entry_of s rows (entry.UnloadAll u) space asked change are is after asks =
    let found = asked_by UnloadAll (names_of s.rows u.loaders) asked is in
    record {
      with_class = entry.UnloadAll u;
      words = refl;
      right = tt;
      makes =
          ap (option_map UnloadAll)
          (sym (names_words u.loaders rows) ∙ (ap (λ l. names_of l u.loaders) are ∙ found.1))
          ∙ ap Some (sym (subst (λ a. Asks a change) found.2 asks));
    }

module _ (known : Known) (steps : EntriesAreSteps ClassFile) (on : ChangesGoOn) (k : Machine)
    (rows : List (Row (List ℕ))) (number : ℕ) (out : List Carried) (s new : FrontState)
    (asked : Change (List ℕ)) (change : Change ClassFile) (n : ℕ) (f : IsFront s) (g : IsFront new)
    (a : IsAhead rows number out s) (follows : FollowsFront k rows number out s)
    (asks : Asks asked change) (running : s.broken ≡ false)
    (made : FrontAccepts s asked n new) where
  abbrev waits : List (Entry (List ℕ))
  waits = map filled (pending out s)

  abbrev classes : ClassRows
  classes = rows_after_all follows.classes follows.entries

  w : Whole follows
  w = whole_of steps on k rows number out s f a follows

  abbrev next : Machine
  next = record k { commands = k.commands ++ change ∷ [] }

  all_of : number + length waits ≡ s.number
  all_of = as_many rows number out s a

  are : rows_with lay classes ≡ s.rows
  are = w.words ∙ a.rows_are

  abbrev e : IsEntryOf classes made.entry change
  e = entry_of s classes made.entry new.space asked change are made.change_is made.space asks

  may : MayFollow class_shows s.sizes (number + length waits) classes e.with_class
  may =
      subst (λ i. MayFollow class_shows s.sizes i classes e.with_class) (sym all_of)
      (may_follow known.tell s.sizes s.number classes e.with_class w.right e.right
      (subst (λ l. MayFollow words_show s.sizes s.number l (entry_with lay e.with_class)) (sym are)
      (subst (λ d. MayFollow words_show s.sizes s.number s.rows d) (sym e.words) made.may)))

  below : number + length waits < 2 ^ 63
  below =
      let all = all_of in
      let to = g.numbers in
      let more = ap (λ (t : FrontState). t.number) made.after in
      omega (arith, all, to, more)

  stepped : step class_shows s.sizes (state_of class_shows classes) (number + length waits) change
      ≡ Ok (state_of class_shows (rows_after classes e.with_class))
  stepped =
      let one = steps class_shows s.sizes (number + length waits) classes e.with_class w.cache may
      below
      in
      subst (λ c. step class_shows s.sizes (state_of class_shows classes) (number + length waits) c
      ≡ Ok (state_of class_shows (rows_after classes e.with_class)))
      (some_is one.change change (sym one.change_is ∙ e.makes)) one.next

  accepts : Accepts s.sizes k change n next
  accepts = record {
    state = state_of class_shows classes;
    holds = w.holds;
    after = state_of class_shows (rows_after classes e.with_class);
    may = subst (λ i. step class_shows s.sizes (state_of class_shows classes) i change
        ≡ Ok (state_of class_shows (rows_after classes e.with_class))) (sym w.count) stepped;
    number_is =
        let count = w.count in
        let all = all_of in
        let is = made.number in
        omega (arith, count, all, is);
    next_is = refl;
  }

  -- the classes of the rows after all that waits, by the entries that wait
  last_makes : Make s.sizes (rows_after_all follows.classes follows.entries)
      (number + length follows.entries) (e.with_class ∷ []) (change ∷ [])
  last_makes = (
    subst (λ i. MayFollow class_shows s.sizes i (rows_after_all follows.classes follows.entries)
        e.with_class) (ap (λ i. number + i) long) may,
    e.makes,
    e.right,
    tt,
  )
    where
      long : length waits ≡ length follows.entries
      long = sym (ap length follows.words) ∙ map_length (entry_with lay) follows.entries

  more : map filled (pending out (accepted s made.entry new.space)) ≡ waits ++ made.entry ∷ []
  more =
      ap (map filled) (pending_accepted out s made.entry new.space)
      ∙ (map-append filled (pending out s) (carried s.rows made.entry ∷ [])
      ∙ ap (λ d. waits ++ d ∷ []) (filled_again s.rows made.entry))

  goes_on : Follows s.sizes next rows number (waits ++ made.entry ∷ [])
  goes_on = record {
    classes = follows.classes;
    are = follows.are;
    entries = follows.entries ++ e.with_class ∷ [];
    words =
        map-append (entry_with lay) follows.entries (e.with_class ∷ [])
        ∙ (ap (λ l. l ++ entry_with lay e.with_class ∷ []) follows.words
        ∙ ap (λ d. waits ++ d ∷ []) e.words);
    first = follows.first;
    rest = follows.rest ++ change ∷ [];
    commands =
        sym (append_assoc follows.first follows.rest (change ∷ []))
        ∙ ap (λ l. l ++ change ∷ []) follows.commands;
    count = follows.count;
    holds = follows.holds;
    make = make_two s.sizes follows.classes number follows.entries (e.with_class ∷ []) follows.rest
        (change ∷ []) follows.make last_makes;
  }

  is_accepted : IsAccepted k (record { rows = rows; number = number; out = out }) s new asked n
  is_accepted = record {
    whole = running;
    change = change;
    asks = asks;
    next = next;
    accepts = accepts;
    follows = subst (λ (t : FrontState). FollowsFront next rows number out t) (sym made.after)
        (subst (λ l. Follows s.sizes next rows number l) (sym more) goes_on);
  }

runs : (s : FrontState) (asked : Change (List ℕ)) → first_refusal s asked ≡ None → s.broken ≡ false
runs s asked h =
    by_flags s.closed s.broken
    (elim (step words_show s.sizes (state_of words_show s.rows) s.number asked) [
      | Err cause ↦ Some (refusal_of cause)
      | Ok next ↦ None
    ]) h
  where
    by_flags : (closed broken : Bool) (rest : Option Refusal)
        → ◌≡◌ {A = Option Refusal}
        (cond closed (Some refusal.Closed) (cond broken (Some refusal.Broken) rest)) None
        → broken ≡ false
    by_flags true broken rest e = absurd (cc)
    by_flags false true rest e = absurd (cc)
    by_flags false false rest e = refl

pub accepted_is_made : Known → EntriesAreSteps ClassFile → ChangesGoOn → AcceptedIsMade
accepted_is_made known steps on k rows number out s new asked change n f g a follows asks
    answer =
    is_accepted known steps on k rows number out s new asked change n f g a follows asks
    (runs s asked answer.0) answer.2

-- ---- a command that is refused

cause_is : (r : Result CacheState Cause) (cause : Cause) → cause_in r ≡ Some cause → r ≡ Err cause
cause_is (Err d) cause h = ap Err (some_is d cause h)
cause_is (Ok m) cause h = absurd (cc)

-- a result without a cause
none_is : (r : Result CacheState Cause) → cause_in r ≡ None → (m : CacheState) × (r ≡ Ok m)
none_is (Err d) h = absurd (cc)
none_is (Ok m) h = (m, refl)

-- why a command is refused if no cause stands against it
wants_room : (s : FrontState) (asked : Change (List ℕ)) (change : Change ClassFile) (r : Refusal)
    → Asks asked change
    → ((r ≡ refusal_of_chunk asked) × HasNoChunk s asked)
    ⊎ ((r ≡ refusal.NoMemory) × ¬ HasNoChunk s asked)
    → WantsRoom change r
wants_room s (AddLoader x) change r asks (inl none) = absurd none.1
wants_room s (AddLoader x) change r asks (inr memory) =
    subst (λ c. WantsRoom c r) (sym asks) memory.0
wants_room s (Define x words) change r asks (inl none) =
    subst (λ c. WantsRoom c r) (sym asks.3) (inl none.0)
wants_room s (Define x words) change r asks (inr memory) =
    subst (λ c. WantsRoom c r) (sym asks.3) (inr memory.0)
wants_room s (Unload x) change r asks (inl none) = absurd none.1
wants_room s (Unload x) change r asks (inr memory) =
    subst (λ c. WantsRoom c r) (sym asks) memory.0
wants_room s (UnloadAll xs) change r asks (inl none) = absurd none.1
wants_room s (UnloadAll xs) change r asks (inr memory) =
    subst (λ c. WantsRoom c r) (sym asks) memory.0
wants_room s (Tighten x) change r asks (inl none) =
    subst (λ c. WantsRoom c r) (sym asks) (inl none.0)
wants_room s (Tighten x) change r asks (inr memory) =
    subst (λ c. WantsRoom c r) (sym asks) (inr memory.0)

module _ (known : Known) (sizes : Sizes) (n : ℕ) (classes : ClassRows) (s : FrontState)
    (asked : Change (List ℕ)) (change : Change ClassFile) (r : Refusal)
    (same : cause_in (step words_show s.sizes (state_of words_show s.rows) s.number asked)
    ≡ cause_in (step class_shows sizes (state_of class_shows classes) n change))
    (asks : Asks asked change) where
  abbrev Told : Bool → Bool → Result (Loaders (List ℕ)) Cause → Type 0
  Told closed broken answer =
      ((◌≡◌ {A = Option Refusal} (cond closed (Some refusal.Closed) (cond broken (Some
      refusal.Broken)
      (elim answer [ Err cause ↦ Some (refusal_of cause) | Ok m ↦ None ]))) (Some r))
      ⊎ ((◌≡◌ {A = Option Refusal} (cond closed (Some refusal.Closed) (cond broken (Some
      refusal.Broken)
      (elim answer [ Err cause ↦ Some (refusal_of cause) | Ok m ↦ None ]))) None)
      × (((r ≡ refusal_of_chunk asked) × HasNoChunk s asked)
      ⊎ ((r ≡ refusal.NoMemory) × ¬ HasNoChunk s asked))))

  abbrev Reason : Type 0
  Reason = IsMachineReason (step class_shows sizes (state_of class_shows classes) n change) change r

  by_answer : (answer : Result (Loaders (List ℕ)) Cause)
      → cause_in answer ≡ cause_in (step class_shows sizes (state_of class_shows classes) n change)
      → Told false false answer → Reason
  by_answer (Err cause) e (inl told) =
      subst (λ o. IsMachineReason o change r)
      (sym (cause_is (step class_shows sizes (state_of class_shows classes) n change) cause (sym
      e)))
      (sym (some_is (refusal_of cause) r told))
  by_answer (Err cause) e (inr room) = absurd (none_not room.0)
    where
      none_not : ◌≡◌ {A = Option Refusal} (Some (refusal_of cause)) None → ⊥
      none_not h = absurd (cc)
  by_answer (Ok m) e (inl told) = absurd (none_not told)
    where
      none_not : ◌≡◌ {A = Option Refusal} None (Some r) → ⊥
      none_not h = absurd (cc)
  by_answer (Ok m) e (inr room) =
      let ok = none_is (step class_shows sizes (state_of class_shows classes) n change) (sym e) in
      subst (λ o. IsMachineReason o change r) (sym ok.1) (wants_room s asked change r asks room.1)

  by_flags : (closed broken : Bool) → Told closed broken
      (step words_show s.sizes (state_of words_show s.rows) s.number asked)
      → ((closed ≡ true) × (r ≡ refusal.Closed))
      ⊎ (((broken ≡ true) × (r ≡ refusal.Broken)) ⊎ ((broken ≡ false) × Reason))
  by_flags true broken (inl told) = inl (refl, sym (some_is refusal.Closed r told))
  by_flags true broken (inr room) = absurd (none_not room.0)
    where
      none_not : ◌≡◌ {A = Option Refusal} (Some refusal.Closed) None → ⊥
      none_not h = absurd (cc)
  by_flags false true (inl told) = inr (inl (refl, sym (some_is refusal.Broken r told)))
  by_flags false true (inr room) = absurd (none_not room.0)
    where
      none_not : ◌≡◌ {A = Option Refusal} (Some refusal.Broken) None → ⊥
      none_not h = absurd (cc)
  by_flags false false told =
      inr (inr (
        refl,
        by_answer (step words_show s.sizes (state_of words_show s.rows) s.number asked) same told,
      ))

pub refused_is_refused : Known → EntriesAreSteps ClassFile → ChangesGoOn → RefusedIsRefused
refused_is_refused known steps on k rows number out s new asked change r f a follows asks
    answer =
    elim (by_flags known s.sizes (number + length (map filled (pending out s))) (rows_after_all
    follows.classes follows.entries) s asked change r
    same asks s.closed s.broken answer.1) [
      | inl closed ↦ inl closed
      | inr (inl broken) ↦ inr (inl broken)
      | inr (inr (running, reason)) ↦ inr (inr (
        running,
        record {
          state = state_of class_shows (rows_after_all follows.classes follows.entries);
          holds = w.holds;
          reason = subst (λ n. IsMachineReason (step class_shows s.sizes (state_of class_shows
              (rows_after_all follows.classes follows.entries)) n
              change) change r) (sym w.count) reason;
        },
      ))
    ]
  where
    w : Whole follows
    w = whole_of steps on k rows number out s f a follows

    are : rows_with lay (rows_after_all follows.classes follows.entries) ≡ s.rows
    are = w.words ∙ a.rows_are

    all_of : number + length (map filled (pending out s)) ≡ s.number
    all_of = as_many rows number out s a

    both : Both s.sizes s.number (rows_after_all follows.classes follows.entries)
    both = record {
      right = w.right;
      cache = subst (λ n. AreCacheRows class_shows s.sizes n (rows_after_all follows.classes
          follows.entries)) all_of w.cache;
      words = subst (λ l. AreCacheRows words_show s.sizes s.number l) (sym are) f.rows;
    }

    same : cause_in (step words_show s.sizes (state_of words_show s.rows) s.number asked)
        ≡ cause_in (step class_shows s.sizes (state_of class_shows (rows_after_all follows.classes
        follows.entries))
        (number + length (map filled (pending out s))) change)
    same =
        ap (λ l. cause_in (step words_show s.sizes (state_of words_show l) s.number asked)) (sym
        are)
        ∙ (same_cause known s.sizes s.number (rows_after_all follows.classes follows.entries) asked
        change both asks
        ∙ ap (λ n. cause_in (step class_shows s.sizes (state_of class_shows (rows_after_all
        follows.classes follows.entries)) n change))
        (sym all_of))

-- ---- lookup

pub found_is_there : Known → EntriesAreSteps ClassFile → ChangesGoOn → FoundIsThere
found_is_there known steps on k rows number out s loader class f a follows =
    let w = whole_of steps on k rows number out s f a follows in
    record {
      state = state_of class_shows (rows_after_all follows.classes follows.entries);
      holds = w.holds;
      is =
          ap (λ l. class_in (state_of words_show l) loader class) (sym (w.words ∙ a.rows_are))
          ∙ same_class known (rows_after_all follows.classes follows.entries) loader class w.right;
    }

-- ---- what is committed

makes_as_many : (sizes : Sizes) (rows : ClassRows) (n : ℕ) (entries : List (Entry ClassFile))
    (changes : List (Change ClassFile)) → Make sizes rows n entries changes
    → length changes ≡ length entries
makes_as_many sizes rows n [] [] make = refl
makes_as_many sizes rows n [] (change ∷ changes) make = absurd make
makes_as_many sizes rows n (e ∷ entries) [] make = absurd make
makes_as_many sizes rows n (e ∷ entries) (change ∷ changes) make =
    ap suc (makes_as_many sizes (rows_after rows e) (n + 1) entries changes make.3)

pub commands_are_counted : CommandsAreCounted
commands_are_counted sizes k rows number pend f =
    let count = f.count in
    let both = length-append f.first f.rest in
    let makes = makes_as_many sizes f.classes number f.entries f.rest f.make in
    let entries : length pend ≡ length f.entries =
    sym (map_length filled pend)
    ∙ (sym (ap length f.words) ∙ map_length (entry_with lay) f.entries) in
    let all = ap length f.commands in
    omega (arith, all, count, both, makes, entries)

pub rows_are_after : RowsAreAfter
rows_are_after sizes k rows number pend f = record {
  classes = f.classes;
  are = f.are;
  least = let count = f.count in omega (arith, count);
  holds = subst (λ l. Holds sizes k.base l (state_of class_shows f.classes)) (sym first) f.holds;
}
  where
    long : number - k.base.number ≡ length f.first
    long = let count = f.count in omega (arith, count)

    first : commands_to number k ≡ f.first
    first =
        ap (take (number - k.base.number)) (sym f.commands)
        ∙ (ap (λ n. take n (f.first ++ f.rest)) long ∙ take-append_seam f.first f.rest)

pub opened_follows : OpenedFollows
opened_follows sizes k after rows number is base commands to = record {
  classes = is.classes;
  are = is.are;
  entries = [];
  words = refl;
  first = commands_to number k;
  rest = [];
  commands = append-nil (commands_to number k) ∙ sym commands;
  count =
      ap (λ (b : Base). b.number + length (commands_to number k)) base
      ∙ (let least = is.least in
      let long = length-take-le (number - k.base.number) k.commands (omega (arith, to)) in
      omega (arith, least, long));
  holds = subst (λ b. Holds sizes b (commands_to number k) (state_of class_shows is.classes))
      (sym base) is.holds;
  make = tt;
}
