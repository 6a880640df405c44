-- The accepted cache matches what was sent, before and after each call.
-- For `Handing`.
use Rattle.std.proofs.Common.{◌≡◌, ℕ, ◌+◌, ◌-◌, ◌≤◌, Bool, List, [], ◌∷◌, ◌++◌, length}
use Rattle.std.proofs.Common.{refl, sym, ap, subst, ◌∙◌, arith, append_assoc, ◌<◌, false, true}
use Rattle.std.proofs.Common.{true≢false, ⊎_elim}
use Rattle.std.specs.Prelude.{max, take, drop, Result, Ok, Err, IsOk, OnOk, OnErr, ◌↔◌, leb}
use Rattle.std.specs.Prelude.{if◌then◌else◌}
use Rattle.std.proofs.lemmas.Bool.{le-leb}
use Rattle.std.proofs.lemmas.Bool.Decides.{leb_tells}
use Rattle.std.specs.List.{flat_map}
use Rattle.cm_pool.specs.Geometry.{Sizes}
use Rattle.std.proofs.lemmas.List.{length-append, append-nil, take-append-drop, length-take-le}
use Rattle.cm_layout.specs.declared.row.Row.{Row}
use Rattle.cm_group.specs.Groups.{Carried, Handed}
use Rattle.cm_state.specs.Step.{Change}
use Rattle.cm_state.specs.State.{words_show, state_of}
use Rattle.cm_state.specs.Entries.{AreCacheRows, change_of}
use Rattle.cm_commit.specs.Offers.{rows_after_group}
use Rattle.cm_front.specs.declared.front.Stranger.{Stranger}
use Rattle.cm_front.specs.Front.{FrontState, IsFront}
use Rattle.cm_front.specs.Accepting.{FrontAccepts, begun_by, carried, joined_by, with_learnt}
use Rattle.cm_handover.specs.Ahead.{AllFollow, IsAhead, pending}
use Rattle.cm_handover.specs.Folding.{LeadTo, FollowersLeadOn}
use Rattle.cm_handover.specs.Handover.{AcceptedIsAhead, HandedIsAhead, LearntIsAhead}
use Rattle.cm_handover.specs.Handover.{CommittedIsAhead, FailedIsAhead}
use Rattle.cm_handover.specs.Carrying.{GroupMayFollow, HandedCarriesOn}
use Rattle.cm_handover.proofs.{filled_again, rows_after_two}
use Rattle.cm_cache.specs.declared.channel.Base.{Base}
use Rattle.cm_cache.specs.declared.channel.Message.{Message}
use Rattle.cm_cache.specs.declared.channel.Message.TheVariants.{Group, End}
use Rattle.cm_cache.specs.Channel.{entries_of, is_open, number_sent}
use Rattle.cm_cache.specs.Handing.{HandingState, rows_sent, IsTied, IsFresh}
use Rattle.cm_cache.specs.Handing.{MayAccept, TakesOut, HandsOver, SameMarks, with_receipt}

-- ---- messages

pub entries-append : (sent : List Message) (group : Handed)
    → entries_of (sent ++ Group group ∷ []) ≡ entries_of sent ++ group.entries
entries-append [] group = append-nil group.entries
entries-append (Group g ∷ sent) group =
    ap (λ l. g.entries ++ l) (entries-append sent group)
    ∙ sym (append_assoc g.entries (entries_of sent) group.entries)
entries-append (End ∷ sent) group = entries-append sent group

pub still_open : (sent : List Message) (group : Handed)
    → is_open (sent ++ Group group ∷ []) ≡ is_open sent
still_open [] group = refl
still_open (Group g ∷ sent) group = still_open sent group
still_open (End ∷ sent) group = refl

-- ---- between two calls

-- nothing waits except what was handed out
nothing_else : (out : List Carried) (s : FrontState) → s.unsealed ≡ [] → pending out s ≡ out
nothing_else out s none =
    ap (λ l. out ++ flat_map (λ (g : Handed). g.entries) l) none ∙ append-nil out

pub rows_tied : (base : Base) (h : HandingState) → IsTied base h
    → h.front.rows ≡ rows_sent base h.sent
rows_tied base h t =
    sym t.ahead.rows_are
    ∙ ap (rows_after_group (rows_after_group base.rows t.stored))
    (nothing_else t.ahead_by h.front t.all_sent)
    ∙ sym (rows_after_two base.rows t.stored t.ahead_by)
    ∙ ap (rows_after_group base.rows) (sym t.split)

pub number_tied : (base : Base) (h : HandingState) → IsTied base h
    → h.front.number ≡ number_sent base h.sent
number_tied base h t =
    let numbers = t.ahead.numbers in
    let waits = ap length (nothing_else t.ahead_by h.front t.all_sent) in
    let all = ap length t.split in
    let count = length-append t.stored t.ahead_by in
    omega (arith, numbers, waits, all, count)

-- what was sent leads from what was opened to the accepted cache
pub sent_leads : FollowersLeadOn → (base : Base) (h : HandingState) → IsTied base h
    → AllFollow base.sizes base.rows base.number (entries_of h.sent)
    → LeadTo base.sizes base.rows base.number (entries_of h.sent)
    (state_of words_show h.front.rows)
sent_leads law base h t follow =
    subst
    (λ rows. LeadTo base.sizes base.rows base.number (entries_of h.sent)
    (state_of words_show rows))
    (sym (rows_tied base h t))
    (law base.sizes base.rows base.number (entries_of h.sent) t.opened follow
    (let last = t.is.numbers in
    let number = number_tied base h t in
    omega (arith, last, number)))

-- ---- opened

pub fresh_is_tied : (base : Base) (s : FrontState) → IsFresh base s
    → IsTied base (record { front = s; sent = [] })
fresh_is_tied base s f = record {
  opened =
      subst (λ z. AreCacheRows words_show z base.number base.rows) f.sizes f.ahead.cache;
  is = f.is;
  sizes = f.sizes;
  stored = [];
  ahead_by = [];
  split = refl;
  ahead = subst (λ n. IsAhead base.rows n [] s) (omega arith) f.ahead;
  learnt = let learnt = f.learnt in omega (arith, learnt);
  all_sent = f.none;
  unended = refl;
}

-- ---- a command

-- what was accepted is all that waits
one_waits : (s between : FrontState) (change : Change (List ℕ)) (n : ℕ) → s.unsealed ≡ []
    → (a : FrontAccepts s change n between)
    → between.unsealed ≡ begun_by (s.number + 1) (carried s.rows a.entry) ∷ []
one_waits s between change n none a =
    ap (λ (f : FrontState). f.unsealed) a.after
    ∙ ap (λ l. joined_by (s.number + 1) l (carried s.rows a.entry)) none

pub some_waits : (s between : FrontState) (change : Change (List ℕ)) (n : ℕ) → s.unsealed ≡ []
    → FrontAccepts s change n between → between.unsealed ≡ [] → ⊥
some_waits s between change n none a empty =
    let one = one_waits s between change n none a in
    cc

module _ (base : Base) (h : HandingState) (change : Change (List ℕ)) (n : ℕ) (group : Handed)
    (new : FrontState) (t : IsTied base h) (o : TakesOut h.front change n group new) where
  accepts : FrontAccepts h.front change n o.between
  accepts = o.answers.2

  oldest_is : o.hands.oldest ≡ begun_by (h.front.number + 1) (carried h.front.rows accepts.entry)
  oldest_is =
      let one = one_waits h.front o.between change n t.all_sent accepts in
      let is = o.hands.is_oldest in
      cc

  rest_is : o.hands.rest ≡ []
  rest_is =
      let one = one_waits h.front o.between change n t.all_sent accepts in
      let is = o.hands.is_oldest in
      cc

  entries_are : group.entries ≡ carried h.front.rows accepts.entry ∷ []
  entries_are =
      ap (λ (g : Handed). g.entries) o.hands.group_is
      ∙ ap (λ (g : Handed). g.entries) oldest_is

  ahead_between : AcceptedIsAhead
      → IsAhead (rows_after_group base.rows t.stored) (base.number + length t.stored)
      t.ahead_by o.between
  ahead_between law =
      law (rows_after_group base.rows t.stored) (base.number + length t.stored) t.ahead_by
      h.front o.between change n t.is o.is_between t.ahead o.answers

  same_sizes : o.between.sizes ≡ base.sizes
  same_sizes = ap (λ (f : FrontState). f.sizes) accepts.after ∙ t.sizes

  same_learnt : o.between.learnt ≡ base.number + length t.stored
  same_learnt = ap (λ (f : FrontState). f.learnt) accepts.after ∙ t.learnt

  pub carries_on : AcceptedIsAhead → HandedCarriesOn
      → GroupMayFollow base.sizes base.rows base.number (entries_of h.sent) group
  carries_on accepted handed =
      subst (λ (x : Sizes × List Carried). GroupMayFollow x.0 base.rows base.number x.1 group)
      (λ i. (same_sizes i, sym t.split i))
      (handed base.rows base.number t.stored t.ahead_by o.between new group o.is_between
      o.is_group (ahead_between accepted) same_learnt o.hands)

  pub still_tied : AcceptedIsAhead → HandedIsAhead
      → IsTied base (record { front = new; sent = h.sent ++ Group group ∷ [] })
  still_tied accepted handed = record {
    opened = t.opened;
    is = o.is_new;
    sizes = ap (λ (f : FrontState). f.sizes) o.hands.after ∙ same_sizes;
    stored = t.stored;
    ahead_by = t.ahead_by ++ group.entries;
    split =
        entries-append h.sent group
        ∙ ap (λ l. l ++ group.entries) t.split
        ∙ append_assoc t.stored t.ahead_by group.entries;
    ahead = handed (rows_after_group base.rows t.stored) (base.number + length t.stored)
        t.ahead_by o.between new group o.is_between (ahead_between accepted) o.hands;
    learnt = ap (λ (f : FrontState). f.learnt) o.hands.after ∙ same_learnt;
    all_sent = ap (λ (f : FrontState). f.unsealed) o.hands.after ∙ rest_is;
    unended = still_open h.sent group ∙ t.unended;
  }

  pub marks_stay : SameMarks h.front new
  marks_stay = record {
    learnt =
        ap (λ (f : FrontState). f.learnt) o.hands.after
        ∙ ap (λ (f : FrontState). f.learnt) accepts.after;
    broken =
        ap (λ (f : FrontState). f.broken) o.hands.after
        ∙ ap (λ (f : FrontState). f.broken) accepts.after;
    closed =
        ap (λ (f : FrontState). f.closed) o.hands.after
        ∙ ap (λ (f : FrontState). f.closed) accepts.after;
  }

  pub may_accept : MayAccept h.front change n
  may_accept = record {
    none = o.answers.0;
    room = o.answers.1;
    number = accepts.number;
  }

  pub hands_over : HandsOver base h.sent change n (h.sent ++ Group group ∷ [])
  hands_over = record {
    group = group;
    entry = carried h.front.rows accepts.entry;
    one = entries_are;
    new_is = refl;
    change_is =
        ap (change_of (rows_sent base h.sent)) (filled_again h.front.rows accepts.entry)
        ∙ ap (λ rows. change_of rows accepts.entry) (sym (rows_tied base h t))
        ∙ accepts.change_is;
    number_is = accepts.number ∙ ap (λ k. k + 1) (number_tied base h t);
  }

-- ---- what the cache learns

pub learnt_is_tied : CommittedIsAhead → LearntIsAhead → (base : Base) (h : HandingState)
    (number : ℕ) → IsTied base h → number ≤ h.front.sealed → IsFront (with_learnt h.front number)
    → IsTied base (record { front = with_learnt h.front number; sent = h.sent })
learnt_is_tied commits learns base h number t known is = record {
  opened = t.opened;
  is = is;
  sizes = t.sizes;
  stored = t.stored ++ first;
  ahead_by = rest;
  split = t.split ∙ ap (λ l. t.stored ++ l) parts ∙ sym (append_assoc t.stored first rest);
  ahead = learns (rows_after_group base.rows (t.stored ++ first))
      (base.number + length (t.stored ++ first)) rest h.front number t.is
      (subst (λ (x : List (Row (List ℕ)) × ℕ). IsAhead x.0 x.1 rest h.front)
      (λ i. (sym (rows_after_two base.rows t.stored first) i, together i)) moved)
      (let to = now in omega (arith, to));
  learnt = now;
  all_sent = t.all_sent;
  unended = t.unended;
}
  where
    extra : ℕ
    extra = max h.front.learnt number - h.front.learnt

    first : List Carried
    first = take extra t.ahead_by

    rest : List Carried
    rest = drop extra t.ahead_by

    parts : t.ahead_by ≡ first ++ rest
    parts = sym (take-append-drop extra t.ahead_by)

    long : length first ≡ extra
    long =
        length-take-le extra t.ahead_by
        (let sealed = t.ahead.sealed in
        let learnt = t.learnt in
        omega (arith, sealed, learnt, known))

    together : (base.number + length t.stored) + length first
        ≡ base.number + length (t.stored ++ first)
    together = let count = length-append t.stored first in omega (arith, count)

    now : max h.front.learnt number ≡ base.number + length (t.stored ++ first)
    now =
        let count = length-append t.stored first in
        let learnt = t.learnt in
        omega (arith, count, learnt, long)

    moved : IsAhead (rows_after_group (rows_after_group base.rows t.stored) first)
        ((base.number + length t.stored) + length first) rest h.front
    moved = commits (rows_after_group base.rows t.stored) (base.number + length t.stored)
        (record { first = 0; learnt = 0; entries = first }) rest h.front t.is
        (subst (λ l. IsAhead (rows_after_group base.rows t.stored)
        (base.number + length t.stored) l h.front) parts t.ahead)

-- whether or not the number was handed out
pub learn_is_tied : CommittedIsAhead → LearntIsAhead → (base : Base) (h : HandingState)
    (number : ℕ) (new : FrontState) → IsTied base h → (r : Result (Unit {0}) Stranger)
    → (IsOk r → number ≤ h.front.sealed) → OnOk r (new ≡ with_learnt h.front number)
    → OnErr r (new ≡ h.front) → IsFront new → IsTied base (record { front = new; sent = h.sent })
learn_is_tied commits learns base h number new t (Ok x) known ok err is =
    subst (λ f. IsTied base (record { front = f; sent = h.sent })) (sym ok)
    (learnt_is_tied commits learns base h number t (known refl) (subst IsFront ok is))
learn_is_tied commits learns base h number new t (Err e) known ok err is =
    subst (λ f. IsTied base (record { front = f; sent = h.sent })) (sym err) t

-- a receipt is taken exactly if its number was handed out
pub learnt_by_receipt : (s new : FrontState) (number : ℕ) (r : Result (Unit {0}) Stranger)
    → (IsOk r ↔ (number ≤ s.sealed)) → OnOk r (new ≡ with_learnt s number) → OnErr r (new ≡ s)
    → new ≡ with_receipt s number
learnt_by_receipt s new number (Ok x) known ok err =
    subst (λ b. new ≡ (if b then with_learnt s number else s))
    (sym (le-leb number s.sealed (known.0 refl))) ok
learnt_by_receipt s new number (Err e) known ok err =
    ⊎_elim
    (λ (t : (leb number s.sealed ≡ true) × (number ≤ s.sealed)).
    absurd (true≢false (sym (known.1 t.1))))
    (λ (t : (leb number s.sealed ≡ false) × (s.sealed < number)).
    subst (λ b. new ≡ (if b then with_learnt s number else s)) (sym t.0) err)
    (leb_tells number s.sealed)

-- ---- failed and closed

pub failed_is_tied : FailedIsAhead → (base : Base) (h : HandingState) (broken closed : Bool)
    → IsTied base h → IsFront (record h.front { broken = broken; closed = closed })
    → IsTied base
    (record { front = record h.front { broken = broken; closed = closed }; sent = h.sent })
failed_is_tied law base h broken closed t is = record {
  opened = t.opened;
  is = is;
  sizes = t.sizes;
  stored = t.stored;
  ahead_by = t.ahead_by;
  split = t.split;
  ahead = law (rows_after_group base.rows t.stored) (base.number + length t.stored)
      t.ahead_by h.front broken closed t.ahead;
  learnt = t.learnt;
  all_sent = t.all_sent;
  unended = t.unended;
}

-- ---- how many entries were sent

pub one_more_sent : (base : Base) (sent new : List Message) (change : Change (List ℕ)) (n : ℕ)
    → HandsOver base sent change n new
    → length (entries_of new) ≡ length (entries_of sent) + 1
one_more_sent base sent new change n h =
    let all = ap (λ l. length (entries_of l)) h.new_is in
    let entries = ap length (entries-append sent h.group) in
    let count = length-append (entries_of sent) h.group.entries in
    let one = ap length h.one in
    omega (arith, all, entries, count, one)
