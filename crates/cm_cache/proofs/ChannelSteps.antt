-- Each step on the channel keeps its rule.
-- For `NewChannel`, `Outgoing`, `Incoming`.
use Rattle.std.proofs.Common.{◌≡◌, ◌≢◌, ℕ, zero, suc, true, false, true≢false, List, [], ◌∷◌, ◌++◌}
use Rattle.std.proofs.Common.{length, set, refl, sym, ap, subst, ◌∙◌, ⊎_elim, append_assoc}
use Rattle.std.proofs.Common.{◌+◌, ◌<◌, ◌≤◌, ◌⊎◌, inl, inr, arith}
use Rattle.std.specs.List.{All}
use Rattle.std.specs.Prelude.{if◌then◌else◌, nat_le}
use Rattle.std.proofs.Math.Dec.{eqb}
use Rattle.std.proofs.lemmas.Bool.Decides.{nat_tests}
use Rattle.std.proofs.lemmas.List.Elements.{All-nil, All-append, All-weaker}
use Rattle.std.proofs.lemmas.List.{append-nil, length-append}
use mathlib.Core.Option.{some, some-injective, some-ne-none}
use lib.ListN.{get_elem?}
use Rattle.crossbeam_channel.specs.Fifo.{Pushes, Pops, Forks, Merges, Learns}
use Rattle.atomic_table.proofs.Lists.{at_set, at_snoc}
use Rattle.cm_group.specs.Groups.{Carried}
use Rattle.cm_cache.specs.declared.channel.Base.{Base}
use Rattle.cm_cache.specs.declared.channel.ChannelView.{ChannelView}
use Rattle.cm_cache.specs.declared.channel.Message.{Message}
use Rattle.cm_cache.specs.declared.channel.Message.TheVariants.{Group, End}
use Rattle.cm_cache.specs.Channel.{entries_of, is_open, MayBeSent, InOrder, FitsChannel}
use Rattle.cm_cache.specs.Channel.{number_sent, numbers_after, numbers_in, sending, giving}
use Rattle.cm_cache.specs.Channel.{AreApart, OwnsApart}
use Rattle.cm_cache.specs.Channel.{IsRelayed, HasSent, HasReceived}
use Rattle.cm_cache.specs.Channel.{IsAll, IsBeginning, IsOrdered, sender, receiver, both_ends}
use Rattle.cm_cache.specs.Channel.{no_end, no_base}
use Rattle.cm_cache.specs.Channel.{witness, hearing}
use Rattle.cm_cache.proofs.Apart.{none_apart, join_apart, numbers_between, numbers_apart}
use Rattle.cm_cache.proofs.Shown.{entries_join}

-- ---- messages in order

-- one more may be sent
sends_more : (base : Base) (before : List Carried) (sent : List Message) (x : Message)
    → InOrder base before sent → is_open sent ≡ true → MayBeSent base (before ++ entries_of sent) x
    → InOrder base before (sent ++ x ∷ [])
sends_more base before [] (Group g) ordered is_on may_be =
    (subst (λ l. MayBeSent base l (Group g)) (append-nil before) may_be, tt)
sends_more base before [] End ordered is_on may_be = refl
sends_more base before (Group g ∷ sent) x ordered is_on may_be = (
  ordered.0,
  sends_more base (before ++ g.entries) sent x ordered.1 is_on
      (subst (λ l. MayBeSent base l x) (sym (append_assoc before g.entries (entries_of sent)))
      may_be),
)
sends_more base before (End ∷ sent) x ordered is_on may_be = absurd (true≢false (sym is_on))

-- each message that is received may have been sent when it was
may_be_next : (base : Base) (before : List Carried) (got : List Message) (x : Message)
    (items : List Message) → InOrder base before (got ++ x ∷ items)
    → MayBeSent base (before ++ entries_of got) x
may_be_next base before [] (Group g) items ordered =
    subst (λ l. MayBeSent base l (Group g)) (sym (append-nil before)) ordered.0
may_be_next base before [] End items ordered = tt
may_be_next base before (Group g ∷ got) x items ordered =
    subst (λ l. MayBeSent base l x) (append_assoc before g.entries (entries_of got))
    (may_be_next base (before ++ g.entries) got x items ordered.1)
may_be_next base before (End ∷ got) x items ordered = absurd (not_empty got ordered)
  where
    not_empty : (l : List Message) → l ++ x ∷ items ≡ [] → ⊥
    not_empty [] e = cc
    not_empty (y ∷ l) e = cc

-- nothing is sent after an End
pub none_after : (base : Base) (before : List Carried) (got items : List Message)
    → InOrder base before (got ++ items) → is_open got ≡ false → got ++ items ≡ got
none_after base before [] items ordered closed = absurd (true≢false closed)
none_after base before (Group g ∷ got) items ordered closed =
    ap (λ l. Group g ∷ l) (none_after base (before ++ g.entries) got items ordered.1 closed)
none_after base before (End ∷ got) items ordered closed =
    ap (λ l. End ∷ l) (ordered ∙ sym (first_empty got ordered))
  where
    first_empty : (l : List Message) → l ++ items ≡ [] → l ≡ []
    first_empty [] e = refl
    first_empty (y ∷ l) e = absurd (cc)

-- ---- views

off : false ≡ true → ⊥
off e = true≢false (sym e)

-- the view of one end changes, and what is known to the others stays right
each_set : (F : ℕ → ChannelView → Type 0) (views : List ChannelView) (port : ℕ) (w : ChannelView)
    → F port w
    → ((j : ℕ) (u : ChannelView) → j ≢ port → get_elem? views j ≡ some u → F j u)
    → (j : ℕ) (u : ChannelView) → get_elem? (set views port w) j ≡ some u → F j u
each_set F views port w mine others j u e =
    ⊎_elim
    (λ (x : (j ≡ port) × (w ≡ u)).
    subst (λ (y : ℕ × ChannelView). F y.0 y.1) (λ i. (sym x.0 i, x.1 i)) mine)
    (λ (x : (j ≢ port) × (get_elem? views j ≡ some u)). others j u x.0 x.1)
    (at_set views port j w u e)

at_end : (l : List ChannelView) (a b : ChannelView) (j : ℕ) → get_elem? l j ≢ some b
    → get_elem? (l ++ a ∷ []) j ≡ some b → j ≡ length l
at_end [] a b zero n e = refl
at_end [] a b (suc j) n e = absurd (some-ne-none b (sym e))
at_end (x ∷ xs) a b zero n e = absurd (n e)
at_end (x ∷ xs) a b (suc j) n e = ap suc (at_end xs a b j n e)

-- one more end: it was there before, or it is the last one
at_last : (l : List ChannelView) (a b : ChannelView) (j : ℕ) → get_elem? (l ++ a ∷ []) j ≡ some b
    → (get_elem? l j ≡ some b) ⊎ ((j ≡ length l) × (a ≡ b))
at_last [] a b zero e = inr (refl, some-injective a b e)
at_last [] a b (suc j) e = absurd (some-ne-none b (sym e))
at_last (x ∷ xs) a b zero e = inl e
at_last (x ∷ xs) a b (suc j) e =
    ⊎_elim inl (λ is. inr (ap suc is.0, is.1)) (at_last xs a b j e)

-- an end that may do nothing knows nothing that could be wrong
idle_fits : (writer reader : ℕ) (owner : ℕ → ℕ) (base : Base) (sent got : List Message) (port : ℕ)
    (v : ChannelView) → v.sends ≡ false → v.receives ≡ false
    → (rest : List Message) × (sent ≡ v.known ++ rest)
    → All (λ n. (owner n ≡ port) × (n ≤ number_sent base sent)) v.owned → AreApart v.owned
    → FitsChannel writer reader owner base sent got port v
idle_fits writer reader owner base sent got port v s g known owned apart = record {
  sends = λ may. absurd (off (sym s ∙ may));
  receives = λ may. absurd (off (sym g ∙ may));
  known = known;
  owned = owned;
  apart = apart;
}

-- ---- owners

-- whatever one end owns belongs to another from now on
abbrev passed_on : (ℕ → ℕ) → ℕ → ℕ → ℕ → ℕ
passed_on owner from to n = if eqb (owner n) from then to else owner n

passed : (owner : ℕ → ℕ) (from to n : ℕ) → owner n ≡ from → passed_on owner from to n ≡ to
passed owner from to n is =
    let t : eqb (owner n) from ≡ true = grind (arith, nat_tests) in rw t refl

not_passed : (owner : ℕ → ℕ) (from to n : ℕ) → owner n ≢ from → passed_on owner from to n ≡ owner n
not_passed owner from to n other =
    let f : eqb (owner n) from ≡ false = grind (arith, nat_tests) in rw f refl

-- what other ends own stays theirs
others_keep : (owner : ℕ → ℕ) (from to port most : ℕ) (l : List ℕ) → port ≢ from
    → All (λ n. (owner n ≡ port) × (n ≤ most)) l
    → All (λ n. (passed_on owner from to n ≡ port) × (n ≤ most)) l
others_keep owner from to port most l other =
    All-weaker (λ n. (owner n ≡ port) × (n ≤ most))
    (λ n. (passed_on owner from to n ≡ port) × (n ≤ most))
    (λ n is. (not_passed owner from to n (λ e. other (sym is.0 ∙ e)) ∙ is.0, is.1)) l

all_passed : (owner : ℕ → ℕ) (from to most : ℕ) (l : List ℕ)
    → All (λ n. (owner n ≡ from) × (n ≤ most)) l
    → All (λ n. (passed_on owner from to n ≡ to) × (n ≤ most)) l
all_passed owner from to most =
    All-weaker (λ n. (owner n ≡ from) × (n ≤ most))
    (λ n. (passed_on owner from to n ≡ to) × (n ≤ most))
    (λ n is. (passed owner from to n is.0, is.1))

-- whatever is sent after this number belongs to the writer
abbrev with_new : (ℕ → ℕ) → ℕ → ℕ → ℕ → ℕ
with_new owner most writer n = if nat_le n most then owner n else writer

old_stay : (owner : ℕ → ℕ) (most more writer port : ℕ) (l : List ℕ) → most ≤ more
    → All (λ n. (owner n ≡ port) × (n ≤ most)) l
    → All (λ n. (with_new owner most writer n ≡ port) × (n ≤ more)) l
old_stay owner most more writer port l longer =
    All-weaker (λ n. (owner n ≡ port) × (n ≤ most))
    (λ n. (with_new owner most writer n ≡ port) × (n ≤ more))
    (λ n is. let low = is.1 in (
      (let t : nat_le n most ≡ true = grind (arith, nat_tests) in rw t is.0),
      omega (arith, low, longer),
    )) l

new_are : (owner : ℕ → ℕ) (most more writer : ℕ) (l : List ℕ)
    → All (λ n. (most < n) × (n ≤ more)) l
    → All (λ n. (with_new owner most writer n ≡ writer) × (n ≤ more)) l
new_are owner most more writer =
    All-weaker (λ n. (most < n) × (n ≤ more))
    (λ n. (with_new owner most writer n ≡ writer) × (n ≤ more))
    (λ n is. let low = is.0 in (
      (let f : nat_le n most ≡ false = grind (arith, nat_tests) in rw f refl),
      is.1,
    ))

-- two ends own nothing in common
cross_owners : (owner : ℕ → ℕ) (a b most : ℕ) (xs ys : List ℕ) → a ≢ b
    → All (λ n. (owner n ≡ a) × (n ≤ most)) xs → All (λ n. (owner n ≡ b) × (n ≤ most)) ys
    → All (λ x. All (λ y. x ≢ y) ys) xs
cross_owners owner a b most xs ys other mine theirs =
    All-weaker (λ n. (owner n ≡ a) × (n ≤ most)) (λ x. All (λ y. x ≢ y) ys)
    (λ x is. All-weaker (λ n. (owner n ≡ b) × (n ≤ most)) (λ y. x ≢ y)
    (λ y at e. other (sym is.0 ∙ ap owner e ∙ at.0)) ys theirs) xs mine

-- what is new wasn't owned before
cross_new : (owner : ℕ → ℕ) (a most more : ℕ) (xs ys : List ℕ)
    → All (λ n. (owner n ≡ a) × (n ≤ most)) xs → All (λ n. (most < n) × (n ≤ more)) ys
    → All (λ x. All (λ y. x ≢ y) ys) xs
cross_new owner a most more xs ys mine new =
    All-weaker (λ n. (owner n ≡ a) × (n ≤ most)) (λ x. All (λ y. x ≢ y) ys)
    (λ x is. All-weaker (λ n. (most < n) × (n ≤ more)) (λ y. x ≢ y)
    (λ y at e. let high = is.1 in let low = at.0 in absurd (omega (arith, high, low, e))) ys new)
    xs mine

-- the numbers that a message brings are new
new_between : (base : Base) (sent : List Message) (x : Message)
    → All (λ n. (number_sent base sent < n) × (n ≤ number_sent base (sent ++ x ∷ [])))
    (numbers_in base sent x)
new_between base sent End = All-nil _
new_between base sent (Group g) =
    All-weaker
    (λ n. (number_sent base sent < n) × (n ≤ number_sent base sent + length g.entries))
    (λ n. (number_sent base sent < n) × (n ≤ number_sent base (sent ++ Group g ∷ [])))
    (λ n is.
    let high = is.1 in
    let count = ap length (entries_join sent (Group g ∷ [])) in
    let parts = length-append (entries_of sent) (g.entries ++ []) in
    let last = ap length (append-nil g.entries) in
    (is.0, omega (arith, high, count, parts, last)))
    (numbers_after (number_sent base sent) g.entries)
    (numbers_between (number_sent base sent) g.entries)

in_apart : (base : Base) (sent : List Message) (x : Message) → AreApart (numbers_in base sent x)
in_apart base sent End = none_apart
in_apart base sent (Group g) = numbers_apart (number_sent base sent) g.entries

sent_longer : (base : Base) (sent : List Message) (x : Message)
    → number_sent base sent ≤ number_sent base (sent ++ x ∷ [])
sent_longer base sent x =
    let count = ap length (entries_join sent (x ∷ [])) in
    let parts = length-append (entries_of sent) (entries_of (x ∷ [])) in
    omega (arith, count, parts)

-- a beginning stays one as more is sent
known_longer : (all known : List Message) (x : Message)
    → (rest : List Message) × (all ≡ known ++ rest)
    → (rest : List Message) × (all ++ x ∷ [] ≡ known ++ rest)
known_longer all known x k =
    (k.0 ++ x ∷ [], ap (λ l. l ++ x ∷ []) k.1 ∙ append_assoc known k.0 (x ∷ []))

-- ---- steps

pub begins : IsRelayed [] (both_ends no_base [] [] ∷ [])
begins = record {
  writer = 0;
  reader = 0;
  owner = λ _. 0;
  base = no_base;
  sent = [];
  received = [];
  all = refl;
  ordered = tt;
  each = each_set (FitsChannel 0 0 (λ _. 0) no_base [] []) (both_ends no_base [] [] ∷ []) 0
      (both_ends no_base [] [])
      (record {
        sends = λ _. (refl, refl, refl);
        receives = λ _. (refl, refl, refl);
        known = ([], refl);
        owned = All-nil _;
        apart = none_apart;
      })
      (λ j u other e. absurd (other (at_end [] _ u j (λ x. some-ne-none u (sym x)) e)));
}

pub sends : (n port : ℕ) (v : ChannelView) (x : Message) → v.sends ≡ true → is_open v.sent ≡ true
    → MayBeSent v.base (entries_of v.sent) x → Pushes IsRelayed n port v x (HasSent v x)
sends n port v x may is_on may_be items views _ h at = (
  w,
  record {
    writer = h.writer;
    reader = h.reader;
    owner = owner;
    base = h.base;
    sent = h.sent ++ x ∷ [];
    received = h.received;
    all = ap (λ l. l ++ x ∷ []) h.all ∙ append_assoc h.received items (x ∷ []);
    ordered = sends_more h.base [] h.sent x h.ordered
        (ap is_open (sym known.1) ∙ is_on)
        (subst (λ (t : Base × List Message). MayBeSent t.0 (entries_of t.1) x)
        (λ i. (known.2 i, known.1 i)) may_be);
    each = each_set (FitsChannel h.writer h.reader owner h.base (h.sent ++ x ∷ []) h.received) views
        port w
        (record {
          sends = λ _. (known.0, ap (λ l. l ++ x ∷ []) known.1, known.2);
          receives = mine.receives;
          known = known_longer h.sent v.known x mine.known;
          owned = subst (λ l. All Owned (v.owned ++ l)) (sym new_is)
              (All-append Owned v.owned new (old_stay h.owner most more h.writer port v.owned
              (sent_longer h.base h.sent x) mine.owned)
              (subst (λ p. All (λ n. (owner n ≡ p) × (n ≤ more)) new) (sym known.0)
              (new_are h.owner most more h.writer new (new_between h.base h.sent x))));
          apart = subst (λ l. AreApart (v.owned ++ l)) (sym new_is)
              (join_apart v.owned new mine.apart (in_apart h.base h.sent x)
              (cross_new h.owner port most more v.owned new mine.owned
              (new_between h.base h.sent x)));
        })
        (λ j u other e. record {
          sends = λ p. absurd (other (((h.each j u e).sends p).0 ∙ sym known.0));
          receives = (h.each j u e).receives;
          known = known_longer h.sent u.known x (h.each j u e).known;
          owned = old_stay h.owner most more h.writer j u.owned (sent_longer h.base h.sent x)
              (h.each j u e).owned;
          apart = (h.each j u e).apart;
        });
  },
  refl,
)
  where
    w : ChannelView
    w = sending v x

    most : ℕ
    most = number_sent h.base h.sent

    more : ℕ
    more = number_sent h.base (h.sent ++ x ∷ [])

    owner : ℕ → ℕ
    owner = with_new h.owner most h.writer

    new : List ℕ
    new = numbers_in h.base h.sent x

    Owned : ℕ → Type 0
    Owned n = (owner n ≡ port) × (n ≤ more)

    mine : FitsChannel h.writer h.reader h.owner h.base h.sent h.received port v
    mine = h.each port v at

    known : (port ≡ h.writer) × (v.sent ≡ h.sent) × (v.base ≡ h.base)
    known = mine.sends may

    new_is : numbers_in v.base v.sent x ≡ new
    new_is = λ i. numbers_in (known.2 i) (known.1 i) x

pub receives : (port : ℕ) (v : ChannelView) → v.receives ≡ true
    → Pops IsRelayed port v (HasReceived v)
receives port v may x items views h at = (
  w,
  record {
    writer = h.writer;
    reader = h.reader;
    owner = h.owner;
    base = h.base;
    sent = h.sent;
    received = h.received ++ x ∷ [];
    all = h.all ∙ sym (append_assoc h.received (x ∷ []) items);
    ordered = h.ordered;
    each = each_set
        (FitsChannel h.writer h.reader h.owner h.base h.sent (h.received ++ x ∷ [])) views port w
        (record {
          sends = mine.sends;
          receives = λ _. (known.0, ap (λ l. l ++ x ∷ []) known.1, known.2);
          known = mine.known;
          owned = mine.owned;
          apart = mine.apart;
        })
        (λ j u other e. record {
          sends = (h.each j u e).sends;
          receives = λ p. absurd (other (((h.each j u e).receives p).0 ∙ sym known.0));
          known = (h.each j u e).known;
          owned = (h.each j u e).owned;
          apart = (h.each j u e).apart;
        });
  },
  (
    refl,
    subst (λ (t : Base × List Message). MayBeSent t.0 (entries_of t.1) x)
        (λ i. (sym known.2 i, sym known.1 i))
        (may_be_next h.base [] h.received x items (subst (InOrder h.base []) h.all h.ordered)),
  ),
)
  where
    w : ChannelView
    w = record v { received = v.received ++ x ∷ [] }

    mine : FitsChannel h.writer h.reader h.owner h.base h.sent h.received port v
    mine = h.each port v at

    known : (port ≡ h.reader) × (v.received ≡ h.received) × (v.base ≡ h.base)
    known = mine.receives may

-- the first pass, which has both ends, is split in two, and each part then knows what was opened
pub splits : (port : ℕ) (v : ChannelView) (base : Base) → v ≡ both_ends no_base [] []
    → Forks IsRelayed port v (sender base v.sent) (receiver base v.received)
splits port v base new items views h at = record {
  writer = h.writer;
  reader = length vs;
  owner = h.owner;
  base = base;
  sent = [];
  received = [];
  all = sym (nothing h.received items (sym (sym (ap (λ u. u.sent) new) ∙ mine.1 ∙ h.all)));
  ordered = tt;
  each = λ j u e. ⊎_elim
      (λ was. record {
        sends = (old j u was).0;
        receives = λ p. absurd ((old j u was).1 p);
        known = (old j u was).2;
        owned = (old j u was).3;
        apart = (old j u was).4;
      })
      (λ (is : r ≡ u). record {
        sends = λ p. absurd (off (ap (λ (y : ChannelView). y.sends) is ∙ p));
        receives = λ p. (
          at_end vs r u j (λ x. (old j u x).1 p) e,
          ap (λ (y : ChannelView). y.received) (sym is) ∙ ap (λ (u : ChannelView). u.received) new,
          ap (λ (y : ChannelView). y.base) (sym is),
        );
        known = ([], ap (λ (y : ChannelView). y.known ++ []) is);
        owned = subst (λ (y : ChannelView). All (Owned j) y.owned) is (All-nil _);
        apart = subst (λ (y : ChannelView). AreApart y.owned) is none_apart;
      })
      (at_snoc vs r u j e);
}
  where
    l : ChannelView
    l = sender base v.sent

    r : ChannelView
    r = receiver base v.received

    vs : List ChannelView
    vs = set views port l

    fits : FitsChannel h.writer h.reader h.owner h.base h.sent h.received port v
    fits = h.each port v at

    mine : (port ≡ h.writer) × (v.sent ≡ h.sent) × (v.base ≡ h.base)
    mine = fits.sends (ap (λ (u : ChannelView). u.sends) new)

    reads : port ≡ h.reader
    reads = (fits.receives (ap (λ (u : ChannelView). u.receives) new)).0

    nothing : (a b : List Message) → a ++ b ≡ [] → b ≡ []
    nothing [] b e = e
    nothing (x ∷ a) b e = absurd (cc)

    Owned : ℕ → ℕ → Type 0
    Owned j n = (h.owner n ≡ j) × (n ≤ number_sent base [])

    Old : ℕ → ChannelView → Type 0
    Old j u =
        (u.sends ≡ true → (j ≡ h.writer) × (u.sent ≡ []) × (u.base ≡ base))
        × (u.receives ≢ true)
        × ((rest : List Message) × ([] ≡ u.known ++ rest))
        × All (Owned j) u.owned
        × AreApart u.owned

    none_sent : h.sent ≡ []
    none_sent = sym mine.1 ∙ ap (λ (u : ChannelView). u.sent) new

    -- before the split nothing was opened, so only 0 could be the number of a command
    first_number : (n : ℕ) → n ≤ number_sent h.base h.sent → n ≤ number_sent base []
    first_number n least =
        let opened = ap (λ (b : Base). b.number) (sym mine.2 ∙ ap (λ (u : ChannelView). u.base) new)
        in
        let none = ap (λ l. length (entries_of l)) none_sent in
        omega (arith, least, opened, none)

    old : (j : ℕ) (u : ChannelView) → get_elem? vs j ≡ some u → Old j u
    old = each_set Old views port l (
      (λ _. (mine.0, ap (λ (u : ChannelView). u.sent) new, refl)),
      (λ p. off p),
      ([], refl),
      All-nil _,
      none_apart,
    )
        (λ j u other e. (
          (λ p. absurd (other (((h.each j u e).sends p).0 ∙ sym mine.0))),
          (λ p. other (((h.each j u e).receives p).0 ∙ sym reads)),
          ((h.each j u e).known.0, sym none_sent ∙ (h.each j u e).known.1),
          All-weaker (λ n. (h.owner n ≡ j) × (n ≤ number_sent h.base h.sent)) (Owned j)
              (λ n is. (is.0, first_number n is.1)) u.owned (h.each j u e).owned,
          (h.each j u e).apart,
        ))

pub joins : (port : ℕ) (v : ChannelView) (other : ℕ) (u : ChannelView) → v.sends ≡ true
    → u.receives ≡ true
    → Merges IsRelayed port v other u (both_ends v.base v.sent u.received) no_end
joins port v other u may reads items views h at two at' = record {
  writer = h.writer;
  reader = port;
  owner = h.owner;
  base = h.base;
  sent = h.sent;
  received = h.received;
  all = h.all;
  ordered = h.ordered;
  each = each_set (FitsChannel h.writer port h.owner h.base h.sent h.received) vs other no_end
      (idle_fits h.writer port h.owner h.base h.sent h.received other no_end refl refl
      (h.sent, refl) (All-nil _) none_apart)
      (λ j y apart e. now j y e apart);
}
  where
    both : ChannelView
    both = both_ends v.base v.sent u.received

    vs : List ChannelView
    vs = set views port both

    mine : (port ≡ h.writer) × (v.sent ≡ h.sent) × (v.base ≡ h.base)
    mine = (h.each port v at).sends may

    was : get_elem? views other ≡ some u
    was = ⊎_elim (λ x. absurd (two x.0)) (λ x. x.1) (at_set views port other both u at')

    theirs : (other ≡ h.reader) × (u.received ≡ h.received) × (u.base ≡ h.base)
    theirs = (h.each other u was).receives reads

    now : (j : ℕ) (y : ChannelView) → get_elem? vs j ≡ some y → j ≢ other
        → FitsChannel h.writer port h.owner h.base h.sent h.received j y
    now = each_set
        (λ j y. j ≢ other → FitsChannel h.writer port h.owner h.base h.sent h.received j y) views
        port both
        (λ _. record {
          sends = λ _. mine;
          receives = λ _. (refl, theirs.1, mine.2);
          known = (h.sent, refl);
          owned = All-nil _;
          apart = none_apart;
        })
        (λ j y _ e apart. record {
          sends = (h.each j y e).sends;
          receives = λ p. absurd (apart (((h.each j y e).receives p).0 ∙ sym theirs.0));
          known = (h.each j y e).known;
          owned = (h.each j y e).owned;
          apart = (h.each j y e).apart;
        })

-- a witness is made of the end that sends, with all its numbers
pub witnesses : (port : ℕ) (v : ChannelView) → v.sends ≡ true
    → Forks IsRelayed port v (giving v) (witness v.sent v.owned)
witnesses port v may items views h at = record {
  writer = h.writer;
  reader = h.reader;
  owner = owner;
  base = h.base;
  sent = h.sent;
  received = h.received;
  all = h.all;
  ordered = h.ordered;
  each = λ j u e. ⊎_elim
      (λ was. each_set Fits views port (giving v)
      (record {
        sends = mine.sends;
        receives = mine.receives;
        known = mine.known;
        owned = All-nil _;
        apart = none_apart;
      })
      (λ i y other is. record {
        sends = (h.each i y is).sends;
        receives = (h.each i y is).receives;
        known = (h.each i y is).known;
        owned = others_keep h.owner port new i most y.owned other (h.each i y is).owned;
        apart = (h.each i y is).apart;
      })
      j u was)
      (λ (is : (j ≡ new) × (w ≡ u)). subst (Fits j) is.1
      (idle_fits h.writer h.reader owner h.base h.sent h.received j w refl refl
      ([], sym sent_is ∙ sym (append-nil v.sent))
      (subst (λ p. All (λ n. (owner n ≡ p) × (n ≤ most)) v.owned) (sym is.0)
      (all_passed h.owner port new most v.owned mine.owned))
      mine.apart))
      (at_last vs w u j e);
}
  where
    vs : List ChannelView
    vs = set views port (giving v)

    new : ℕ
    new = length vs

    w : ChannelView
    w = witness v.sent v.owned

    most : ℕ
    most = number_sent h.base h.sent

    owner : ℕ → ℕ
    owner = passed_on h.owner port new

    Fits : ℕ → ChannelView → Type 0
    Fits = FitsChannel h.writer h.reader owner h.base h.sent h.received

    mine : FitsChannel h.writer h.reader h.owner h.base h.sent h.received port v
    mine = h.each port v at

    sent_is : v.sent ≡ h.sent
    sent_is = (mine.sends may).1

-- a witness is joined to any end, which owns its numbers then
pub hears_witness : (port : ℕ) (v : ChannelView) (other : ℕ) (u : ChannelView)
    → Merges IsRelayed port v other u (hearing v u) no_end
hears_witness port v other u items views h at two at' = record {
  writer = h.writer;
  reader = h.reader;
  owner = owner;
  base = h.base;
  sent = h.sent;
  received = h.received;
  all = h.all;
  ordered = h.ordered;
  each = each_set Fits (set views port w) other no_end
      (idle_fits h.writer h.reader owner h.base h.sent h.received other no_end refl refl
      (h.sent, refl) (All-nil _) none_apart)
      (λ j y apart e. now j y e apart);
}
  where
    w : ChannelView
    w = hearing v u

    most : ℕ
    most = number_sent h.base h.sent

    owner : ℕ → ℕ
    owner = passed_on h.owner other port

    Fits : ℕ → ChannelView → Type 0
    Fits = FitsChannel h.writer h.reader owner h.base h.sent h.received

    mine : FitsChannel h.writer h.reader h.owner h.base h.sent h.received port v
    mine = h.each port v at

    was : get_elem? views other ≡ some u
    was = ⊎_elim (λ x. absurd (two x.0)) (λ x. x.1) (at_set views port other w u at')

    theirs : FitsChannel h.writer h.reader h.owner h.base h.sent h.received other u
    theirs = h.each other u was

    now : (j : ℕ) (y : ChannelView) → get_elem? (set views port w) j ≡ some y → j ≢ other → Fits j y
    now = each_set (λ j y. j ≢ other → Fits j y) views port w
        (λ apart. record {
          sends = mine.sends;
          receives = mine.receives;
          known = theirs.known;
          owned = All-append (λ n. (owner n ≡ port) × (n ≤ most)) v.owned u.owned
              (others_keep h.owner other port port most v.owned apart mine.owned)
              (all_passed h.owner other port most u.owned theirs.owned);
          apart = join_apart v.owned u.owned mine.apart theirs.apart
              (cross_owners h.owner port other most v.owned u.owned apart mine.owned theirs.owned);
        })
        (λ j y _ e apart. record {
          sends = (h.each j y e).sends;
          receives = (h.each j y e).receives;
          known = (h.each j y e).known;
          owned = others_keep h.owner other port j most y.owned apart (h.each j y e).owned;
          apart = (h.each j y e).apart;
        })

pub knows : (port : ℕ) (v : ChannelView) → v.sends ≡ true
    → Learns IsRelayed port v (IsBeginning v)
knows port v may items views h at =
    let mine = h.each port v at in
    (mine.known.0, (mine.sends may).1 ∙ mine.known.1)

pub orders : (port : ℕ) (v : ChannelView) → v.sends ≡ true
    → Learns IsRelayed port v (IsOrdered v)
orders port v may items views h at =
    let known = (h.each port v at).sends may in
    subst (λ (t : Base × List Message). InOrder t.0 [] t.1)
    (λ i. (sym known.2 i, sym known.1 i)) h.ordered

pub totals : (port : ℕ) (v : ChannelView) → v.sends ≡ true → v.receives ≡ true
    → Learns IsRelayed port v (IsAll v)
totals port v a b items views h at =
    let s = (h.each port v at).sends a in
    let g = (h.each port v at).receives b in (
      s.1 ∙ h.all ∙ ap (λ l. l ++ items) (sym g.1),
      subst (λ (t : Base × List Message). InOrder t.0 [] t.1) (λ i. (sym s.2 i, sym s.1 i))
          h.ordered,
    )

-- the numbers that an end owns are apart
pub owns_apart : (port : ℕ) (v : ChannelView) → Learns IsRelayed port v (OwnsApart v)
owns_apart port v items views h at = (h.each port v at).apart

-- nothing is always learnt
pub learns_nothing : (port : ℕ) (v : ChannelView) → Learns IsRelayed port v (λ items. Unit {0})
learns_nothing port v items views h at = tt

-- once an End was received, everything was received
pub all_received : (v : ChannelView) (sent got items : List Message) → v.sent ≡ sent
    → v.received ≡ got → IsAll v items → is_open got ≡ false → sent ≡ got
all_received v sent got items s g all closed =
    sym s
    ∙ all.0
    ∙ none_after v.base [] v.received items (subst (InOrder v.base []) all.0 all.1)
    (ap is_open g ∙ closed)
    ∙ g
