-- What is handed over continues what was before, by itself and joined, and is accepted.
-- For `groups_may_follow`.
use Rattle.std.proofs.Common.{◌≡◌, ◌+◌, ◌≤◌, true, List, [], ◌∷◌, ◌++◌, length}
use Rattle.std.proofs.Common.{refl, sym, ap, subst, ◌∙◌, arith, append_assoc}
use Rattle.std.specs.List.{AllByRecursion, flat_map}
use Rattle.std.proofs.lemmas.List.{length-append, append-nil}
use Rattle.cm_group.specs.Groups.{Carried, Handed, IsGroup, IsContinuedBy, joined_group}
use Rattle.cm_group.specs.Groups.{CarriesRight}
use Rattle.cm_group.specs.Groups.{slots_taken}
use Rattle.cm_commit.specs.Offers.{writes_apart, rows_after_group}
use Rattle.cm_front.specs.Front.{FrontState}
use Rattle.cm_front.specs.Unsealed.{Follow}
use Rattle.cm_handover.specs.Ahead.{AllFollow, AllApart, pending}
use Rattle.cm_handover.specs.Carrying.{GroupMayFollow, HandedCarriesOn, JoinedCarriesOn}
use Rattle.cm_handover.specs.Carrying.{CarriedMayCome}
use Rattle.cm_handover.proofs.Following.{WordRows, rows_after_two, follow_two, follow_first}
use Rattle.cm_handover.proofs.Following.{follow_rest, apart_rest, may_join}

-- ---- lists

all_two : (P : Carried → Type 0) (a b : List Carried) → AllByRecursion P a → AllByRecursion P b
    → AllByRecursion P (a ++ b)
all_two P [] b h k = k
all_two P (c ∷ a) b h k = (h.0, all_two P a b h.1 k)

all_rest : (P : Carried → Type 0) (a b : List Carried) → AllByRecursion P (a ++ b)
    → AllByRecursion P b
all_rest P [] b h = h
all_rest P (c ∷ a) b h = all_rest P a b h.1

all_first : (P : Carried → Type 0) (a b : List Carried) → AllByRecursion P (a ++ b)
    → AllByRecursion P a
all_first P [] b h = tt
all_first P (c ∷ a) b h = (h.0, all_first P a b h.1)

-- all following entries are apart from the rows before them
apart_all : (rows : WordRows) (a : List Carried) → AllApart rows a
    → AllByRecursion (λ (c : Carried). writes_apart rows c.entry ≡ true) a
apart_all rows [] h = tt
apart_all rows (c ∷ a) h = h.0

-- one of two beginnings of a list begins the longer one
longer : (x y a b : List Carried) → x ++ y ≡ a ++ b → length x ≤ length a
    → (more : List Carried) × (a ≡ x ++ more) × (y ≡ more ++ b)
longer [] y a b same to = (a, refl, same)
longer (c ∷ x) y [] b same to = absurd (omega arith)
longer (c ∷ x) y (d ∷ a) b same to =
    let heads : c ≡ d = cc in
    let tails : x ++ y ≡ a ++ b = cc in
    let rest = longer x y a b tails (omega arith) in
    (rest.0, cc (heads, rest.1), rest.2)

-- ---- handed out

-- what is handed out is among what waits
waits : (out : List Carried) (s : FrontState) (oldest : Handed) (rest : List Handed)
    → s.unsealed ≡ oldest ∷ rest
    → pending out s ≡ (out ++ oldest.entries) ++ flat_map (λ (g : Handed). g.entries) rest
waits out s oldest rest is =
    ap (λ l. out ++ flat_map (λ (g : Handed). g.entries) l) is
    ∙ sym (append_assoc out oldest.entries (flat_map (λ (g : Handed). g.entries) rest))

pub handed_carries_on : HandedCarriesOn
handed_carries_on rows number stored out s new group f is a learnt h =
    subst (λ g. GroupMayFollow s.sizes rows number (stored ++ out) g) (sym h.group_is) (record {
      is = subst IsGroup h.group_is is;
      first =
          let count = length-append stored out in
          let sealed = a.sealed in
          let first : h.oldest.first ≡ s.sealed + 1 =
          (subst (λ l. Follow (s.sealed + 1) l (s.number + 1)) h.is_oldest f.groups).0 in
          omega (arith, count, sealed, first);
      follow =
          subst (λ k. AllFollow s.sizes (rows_after_group rows (stored ++ out)) k h.oldest.entries)
          (let count = length-append stored out in omega (arith, count))
          (subst (λ r. AllFollow s.sizes r (number + length stored + length out)
          h.oldest.entries)
          (sym (rows_after_two rows stored out)) follow);
      apart = apart;
    })
  where
    behind : List Carried
    behind = flat_map (λ (g : Handed). g.entries) h.rest

    base : WordRows
    base = rows_after_group rows stored

    follow : AllFollow s.sizes (rows_after_group base out) (number + length stored + length out)
        h.oldest.entries
    follow =
        follow_rest s.sizes base (number + length stored) out h.oldest.entries
        (follow_first s.sizes base (number + length stored) (out ++ h.oldest.entries) behind
        (subst (λ l. AllFollow s.sizes base (number + length stored) l)
        (waits out s h.oldest h.rest h.is_oldest) a.follow))

    all_apart : AllApart base ((out ++ h.oldest.entries) ++ behind)
    all_apart = subst (λ l. AllApart base l) (waits out s h.oldest h.rest h.is_oldest) a.apart

    apart : (x y : List Carried) → stored ++ out ≡ x ++ y → s.learnt ≤ number + length x
        → AllByRecursion
        (λ (c : Carried). writes_apart (rows_after_group rows x) c.entry ≡ true)
        h.oldest.entries
    apart x y same from =
        let split = longer stored out x y same (omega (arith, from, learnt)) in
        let more = split.0 in
        let P : Carried → Type 0 =
        λ c. writes_apart (rows_after_group base more) c.entry ≡ true in
        let list : (out ++ h.oldest.entries) ++ behind
        ≡ more ++ ((y ++ h.oldest.entries) ++ behind) =
        ap (λ l. (l ++ h.oldest.entries) ++ behind) split.2
        ∙ ap (λ l. l ++ behind) (append_assoc more y h.oldest.entries)
        ∙ append_assoc more (y ++ h.oldest.entries) behind in
        let behind_more = apart_all (rows_after_group base more)
        ((y ++ h.oldest.entries) ++ behind)
        (apart_rest base more ((y ++ h.oldest.entries) ++ behind)
        (subst (λ l. AllApart base l) list all_apart)) in
        subst (λ r. AllByRecursion (λ (c : Carried). writes_apart r c.entry ≡ true)
        h.oldest.entries)
        (sym (ap (rows_after_group rows) split.1 ∙ rows_after_two rows stored more))
        (all_rest P y h.oldest.entries (all_first P (y ++ h.oldest.entries) behind behind_more))

-- ---- joined

right_two : (a b : List Carried) → AllByRecursion CarriesRight a → AllByRecursion CarriesRight b
    → AllByRecursion CarriesRight (a ++ b)
right_two a b = all_two CarriesRight a b

taken_two : (a b : List Carried) → slots_taken (a ++ b) ≡ slots_taken a + slots_taken b
taken_two [] b = omega arith
taken_two (c ∷ a) b = omega (arith, taken_two a b)

joined_is : (one two : Handed) → IsGroup one → IsGroup two → IsContinuedBy one two
    → IsGroup (joined_group one two)
joined_is one two i j goes =
    let count = length-append one.entries two.entries in
    let taken = taken_two one.entries two.entries in
    record {
      some = let some = i.some in omega (arith, count, some);
      few = let few = goes.few in omega (arith, taken, few);
      learnt = let a = i.learnt in let b = goes.learnt in omega (arith, a, b);
      numbers =
          let next = goes.numbers in
          let to = j.numbers in
          omega (arith, count, next, to);
      right = right_two one.entries two.entries i.right j.right;
    }

pub joined_carries_on : JoinedCarriesOn
joined_carries_on sizes rows number before one two a b goes = record {
  is = joined_is one two a.is b.is goes;
  first = a.first;
  follow = follow_two sizes (rows_after_group rows before) (number + length before) one.entries
      two.entries a.follow
      (subst (λ r. AllFollow sizes r (number + length before + length one.entries) two.entries)
      (rows_after_two rows before one.entries)
      (subst (λ k. AllFollow sizes (rows_after_group rows (before ++ one.entries)) k two.entries)
      (let count = length-append before one.entries in omega (arith, count)) b.follow));
  apart = λ stored rest same from. all_two
      (λ (c : Carried). writes_apart (rows_after_group rows stored) c.entry ≡ true) one.entries
      two.entries
      (a.apart stored rest same (omega (arith, from)))
      (b.apart stored (rest ++ one.entries)
      (ap (λ l. l ++ one.entries) same ∙ append_assoc stored rest one.entries)
      (omega (arith, from)));
}

-- ---- taken

pub carried_may_come : CarriedMayCome
carried_may_come sizes rows number before group c = record {
  begins = c.first;
  ends =
      let first = c.first in
      let to = c.is.numbers in
      omega (arith, first, to);
  entries = may_join sizes (rows_after_group rows before) (rows_after_group rows before)
      (number + length before) group.entries c.follow
      (c.apart before [] (sym (append-nil before))
      (let first = c.first in let learnt = c.is.learnt in omega (arith, first, learnt)));
}
