-- What is handed out, learnt and committed.
-- For `ahead_stays_ahead`, `handed_groups_are_next`, `opened_is_ahead`.
use Rattle.std.proofs.Common.{◌≡◌, ℕ, ◌+◌, ◌-◌, ◌^◌, ◌≤◌, List, [], ◌∷◌, ◌++◌, length}
use Rattle.std.proofs.Common.{refl, sym, ap, subst, ◌∙◌, arith, append_assoc}
use Rattle.std.specs.Prelude.{max}
use Rattle.std.specs.List.{flat_map}
use Rattle.std.proofs.lemmas.List.{length-append}
use Rattle.cm_group.specs.Groups.{Carried, Handed, next_number}
use Rattle.cm_space.specs.Space.{learnt}
use Rattle.cm_space.specs.Laws.{OwnedIsUsed, OwnedOrWaiting, LearningFreesDue}
use Rattle.cm_state.specs.Laws.{EntriesAreSteps}
use Rattle.cm_commit.specs.Offers.{rows_after_group}
use Rattle.cm_front.specs.Laws.{ChainsHaveChunks}
use Rattle.cm_front.specs.Front.{FrontState}
use Rattle.cm_front.specs.Unsealed.{Follow}
use Rattle.cm_handover.specs.Ahead.{AllFollow, AtEach, AllApart, AreUsed, UseNoneDue}
use Rattle.cm_handover.specs.Ahead.{pending, IsAhead}
use Rattle.cm_handover.specs.Handover.{OpenedIsAhead, HandedIsAhead, LearntIsAhead, FailedIsAhead}
use Rattle.cm_handover.specs.Handover.{HandedMayBeNext, CommittedIsAhead}
use Rattle.cm_handover.proofs.Following.{WordRows, rows_after_two, follow_first, follow_rest}
use Rattle.cm_handover.proofs.Following.{at_rest}
use Rattle.cm_handover.proofs.Following.{at_each_also, apart_rest, apart_from_first, may_join}
use Rattle.cm_handover.proofs.Following.{cache_after}
use Rattle.cm_handover.proofs.Used.{front_uses, front_due, used_once_learnt, due_once_learnt}

-- ---- opened

pub opened_is_ahead : ChainsHaveChunks → OwnedIsUsed → OwnedOrWaiting → OpenedIsAhead
opened_is_ahead chunks used apart book number s f are is =
    subst (λ t. IsAhead book.rows number [] t) (sym is.front_is) (record {
      cache = are;
      numbers = omega arith;
      sealed = omega arith;
      learnt = omega arith;
      rows_are = refl;
      follow = tt;
      apart = tt;
      used = subst (λ (t : FrontState). AreUsed s.space.pool t.rows) is.front_is
          (front_uses chunks used s f);
      due = subst (λ (t : FrontState). UseNoneDue s.space.waiting number t.rows) is.front_is
          (front_due chunks apart s number f);
    })

-- ---- handed out

pub handed_is_ahead : HandedIsAhead
handed_is_ahead rows number out s new group f a h =
    subst (λ t. IsAhead rows number (out ++ group.entries) t) (sym h.after)
    (subst (λ (g : Handed). IsAhead rows number (out ++ g.entries) after) (sym h.group_is)
    (record {
      cache = a.cache;
      numbers = ap (λ l. number + length l) same ∙ a.numbers;
      sealed =
          let sealed = a.sealed in
          let count = length-append out h.oldest.entries in
          let first : h.oldest.first ≡ s.sealed + 1 =
          (subst (λ l. Follow (s.sealed + 1) l (s.number + 1)) h.is_oldest f.groups).0 in
          omega (arith, sealed, count, first);
      learnt = a.learnt;
      rows_are = ap (rows_after_group rows) same ∙ a.rows_are;
      follow = subst (λ l. AllFollow s.sizes rows number l) (sym same) a.follow;
      apart = subst (λ l. AllApart rows l) (sym same) a.apart;
      used = subst (λ l. AtEach (λ n at. AreUsed s.space.pool at) number rows l) (sym same) a.used;
      due = subst (λ l. AtEach (UseNoneDue s.space.waiting) number rows l) (sym same) a.due;
    }))
  where
    after : FrontState
    after = record s { unsealed = h.rest; sealed = next_number h.oldest - 1 }

    same : (out ++ h.oldest.entries) ++ flat_map (λ (g : Handed). g.entries) h.rest
        ≡ pending out s
    same =
        append_assoc out h.oldest.entries (flat_map (λ (g : Handed). g.entries) h.rest)
        ∙ ap (λ l. out ++ flat_map (λ (g : Handed). g.entries) l) (sym h.is_oldest)

-- ---- learnt

pub learnt_is_ahead : LearningFreesDue → LearntIsAhead
learnt_is_ahead frees rows number out s k f a to = record {
  cache = a.cache;
  numbers = a.numbers;
  sealed = a.sealed;
  learnt = let before = a.learnt in omega (arith, before, to);
  rows_are = a.rows_are;
  follow = a.follow;
  apart = a.apart;
  used = both_used (pending out s) number rows (λ n from. omega (arith, from, below)) a.used a.due;
  due = at_each_also (UseNoneDue s.space.waiting) (UseNoneDue (learnt s.space m).waiting) number
      rows
      (pending out s) (λ n at from end none. due_once_learnt s.space m n at none) a.due;
}
  where
    m : ℕ
    m = max s.learnt k

    below : max s.learnt k ≤ number
    below = let before = a.learnt in omega (arith, before, to)

    both_used : (list : List Carried) (n : ℕ) (now : WordRows) → ((j : ℕ) → n ≤ j → max s.learnt k
        ≤ j)
        → AtEach (λ j at. AreUsed s.space.pool at) n now list
        → AtEach (UseNoneDue s.space.waiting) n now list
        → AtEach (λ j at. AreUsed (learnt s.space (max s.learnt k)).pool at) n now list
    both_used [] n now from used due =
        used_once_learnt frees s (max s.learnt k) n now f (from n (omega arith)) used due
    both_used (c ∷ list) n now from used due = (
      used_once_learnt frees s (max s.learnt k) n now f (from n (omega arith)) used.0 due.0,
      both_used list (n + 1) _ (λ j up. from j (omega (arith, up))) used.1 due.1,
    )

-- ---- failed

pub failed_is_ahead : FailedIsAhead
failed_is_ahead rows number out s broken closed a = record {
  cache = a.cache;
  numbers = a.numbers;
  sealed = a.sealed;
  learnt = a.learnt;
  rows_are = a.rows_are;
  follow = a.follow;
  apart = a.apart;
  used = a.used;
  due = a.due;
}

-- ---- committed

-- how the oldest entries and the others make up all that waits
split : (first out : List Carried) (s : FrontState)
    → pending (first ++ out) s ≡ first ++ pending out s
split first out s = append_assoc first out (flat_map (λ (g : Handed). g.entries) s.unsealed)

pub handed_may_be_next : HandedMayBeNext
handed_may_be_next rows number group out s f a = record {
  ends = within;
  entries = may_join s.sizes rows rows number group.entries
      (follow_first s.sizes rows number group.entries (pending out s) follow)
      (apart_from_first rows group.entries (pending out s) apart);
}
  where
    count : length (pending (group.entries ++ out) s)
        ≡ length group.entries + length (pending out s)
    count =
        ap length (split group.entries out s) ∙ length-append group.entries (pending out s)

    within : number + length group.entries ≤ 2 ^ 63
    within =
        let to = f.numbers in
        let last = a.numbers in
        omega (arith, to, last, count)

    follow : AllFollow s.sizes rows number (group.entries ++ pending out s)
    follow = subst (λ l. AllFollow s.sizes rows number l) (split group.entries out s) a.follow

    apart : AllApart rows (group.entries ++ pending out s)
    apart = subst (λ l. AllApart rows l) (split group.entries out s) a.apart

pub committed_is_ahead : EntriesAreSteps (List ℕ) → CommittedIsAhead
committed_is_ahead steps rows number group out s f a = record {
  cache = cache_after steps s.sizes rows number group.entries a.cache
      (follow_first s.sizes rows number group.entries (pending out s) follow)
      (let to = f.numbers in let last = a.numbers in omega (arith, to, last, count));
  numbers = let last = a.numbers in omega (arith, last, count);
  sealed =
      let sealed = a.sealed in
      let long = length-append group.entries out in
      omega (arith, sealed, long);
  learnt = let before = a.learnt in omega (arith, before);
  rows_are =
      sym (ap (rows_after_group rows) whole ∙ rows_after_two rows group.entries (pending out s))
      ∙ a.rows_are;
  follow = follow_rest s.sizes rows number group.entries (pending out s) follow;
  apart = apart_rest rows group.entries (pending out s)
      (subst (λ l. AllApart rows l) whole a.apart);
  used = at_rest (λ n at. AreUsed s.space.pool at) number rows group.entries (pending out s)
      (subst (λ l. AtEach (λ n at. AreUsed s.space.pool at) number rows l) whole a.used);
  due = at_rest (UseNoneDue s.space.waiting) number rows group.entries (pending out s)
      (subst (λ l. AtEach (UseNoneDue s.space.waiting) number rows l) whole a.due);
}
  where
    whole : pending (group.entries ++ out) s ≡ group.entries ++ pending out s
    whole = split group.entries out s

    count : length (pending (group.entries ++ out) s)
        ≡ length group.entries + length (pending out s)
    count = ap length whole ∙ length-append group.entries (pending out s)

    follow : AllFollow s.sizes rows number (group.entries ++ pending out s)
    follow = subst (λ l. AllFollow s.sizes rows number l) whole a.follow
