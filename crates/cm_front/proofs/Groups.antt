-- Groups that aren't handed out: one more entry, and the oldest taken out.
-- For `join`.
use Rattle.std.proofs.Common.{◌≡◌, ℕ, ◌+◌, ◌≤◌, Bool, true, false, cond, List, [], ◌∷◌, ◌++◌}
use Rattle.std.proofs.Common.{length, Option, Some, None, refl, sym, ap, subst, ◌∙◌, arith}
use Rattle.std.specs.Prelude.{nat_le, option_to_list}
use Rattle.std.proofs.lemmas.List.{length-append}
use Rattle.std.proofs.lemmas.Bool.{leb-true}
use Rattle.cm_group.specs.Groups.{Carried, Handed, next_number, slots_taken, group_limit}
use Rattle.cm_front.specs.Unsealed.{Follow, EndBefore, NewestIsLast}
use Rattle.cm_front.specs.Accepting.{begun_by, with_carried, joined_by}

next_more : (group : Handed) (c : Carried) → next_number (with_carried group c)
    ≡ next_number group + 1
next_more group c =
    let more : length (group.entries ++ c ∷ []) ≡ length group.entries + 1 =
    length-append group.entries (c ∷ []) in
    omega (arith, more)

begun_up_to : (n : ℕ) (c : Carried) (from : ℕ) → from ≡ n → Follow from (begun_by n c ∷ []) (n + 1)
begun_up_to n c from e = (sym e, refl, refl)

-- the groups with one more entry end one number later
pub follow_joined : (groups : List Handed) (from to : ℕ) (c : Carried) → Follow from groups to
    → Follow from (joined_by to groups c) (to + 1)
follow_joined [] from to c f = begun_up_to to c from f
follow_joined (g ∷ []) from to c f =
    by_room (nat_le (slots_taken (g.entries ++ c ∷ [])) group_limit)
  where
    by_room : (t : Bool)
        → Follow from (cond t (with_carried g c ∷ []) (g ∷ begun_by to c ∷ [])) (to + 1)
    by_room true = (f.0, f.1, next_more g c ∙ ap (λ n. n + 1) f.2)
    by_room false = (f.0, f.1, begun_up_to to c (next_number g) f.2)
follow_joined (g ∷ h ∷ groups) from to c f =
    (f.0, f.1, follow_joined (h ∷ groups) (next_number g) to c f.2)

pub follow_from : (groups : List Handed) (from to : ℕ) → Follow from groups to → from ≤ to
follow_from [] from to f = omega (arith, f)
follow_from (g ∷ groups) from to f =
    let rest : next_number g ≤ to = follow_from groups (next_number g) to f.2 in
    let first : g.first ≡ from = f.0 in
    omega (arith, rest, first)

-- the newest group ends before this number
pub follow_last : (groups : List Handed) (g : Handed) (from to : ℕ)
    → Follow from (groups ++ g ∷ []) to
    → next_number g ≡ to
follow_last [] g from to f = f.2
follow_last (h ∷ groups) g from to f = follow_last groups g (next_number h) to f.2

-- with older groups before the newest
pub joined_new : (groups : List Handed) (n : ℕ) (g : Handed) (c : Carried)
    → nat_le (slots_taken (g.entries ++ c ∷ [])) group_limit ≡ false
    → joined_by n (groups ++ g ∷ []) c ≡ (groups ++ g ∷ []) ++ begun_by n c ∷ []
joined_new [] n g c e = rw e refl
joined_new (h ∷ []) n g c e = ap (λ l. h ∷ l) (joined_new [] n g c e)
joined_new (h ∷ k ∷ groups) n g c e = ap (λ l. h ∷ l) (joined_new (k ∷ groups) n g c e)

pub joined_newest : (groups : List Handed) (n : ℕ) (g : Handed) (c : Carried)
    → nat_le (slots_taken (g.entries ++ c ∷ [])) group_limit ≡ true
    → joined_by n (groups ++ g ∷ []) c ≡ groups ++ with_carried g c ∷ []
joined_newest [] n g c e = rw e refl
joined_newest (h ∷ []) n g c e = ap (λ l. h ∷ l) (joined_newest [] n g c e)
joined_newest (h ∷ k ∷ groups) n g c e = ap (λ l. h ∷ l) (joined_newest (k ∷ groups) n g c e)

-- ---- as they are kept

-- the entry begins the first group
pub begun_alone : (full : List Handed) (newest : Option Handed) (groups : List Handed) (n : ℕ)
    (c : Carried) (g : Handed) → newest ≡ None → NewestIsLast full newest
    → full ++ option_to_list newest ≡ groups → g ≡ begun_by n c
    → full ++ g ∷ [] ≡ joined_by n groups c
begun_alone full newest groups n c g none last view is =
    let empty : full ≡ [] = subst (λ o. NewestIsLast full o) none last in
    let no_groups : groups ≡ [] = sym view ∙ (ap (λ o. full ++ option_to_list o) none
    ∙ ap (λ (l : List Handed). l ++ []) empty) in
    ap (λ (l : List Handed). l ++ g ∷ []) empty
    ∙ (ap (λ h. h ∷ []) is ∙ ap (λ l. joined_by n l c) (sym no_groups))

-- the entry joins the newest one
pub joined_last : (full : List Handed) (newest : Option Handed) (groups : List Handed) (n : ℕ)
    (c : Carried) (old new : Handed) → newest ≡ Some old → full ++ option_to_list newest ≡ groups
    → nat_le (slots_taken (old.entries ++ c ∷ [])) group_limit ≡ true → new ≡ with_carried old c
    → full ++ new ∷ [] ≡ joined_by n groups c
joined_last full newest groups n c old new some view room is =
    ap (λ h. full ++ h ∷ []) is
    ∙ (sym (joined_newest full n old c room)
    ∙ ap (λ l. joined_by n l c) (sym (ap (λ o. full ++ option_to_list o) some) ∙ view))

-- the newest is full, and the entry begins another
pub begun_behind : (full : List Handed) (newest : Option Handed) (groups : List Handed) (n : ℕ)
    (c : Carried) (old new : Handed) → newest ≡ Some old → full ++ option_to_list newest ≡ groups
    → nat_le (slots_taken (old.entries ++ c ∷ [])) group_limit ≡ false → new ≡ begun_by n c
    → (full ++ old ∷ []) ++ new ∷ [] ≡ joined_by n groups c
begun_behind full newest groups n c old new some view room is =
    ap (λ h. (full ++ old ∷ []) ++ h ∷ []) is
    ∙ (sym (joined_new full n old c room)
    ∙ ap (λ l. joined_by n l c) (sym (ap (λ o. full ++ option_to_list o) some) ∙ view))

-- the newest ends before this number
pub newest_next : (full : List Handed) (newest : Option Handed) (groups : List Handed) (n : ℕ)
    (old : Handed) → newest ≡ Some old → full ++ option_to_list newest ≡ groups
    → EndBefore groups n → next_number old ≡ n
newest_next full newest groups n old some view up =
    follow_last full old up.from n
    (subst (λ l. Follow up.from l n) (sym (sym (ap (λ o. full ++ option_to_list o) some) ∙ view))
    up.follow)

-- what has no room takes too many slots
pub too_many : (a b : ℕ) → (a ≤ b → ⊥) → nat_le a b ≡ false
too_many a b h = by_test (nat_le a b) refl
  where
    by_test : (t : Bool) → nat_le a b ≡ t → t ≡ false
    by_test true e = absurd (h (leb-true a b e))
    by_test false e = refl
