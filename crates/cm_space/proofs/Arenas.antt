-- Arenas as a finite map: how a change affects its entries, and which loaders' chunks are in them.
-- For `Space::add_loader`, `Space::adopt`, `Space::chunks` and others.
use Rattle.std.proofs.Common.{◌≡◌, ℕ, Bool, true, false, cond, not, T, List, [], ◌∷◌, ◌++◌, Option}
use Rattle.std.proofs.Common.{Some, None, refl, sym, ap, ◌∙◌, append_assoc}
use Rattle.std.specs.Prelude.{◌&&◌}
use Rattle.std.specs.declared.cmp.Ordering.{Ordering}
use Rattle.std.specs.declared.cmp.Ordering.TheVariants.{Less, Equal, Greater}
use Rattle.std.specs.List.{AllByRecursion}
use Rattle.std.specs.Ordering.{nat_cmp, is_eq, is_lt, eq_by_cmp}
use Rattle.std.specs.Cmp.{nat_cmp_total, eq_by_cmp_equiv, Equal-is}
use Rattle.std.specs.Map.{lookup}
use Rattle.std.specs.FinMap as map
use Rattle.std.specs.FinMap.Entries.{put, where_key, find, below_all, is_sorted, by_order}
use Rattle.std.specs.FinMap.Entries.{is_sorted-where_key, find-where_key}
use Rattle.cm_pool.specs.declared.chunk.Chunk.{Chunk}
use Rattle.cm_arena.specs.Chains.{Filled, chain_chunks}
use Rattle.cm_space.specs.Ownership.{owned_chunks}
use Rattle.cm_space.proofs.Alike.{IsAlike, alike-same, alike-then, alike-trade, alike-behind}

abbrev pub Entries : Type 0
Entries = List (ℕ × List Filled)

pub first : (a b : Bool) → T (a && b) → T a
first true b p = tt
first false b p = p

pub second : (a b : Bool) → T (a && b) → T b
second true b p = p
second false b p = absurd p

pub less : (o : Ordering) → T (is_lt o) → o ≡ Less
less Less p = refl
less Equal p = absurd p
less Greater p = absurd p

pub same_key : (q k : ℕ) → is_eq (nat_cmp q k) ≡ true → q ≡ k
same_key q k e = map.nat_cmp-IsAntisymmetric q k ((Equal-is (nat_cmp q k)).0 e)

-- what a map made from entries has for a loader
pub find-lookup : (es : Entries) (q : ℕ) → find nat_cmp q es ≡ lookup (λ k. is_eq (nat_cmp q k)) es
find-lookup [] q = refl
find-lookup (e ∷ es) q = ap (cond (is_eq (nat_cmp q e.0)) (Some e.1)) (find-lookup es q)

pub get-lookup : (es : Entries) (q : ℕ)
    → map.get (map.from_entries {R = nat_cmp} es) q ≡ lookup (λ k. is_eq (nat_cmp q k)) es
get-lookup es q = map.get-from_entries nat_cmp_total es q ∙ find-lookup es q

-- the entries have one more value, or a different one, for k
abbrev pub Sets : Entries → Entries → ℕ → Option (List Filled) → Type 0
Sets old new k v = (q : ℕ) → lookup (λ j. is_eq (nat_cmp q j)) new
    ≡ cond (is_eq (nat_cmp k q)) v (lookup (λ j. is_eq (nat_cmp q j)) old)

turned : (k q : ℕ) → is_eq (nat_cmp k q) ≡ is_eq (nat_cmp q k)
turned k q = (eq_by_cmp_equiv nat_cmp_total).symm k q

pub entries-insert : (old new : Entries) (k : ℕ) (v : List Filled) → Sets old new k (Some v)
    → map.from_entries {R = nat_cmp} new ≡ map.insert (map.from_entries old) k v
entries-insert old new k v sets = map.same_map nat_cmp_total map.nat_cmp-IsAntisymmetric _ _ (λ q.
    get-lookup new q ∙ sets q ∙ ap (cond (is_eq (nat_cmp k q)) (Some v)) (sym (get-lookup old q))
    ∙ ap (λ b. cond b (Some v) (map.get (map.from_entries {R = nat_cmp} old) q)) (turned k q)
    ∙ sym (map.get-insert nat_cmp_total (map.from_entries old) k v q))

pub entries-remove : (old new : Entries) (k : ℕ) → Sets old new k None
    → map.from_entries {R = nat_cmp} new ≡ map.remove (map.from_entries old) k
entries-remove old new k sets = map.same_map nat_cmp_total map.nat_cmp-IsAntisymmetric _ _ (λ q.
    get-lookup new q ∙ sets q ∙ ap (cond (is_eq (nat_cmp k q)) None) (sym (get-lookup old q))
    ∙ ap (λ b. cond b None (map.get (map.from_entries {R = nat_cmp} old) q)) (turned k q)
    ∙ sym (map.get-remove nat_cmp_total (map.from_entries old) k q))

abbrev pub Arenas : Type 0
Arenas = map.FinMap nat_cmp (List Filled)

chosen : {W : Type 0} (a b : Bool) (w v : W) → a ≡ b → cond a w v ≡ cond b w v
chosen a b w v e = ap (λ c. cond c w v) e

-- inserting the value that is there changes nothing
pub insert-had : (m : Arenas) (k : ℕ) (v : List Filled) → map.get m k ≡ Some v
    → map.insert m k v ≡ m
insert-had m k v had = map.same_map nat_cmp_total map.nat_cmp-IsAntisymmetric _ _ (λ q.
    map.get-insert nat_cmp_total m k v q ∙ by_test q (is_eq (nat_cmp q k)) refl)
  where
    by_test : (q : ℕ) (t : Bool) → is_eq (nat_cmp q k) ≡ t
        → cond (is_eq (nat_cmp q k)) (Some v) (map.get m q) ≡ map.get m q
    by_test q true e =
        ap (λ b. cond b (Some v) (map.get m q)) e ∙ sym had ∙ ap (map.get m) (sym (same_key q k e))
    by_test q false e = ap (λ b. cond b (Some v) (map.get m q)) e

pub get-inserted : (m : Arenas) (k : ℕ) (v : List Filled) → map.get (map.insert m k v) k ≡ Some v
get-inserted m k v = map.get-insert nat_cmp_total m k v k ∙ ap
    (λ b. cond b (Some v) (map.get m k)) ((eq_by_cmp_equiv nat_cmp_total).refl k)

-- ---- which loaders' chunks are in the entries

-- the entries of the others
abbrev pub others : ℕ → Entries → Entries
others k es = where_key nat_cmp (λ x. not (eq_by_cmp nat_cmp k x)) es

lower : (k y : ℕ) (es : Entries) → nat_cmp k y ≡ Less → T (below_all nat_cmp y es)
    → AllByRecursion (λ (e : ℕ × List Filled). nat_cmp k e.0 ≡ Less) es
lower k y [] p h = tt
lower k y (e ∷ es) p h = (
  nat_cmp_total.trans k y e.0 p (less (nat_cmp y e.0) (first (is_lt (nat_cmp y e.0)) _ h)),
  lower k y es p (second (is_lt (nat_cmp y e.0)) _ h),
)

tied : (k y : ℕ) (es : Entries) → nat_cmp k y ≡ Equal → T (below_all nat_cmp y es)
    → AllByRecursion (λ (e : ℕ × List Filled). nat_cmp k e.0 ≡ Less) es
tied k y [] p h = tt
tied k y (e ∷ es) p h = (
  nat_cmp_total.congr k y e.0 p ∙ less (nat_cmp y e.0) (first (is_lt (nat_cmp y e.0)) _ h),
  tied k y es p (second (is_lt (nat_cmp y e.0)) _ h),
)

others-all : (k : ℕ) (es : Entries)
    → AllByRecursion (λ (e : ℕ × List Filled). nat_cmp k e.0 ≡ Less) es → others k es ≡ es
others-all k [] h = refl
others-all k (e ∷ es) h = ap (λ r. cond (not (is_eq r)) (e ∷ others k es) (others k es)) h.0 ∙ ap
    (λ l. e ∷ l) (others-all k es h.1)

-- an arena that is inserted among the others
pub record IsPut (k : ℕ) (v : List Filled) (es : Entries) (rest : List Chunk)
    (new : Entries) : Type 0 where
  pub out : IsAlike (owned_chunks new ++ rest)
      (chain_chunks v ++ (owned_chunks (others k es) ++ rest))
  pub back : IsAlike (chain_chunks v ++ (owned_chunks (others k es) ++ rest))
      (owned_chunks new ++ rest)

put-first : (k j : ℕ) (v : List Filled) (es tail : Entries) (rest : List Chunk)
    → others k es ≡ tail → IsPut k v es rest ((j, v) ∷ tail)
put-first k j v es tail rest e =
    let same : owned_chunks ((j, v) ∷ tail) ++ rest ≡ chain_chunks v
    ++ (owned_chunks (others k es) ++ rest) =
    append_assoc (chain_chunks v) (owned_chunks tail) rest
    ∙ ap (λ l. chain_chunks v ++ (owned_chunks l ++ rest)) (sym e) in
    record { out = alike-same _ _ same; back = alike-same _ _ (sym same) }

put-behind : (k : ℕ) (v : List Filled) (e : ℕ × List Filled) (es new : Entries) (rest : List Chunk)
    → others k (e ∷ es) ≡ e ∷ others k es → IsPut k v es rest new
    → IsPut k v (e ∷ es) rest (e ∷ new)
put-behind k v e es new rest kept h =
    let mine = chain_chunks v in
    let his = chain_chunks e.1 in
    let left = owned_chunks (others k es) in
    let start : owned_chunks (e ∷ new) ++ rest ≡ his ++ (owned_chunks new ++ rest) =
    append_assoc his (owned_chunks new) rest in
    let end : mine ++ (his ++ (left ++ rest)) ≡ mine ++ (owned_chunks (others k (e ∷ es)) ++ rest) =
    ap (λ l. mine ++ l) (sym (append_assoc his left rest))
    ∙ ap (λ l. mine ++ (owned_chunks l ++ rest)) (sym kept) in
    record {
      out = alike-then _ _ _ (alike-same _ _ start)
          (alike-then _ _ _ (alike-behind his _ _ h.out)
          (alike-then _ _ _ (alike-trade his mine (left ++ rest)) (alike-same _ _ end)));
      back = alike-then _ _ _ (alike-same _ _ (sym end))
          (alike-then _ _ _ (alike-trade mine his (left ++ rest))
          (alike-then _ _ _ (alike-behind his _ _ h.back) (alike-same _ _ (sym start))));
    }

pub put-is_put : (k : ℕ) (v : List Filled) (es : Entries) (rest : List Chunk)
    → T (is_sorted nat_cmp es)
    → IsPut k v es rest (put nat_cmp k v es)
put-is_put k v [] rest sorted = put-first k k v [] [] rest refl
put-is_put k v (e ∷ es) rest sorted =
    let below = first (below_all nat_cmp e.0 es) _ sorted in
    let more = put-is_put k v es rest (second (below_all nat_cmp e.0 es) _ sorted) in
    elim (nat_cmp k e.0) as (λ r. nat_cmp k e.0 ≡ r
    → IsPut k v (e ∷ es) rest
    (by_order r ((k, v) ∷ e ∷ es) ((e.0, v) ∷ es) (e ∷ put nat_cmp k v es))) [
      | Less ↦ λ is. put-first k k v (e ∷ es) (e ∷ es) rest
          (others-all k (e ∷ es) (is, lower k e.0 es is below))
      | Equal ↦ λ is. put-first k e.0 v (e ∷ es) es rest
          (ap (λ r. cond (not (is_eq r)) (e ∷ others k es) (others k es)) is
          ∙ others-all k es (tied k e.0 es is below))
      | Greater ↦ λ is. put-behind k v e es (put nat_cmp k v es) rest
          (ap (λ r. cond (not (is_eq r)) (e ∷ others k es) (others k es)) is) more
    ] refl

abbrev pub owned : Arenas → List Chunk
owned m = owned_chunks (map.entries m)

-- the chunks of all loaders but one
abbrev pub of_others : Arenas → ℕ → List Chunk
of_others m k = owned_chunks (others k (map.entries m))

pub insert-out : (m : Arenas) (k : ℕ) (v : List Filled) (rest : List Chunk)
    → IsAlike (owned (map.insert m k v) ++ rest) (chain_chunks v ++ (of_others m k ++ rest))
insert-out m k v rest = alike-then _ _ _
    (alike-same _ _ (ap (λ es. owned_chunks es ++ rest) (map.entries-insert nat_cmp_total m k v)))
    (put-is_put k v (map.entries m) rest (map.entries_sorted m)).out

pub insert-back : (m : Arenas) (k : ℕ) (v : List Filled) (rest : List Chunk)
    → IsAlike (chain_chunks v ++ (of_others m k ++ rest)) (owned (map.insert m k v) ++ rest)
insert-back m k v rest =
    alike-then _ _ _ (put-is_put k v (map.entries m) rest (map.entries_sorted m)).back
    (alike-same _ _ (sym (ap (λ es. owned_chunks es ++ rest)
    (map.entries-insert nat_cmp_total m k v))))

-- a value that is there splits the chunks in the same way
pub had-out : (m : Arenas) (k : ℕ) (v : List Filled) (rest : List Chunk) → map.get m k ≡ Some v
    → IsAlike (owned m ++ rest) (chain_chunks v ++ (of_others m k ++ rest))
had-out m k v rest had =
    alike-then _ _ _ (alike-same _ _ (ap (λ n. owned n ++ rest) (sym (insert-had m k v had))))
    (insert-out m k v rest)

-- the others' entries are all entries if the loader has none, and those that are left if its entry
-- is removed
pub remove-others : (m : Arenas) (k : ℕ) → map.entries (map.remove m k) ≡ others k (map.entries m)
remove-others m k =
    let es = others k (map.entries m) in
    let sorted =
    is_sorted-where_key nat_cmp (λ x. not (eq_by_cmp nat_cmp k x)) (map.entries m)
    (map.entries_sorted m) in
    let same : map.remove m k ≡ map.from_sorted es =
    map.same_map nat_cmp_total map.nat_cmp-IsAntisymmetric _ _ (λ q.
    map.get-remove nat_cmp_total m k q
    ∙ ap (λ b. cond b None (map.get m q)) (sym (turned k q))
    ∙ flipped (is_eq (nat_cmp k q)) (map.get m q)
    ∙ ap (λ o. cond (not (is_eq (nat_cmp k q))) o None) (map.get-entries m q)
    ∙ sym (map.get-from_sorted nat_cmp es q sorted
    ∙ find-where_key nat_cmp (λ x. not (eq_by_cmp nat_cmp k x)) q (λ x t. ap not (alike k q x t))
    (map.entries m))) in
    ap map.entries same ∙ map.entries-from_sorted nat_cmp es sorted
  where
    flipped : {A : Type 0} (b : Bool) (x : Option A) → cond b None x ≡ cond (not b) x None
    flipped true x = refl
    flipped false x = refl

    alike : (k q x : ℕ) → nat_cmp q x ≡ Equal → is_eq (nat_cmp k x) ≡ is_eq (nat_cmp k q)
    alike k q x t = ap (λ y. is_eq (nat_cmp k y)) (sym (map.nat_cmp-IsAntisymmetric q x t))

pub none-others : (m : Arenas) (k : ℕ) → map.get m k ≡ None → of_others m k ≡ owned m
none-others m k none =
    let same : map.remove m k ≡ m = map.same_map nat_cmp_total map.nat_cmp-IsAntisymmetric _ _ (λ q.
    map.get-remove nat_cmp_total m k q ∙ by_test q (is_eq (nat_cmp q k)) refl) in
    ap owned_chunks (sym (remove-others m k)) ∙ ap owned same
  where
    by_test : (q : ℕ) (t : Bool) → is_eq (nat_cmp q k) ≡ t
        → cond (is_eq (nat_cmp q k)) None (map.get m q) ≡ map.get m q
    by_test q true e =
        ap (λ b. cond b None (map.get m q)) e ∙ sym none ∙ ap (map.get m) (sym (same_key q k e))
    by_test q false e = ap (λ b. cond b None (map.get m q)) e
