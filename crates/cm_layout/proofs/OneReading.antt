-- Contents frame at most one thing: the sizes, the rows with their words, and the number.
-- For `contents_determine_rows` and others.
use Rattle.std.proofs.Common.{◌≡◌, ℕ, ◌+◌, ◌*◌, ◌<◌, ◌≤◌, ◌⊎◌, List, [], ◌∷◌, ◌++◌, length}
use Rattle.std.proofs.Common.{get_or}
use Rattle.std.specs.Prelude.{◌==◌, ◌&&◌, nat_lt, if◌then◌else◌}
use Rattle.std.proofs.Common.{take, drop, inl, inr, refl, sym, ap, subst, ◌∙◌, arith, append_assoc}
use Rattle.std.specs.List.{flat_map, AllByRecursion}
use Rattle.std.proofs.lemmas.List.{take_at, drop_at, append_cancel_left}
use Rattle.cm_pool.specs.Geometry.{Sizes, IsGeometry}
use Rattle.cm_layout.specs.declared.heads.HalfHead.{HalfHead}
use Rattle.cm_layout.specs.declared.class_row.ClassRow.{ClassRow}
use Rattle.cm_layout.specs.declared.row.Row.{Row}
use Rattle.cm_layout.specs.declared.row.Row.TheVariants.{Loader, Class}
use Rattle.cm_layout.specs.declared.entry.Entry.TheVariants as entry
use Rattle.cm_layout.specs.Slots.{half_head_slot, row_slots, entry_slots}
use Rattle.cm_layout.specs.Slots.{FitsGroupHead}
use Rattle.cm_layout.specs.Slots.{FitsEntry}
use Rattle.cm_layout.specs.Superblock.{superblock_front, superblock_bytes}
use Rattle.cm_layout.specs.Names.{name_room}
use Rattle.cm_layout.specs.Rows.{slots_of_row, slots_of, slots_of_rows, slots_of_entries}
use Rattle.cm_layout.specs.Rows.{rows_after, rows_after_all, bare}
use Rattle.cm_layout.specs.Frames.{BareRow, BareEntry, LiveRowsKeep, EntriesKeep, GroupKeeps}
use Rattle.cm_layout.specs.Frames.{GroupsKeep, group_slots, groups_slots, IsEnd, IsGoodHead}
use Rattle.cm_layout.specs.Frames.{OpenHalf, half_bytes, IsGoodHalf, rows_of}
use Rattle.cm_layout.specs.Frames.{number_at_end, IsOlder, Counts, HoldsRecord, HoldsRow}
use Rattle.cm_layout.specs.Frames.{Region, region_bytes, Frames}
use Rattle.cm_layout.specs.Laws.{FramesAreOne}
use Rattle.cm_layout.proofs.Numbers.{padded-count}
use Rattle.cm_layout.proofs.LoaderSlots.{loader_slots-count}
use Rattle.cm_layout.proofs.SlotCounts.{slots-row}
use Rattle.cm_layout.proofs.OneSlot.{same_entry, same_half_head, same_group_head, same_four}

-- ---- lists that begin alike

same_parts : (a b x y : List ℕ) → length a ≡ length b → a ++ x ≡ b ++ y → (a ≡ b) × (x ≡ y)
same_parts a b x y count e =
    let front : a ≡ b =
    sym (take_at a x (length a) refl) ∙ (λ i. take (count i) (e i)) ∙ take_at b y (length b) refl in
    let back : x ≡ y =
    sym (drop_at a x (length a) refl) ∙ (λ i. drop (count i) (e i)) ∙ drop_at b y (length b) refl in
    (front, back)

-- ---- the superblock

same_sizes : (s t : Sizes) (x y : List ℕ) → IsGeometry s → IsGeometry t
    → superblock_bytes s ++ x ≡ superblock_bytes t ++ y → s ≡ t
same_sizes s t x y gs gt e =
    let front : superblock_front s ≡ superblock_front t = ap (take 24) e in
    let top : s.top ≡ t.top = same_four 12 s.top t.top (superblock_front s) (superblock_front t)
    (omega (arith, gs.top_to)) (omega (arith, gt.top_to)) refl refl front in
    let roots : s.roots ≡ t.roots =
    same_four 16 s.roots t.roots (superblock_front s) (superblock_front t)
    (omega (arith, gs.roots_to)) (omega (arith, gt.roots_to)) refl refl front in
    let slots : s.slots ≡ t.slots =
    same_four 20 s.slots t.slots (superblock_front s) (superblock_front t)
    (omega (arith, gs.slots_to)) (omega (arith, gt.slots_to)) refl refl front in
    (λ i. record { top = top i; roots = roots i; slots = slots i })

-- ---- slots one after another

-- an entry has as many bytes as the slots that it takes
pub slot_count : (e : BareEntry) → FitsEntry e → length (entry_slots e) ≡ 64 * slots_of e
slot_count (entry.Live (Loader r)) fits = loader_slots-count r (omega (arith, fits.name))
slot_count (entry.Live (Class r p)) fits = refl
slot_count (entry.Unload e) fits = refl
slot_count (entry.Move e) fits = refl
slot_count (entry.UnloadAll e) fits =
    omega (
      arith,
      padded-count e.loaders 7 fits.few,
    )

-- how many slots are taken from here on: two by a loader whose name is longer than its slot
-- has room for
abbrev slots_said : List ℕ → ℕ
slots_said bytes = if (get_or bytes 1 0 == 17) && nat_lt name_room (get_or bytes 2 0) then 2 else 1

said : (e : BareEntry) (x : List ℕ) → slots_said (entry_slots e ++ x) ≡ slots_of e
said (entry.Live (Loader r)) x = refl
said (entry.Live (Class r p)) x = refl
said (entry.Unload e) x = refl
said (entry.Move e) x = refl
said (entry.UnloadAll e) x = refl

-- the first entries of two lists are one, and so are the lists after them
first_entry : (d e : BareEntry) (x y : List ℕ) → FitsEntry d → FitsEntry e
    → entry_slots d ++ x ≡ entry_slots e ++ y → (d ≡ e) × (x ≡ y)
first_entry d e x y fd fe h =
    let taken : slots_of d ≡ slots_of e = sym (said d x) ∙ ap slots_said h ∙ said e y in
    let count : length (entry_slots d) ≡ length (entry_slots e) =
    slot_count d fd ∙ ap (λ (n : ℕ). 64 * n) taken ∙ sym (slot_count e fe) in
    let p = same_parts (entry_slots d) (entry_slots e) x y count h in
    (same_entry d e fd fe p.0, p.1)

abbrev live_of : BareEntry → BareRow → BareRow
live_of (entry.Live r) s = r
live_of (entry.Unload e) s = s
live_of (entry.Move e) s = s
live_of (entry.UnloadAll e) s = s

-- ---- live rows

same_rows : (sizes : Sizes) (base : ℕ) (p q xs ys : List BareRow) (x y : List ℕ)
    → LiveRowsKeep sizes base p xs → LiveRowsKeep sizes base q ys
    → slots_of_rows xs ≡ slots_of_rows ys
    → flat_map row_slots xs ++ x ≡ flat_map row_slots ys ++ y → (xs ≡ ys) × (x ≡ y)
same_rows sizes base p q [] [] x y kx ky count h = (refl, h)
same_rows sizes base p q [] (s ∷ ys) x y kx ky count h =
    absurd (omega (arith, count, (slots-row s).0))
same_rows sizes base p q (r ∷ xs) [] x y kx ky count h =
    absurd (omega (arith, count, (slots-row r).0))
same_rows sizes base p q (r ∷ xs) (s ∷ ys) x y kx ky count h =
    let apart : row_slots r ++ (flat_map row_slots xs ++ x) ≡ row_slots s
    ++ (flat_map row_slots ys ++ y) =
    sym (append_assoc (row_slots r) (flat_map row_slots xs) x) ∙ h
    ∙ append_assoc (row_slots s) (flat_map row_slots ys) y in
    let first = first_entry (entry.Live r) (entry.Live s) (flat_map row_slots xs ++ x)
    (flat_map row_slots ys ++ y) kx.0 ky.0 apart in
    let one : r ≡ s = ap (λ e. live_of e r) first.0 in
    let taken : slots_of_row r ≡ slots_of_row s = ap slots_of_row one in
    let rest = same_rows sizes base (p ++ r ∷ []) (q ++ s ∷ []) xs ys x y kx.2 ky.2
    (omega (arith, count, taken)) first.1 in
    ((λ i. one i ∷ rest.0 i), rest.1)

-- ---- entries

pub some_slots : (e : BareEntry) → 1 ≤ slots_of e
some_slots (entry.Live r) = (slots-row r).0
some_slots (entry.Unload e) = omega arith
some_slots (entry.Move e) = omega arith
some_slots (entry.UnloadAll e) = omega arith

same_entries : (sizes : Sizes) (n m : ℕ) (p q : List BareRow) (xs ys : List BareEntry)
    (x y : List ℕ)
    → EntriesKeep sizes p n xs → EntriesKeep sizes q m ys
    → slots_of_entries xs ≡ slots_of_entries ys
    → flat_map entry_slots xs ++ x ≡ flat_map entry_slots ys ++ y → (xs ≡ ys) × (x ≡ y)
same_entries sizes n m p q [] [] x y kx ky count h = (refl, h)
same_entries sizes n m p q [] (d ∷ ys) x y kx ky count h =
    absurd (omega (arith, count, some_slots d))
same_entries sizes n m p q (e ∷ xs) [] x y kx ky count h =
    absurd (omega (arith, count, some_slots e))
same_entries sizes n m p q (e ∷ xs) (d ∷ ys) x y kx ky count h =
    let apart : entry_slots e ++ (flat_map entry_slots xs ++ x) ≡ entry_slots d
    ++ (flat_map entry_slots ys ++ y) =
    sym (append_assoc (entry_slots e) (flat_map entry_slots xs) x) ∙ h
    ∙ append_assoc (entry_slots d) (flat_map entry_slots ys) y in
    let first = first_entry e d (flat_map entry_slots xs ++ x) (flat_map entry_slots ys ++ y)
    kx.0 ky.0 apart in
    let taken : slots_of e ≡ slots_of d = ap slots_of first.0 in
    let rest = same_entries sizes (n + 1) (m + 1) (rows_after p e) (rows_after q d) xs ys x y kx.2
    ky.2 (omega (arith, count, taken)) first.1 in
    ((λ i. first.0 i ∷ rest.0 i), rest.1)

-- ---- groups

head_fits : (sizes : Sizes) (rows : List BareRow) (n : ℕ) (g : List BareEntry)
    → GroupKeeps sizes rows n g
    → FitsGroupHead (record { count = slots_of_entries g; first = n + 1 })
head_fits sizes rows n g k = record {
  count = omega (arith, k.few);
  first = omega (arith, k.numbers);
}

-- two groups that begin alike are the same
same_group : (sizes : Sizes) (rows : List BareRow) (n : ℕ) (g h : List BareEntry) (x y : List ℕ)
    → GroupKeeps sizes rows n g → GroupKeeps sizes rows n h
    → group_slots n g ++ x ≡ group_slots n h ++ y → (g ≡ h) × (x ≡ y)
same_group sizes rows n g h x y kg kh e =
    let heads = same_group_head (record { count = slots_of_entries g; first = n + 1 })
    (record { count = slots_of_entries h; first = n + 1 }) (head_fits sizes rows n g kg)
    (head_fits sizes rows n h kh) (ap (take 64) e) in
    same_entries sizes n n rows rows g h x y kg.entries kh.entries (ap (λ v. v.count) heads)
    (ap (drop 64) e)

same_groups : (sizes : Sizes) (rows : List BareRow) (n : ℕ) (gs hs : List (List BareEntry))
    (x y : List ℕ) → GroupsKeep sizes rows n gs → GroupsKeep sizes rows n hs → IsEnd x → IsEnd y
    → groups_slots n gs ++ x ≡ groups_slots n hs ++ y → gs ≡ hs
same_groups sizes rows n [] [] x y kg kh ex ey e = refl
same_groups sizes rows n [] (h ∷ hs) x y kg kh ex ey e = absurd (subst IsEnd e ex refl)
same_groups sizes rows n (g ∷ gs) [] x y kg kh ex ey e = absurd (subst IsEnd (sym e) ey refl)
same_groups sizes rows n (g ∷ gs) (h ∷ hs) x y kg kh ex ey e =
    let apart : group_slots n g ++ (groups_slots (n + length g) gs ++ x)
    ≡ group_slots n h ++ (groups_slots (n + length h) hs ++ y) =
    sym (append_assoc (group_slots n g) (groups_slots (n + length g) gs) x) ∙ e
    ∙ append_assoc (group_slots n h) (groups_slots (n + length h) hs) y in
    let first = same_group sizes rows n g h (groups_slots (n + length g) gs ++ x)
    (groups_slots (n + length h) hs ++ y) kg.0 kh.0 apart in
    let others : GroupsKeep sizes (rows_after_all rows g) (n + length g) hs =
    subst (λ (k : List BareEntry). GroupsKeep sizes (rows_after_all rows k) (n + length k) hs)
    (sym first.0) kh.1 in
    let rest : groups_slots (n + length g) gs ++ x ≡ groups_slots (n + length g) hs ++ y =
    first.1 ∙ (λ i. groups_slots (n + length (sym first.0 i)) hs ++ y) in
    let same = same_groups sizes (rows_after_all rows g) (n + length g) gs hs x y kg.1 others ex ey
    rest in
    (λ i. first.0 i ∷ same i)

-- ---- halves

same_heads : (sizes : Sizes) (h g : HalfHead) (x y : List ℕ) → IsGoodHead sizes h
    → IsGoodHead sizes g
    → half_head_slot h ++ x ≡ half_head_slot g ++ y → (h ≡ g) × (x ≡ y)
same_heads sizes h g x y kh kg e =
    (same_half_head h g kh.fits kg.fits (ap (take 64) e), ap (drop 64) e)

-- halves with the same bytes are the same, apart from the bytes after their end
pub record AreOne (h g : OpenHalf) : Type 0 where
  pub head : h.head ≡ g.head
  pub live : h.live ≡ g.live
  pub groups : h.groups ≡ g.groups

pub one_half : (sizes : Sizes) (h g : OpenHalf) → IsGoodHalf sizes h → IsGoodHalf sizes g
    → half_bytes h ≡ half_bytes g → AreOne h g
one_half sizes h g kh kg e =
    let head = same_heads sizes h.head g.head
    (flat_map row_slots h.live ++ (groups_slots h.head.base h.groups ++ h.behind))
    (flat_map row_slots g.live ++ (groups_slots g.head.base g.groups ++ g.behind)) kh.head kg.head
    e in
    let base : h.head.base ≡ g.head.base = ap (λ v. v.base) head.0 in
    let live_g : LiveRowsKeep sizes h.head.base [] g.live =
    subst (λ (b : ℕ). LiveRowsKeep sizes b [] g.live) (sym base) kg.live in
    let count : slots_of_rows h.live ≡ slots_of_rows g.live =
    kh.count ∙ ap (λ v. v.live) head.0 ∙ sym kg.count in
    let live = same_rows sizes h.head.base [] [] h.live g.live
    (groups_slots h.head.base h.groups ++ h.behind) (groups_slots g.head.base g.groups ++ g.behind)
    kh.live live_g count head.1 in
    let groups_g : GroupsKeep sizes h.live h.head.base g.groups =
    subst (λ (b : ℕ). GroupsKeep sizes h.live b g.groups) (sym base)
    (subst (λ (l : List BareRow). GroupsKeep sizes l g.head.base g.groups) (sym live.0)
    kg.groups) in
    let from_here : groups_slots h.head.base h.groups ++ h.behind
    ≡ groups_slots h.head.base g.groups ++ g.behind =
    live.1 ∙ (λ i. groups_slots (sym base i) g.groups ++ g.behind) in
    record {
      head = head.0;
      live = live.0;
      groups = same_groups sizes h.live h.head.base h.groups g.groups h.behind g.behind kh.groups
          groups_g kh.end kg.end from_here;
    }

same_half : (sizes : Sizes) (h g : OpenHalf) → IsGoodHalf sizes h → IsGoodHalf sizes g
    → half_bytes h ≡ half_bytes g
    → (rows_of h ≡ rows_of g) × (number_at_end h ≡ number_at_end g)
same_half sizes h g kh kg e =
    let one = one_half sizes h g kh kg e in (
      (λ i. rows_after_all (one.live i) (flat_map (λ group. group) (one.groups i))),
      (λ i. (one.head i).base + length (flat_map (λ group. group) (one.groups i))),
    )

-- if one half counts, the other doesn't
newer : (sizes : Sizes) (a b : OpenHalf) (bytes : List ℕ) → IsGoodHalf sizes b
    → bytes ≡ half_bytes b
    → IsOlder sizes a.head.epoch bytes → b.head.epoch < a.head.epoch
newer sizes a b bytes kb is (inl shut) = absurd (subst IsEnd is shut refl)
newer sizes a b bytes kb is (inr old) =
    let one = same_heads sizes old.0 b.head old.1
    (flat_map row_slots b.live ++ (groups_slots b.head.base b.groups ++ b.behind)) old.3 kb.head
    (sym old.2 ∙ is) in
    subst (λ (v : HalfHead). v.epoch < a.head.epoch) one.0 old.4

both : (sizes : Sizes) (x y : List ℕ) (rows more : List BareRow) (n m : ℕ)
    → Counts sizes x y rows n → Counts sizes x y more m → (rows ≡ more) × (n ≡ m)
both sizes x y rows more n m a b =
    let one = same_half sizes a.half b.half a.good b.good (sym a.bytes ∙ b.bytes) in
    (a.rows_are ∙ one.0 ∙ sym b.rows_are, a.number_is ∙ one.1 ∙ sym b.number_is)

never : (sizes : Sizes) (x y : List ℕ) (rows more : List BareRow) (n m : ℕ)
    → Counts sizes x y rows n → Counts sizes y x more m → ⊥
never sizes x y rows more n m a b =
    let first = newer sizes a.half b.half y b.good b.bytes a.older in
    let second = newer sizes b.half a.half x a.good a.bytes b.older in
    omega (arith, first, second)

counts_one : (sizes : Sizes) (x y : List ℕ) (rows more : List BareRow) (n m : ℕ)
    → Counts sizes x y rows n ⊎ Counts sizes y x rows n
    → Counts sizes x y more m ⊎ Counts sizes y x more m → (rows ≡ more) × (n ≡ m)
counts_one sizes x y rows more n m (inl a) (inl b) = both sizes x y rows more n m a b
counts_one sizes x y rows more n m (inr a) (inr b) = both sizes y x rows more n m a b
counts_one sizes x y rows more n m (inl a) (inr b) = absurd (never sizes x y rows more n m a b)
counts_one sizes x y rows more n m (inr a) (inl b) = absurd (never sizes y x rows more n m a b)

-- ---- records

same_words : (sizes : Sizes) (roots : List ℕ) (xs ys : List (Row (List ℕ)))
    → AllByRecursion (HoldsRow sizes roots) xs → AllByRecursion (HoldsRow sizes roots) ys
    → bare xs ≡ bare ys → xs ≡ ys
same_words sizes roots [] [] hx hy e = refl
same_words sizes roots [] (s ∷ ys) hx hy e = absurd (cc)
same_words sizes roots (r ∷ xs) [] hx hy e = absurd (cc)
same_words sizes roots (Loader r ∷ xs) (Loader s ∷ ys) hx hy e =
    let one : r ≡ s = cc in
    let rest : xs ≡ ys = same_words sizes roots xs ys hx.1 hy.1 cc in
    (λ i. Loader (one i) ∷ rest i)
same_words sizes roots (Class r v ∷ xs) (Class s w ∷ ys) hx hy e =
    let one : r ≡ s = cc in
    let rest : xs ≡ ys = same_words sizes roots xs ys hx.1 hy.1 cc in
    let there : HoldsRecord sizes roots r w =
    subst (λ (c : ClassRow). HoldsRecord sizes roots c w) (sym one) hy.0 in
    let held : v ≡ w = sym hx.0.held ∙ there.held in
    (λ i. Class (one i) (held i) ∷ rest i)
same_words sizes roots (Loader r ∷ xs) (Class s w ∷ ys) hx hy e = absurd (cc)
same_words sizes roots (Class r v ∷ xs) (Loader s ∷ ys) hx hy e = absurd (cc)

-- ---- the contents

same_region : (sizes : Sizes) (r q : Region) → length r.half_0 ≡ length q.half_0
    → length r.half_1 ≡ length q.half_1 → region_bytes sizes r ≡ region_bytes sizes q
    → (r.half_0 ≡ q.half_0) × ((r.half_1 ≡ q.half_1) × (r.roots ≡ q.roots))
same_region sizes r q count_0 count_1 e =
    let behind = append_cancel_left (superblock_bytes sizes) (r.half_0 ++ (r.half_1 ++ r.roots))
    (q.half_0 ++ (q.half_1 ++ q.roots)) e in
    let first = same_parts r.half_0 q.half_0 (r.half_1 ++ r.roots) (q.half_1 ++ q.roots) count_0
    behind in
    (first.0, same_parts r.half_1 q.half_1 r.roots q.roots count_1 first.1)

same_frames : (sizes : Sizes) (contents : List ℕ) (rows more : List (Row (List ℕ))) (n m : ℕ)
    → Frames sizes contents rows n → Frames sizes contents more m → (rows ≡ more) × (n ≡ m)
same_frames sizes contents rows more n m a b =
    let region = same_region sizes a.region b.region (a.half_0 ∙ sym b.half_0)
    (a.half_1 ∙ sym b.half_1) (sym a.bytes ∙ b.bytes) in
    let counts_b : Counts sizes a.region.half_0 a.region.half_1 (bare more) m
    ⊎ Counts sizes a.region.half_1 a.region.half_0 (bare more) m =
    subst (λ (x : List ℕ). Counts sizes x a.region.half_1 (bare more) m
    ⊎ Counts sizes a.region.half_1 x (bare more) m) (sym region.0)
    (subst (λ (y : List ℕ). Counts sizes b.region.half_0 y (bare more) m
    ⊎ Counts sizes y b.region.half_0 (bare more) m) (sym region.1.0) b.counts) in
    let counted = counts_one sizes a.region.half_0 a.region.half_1 (bare rows) (bare more) n m
    a.counts counts_b in
    let records_b : AllByRecursion (HoldsRow sizes a.region.roots) more =
    subst (λ (x : List ℕ). AllByRecursion (HoldsRow sizes x) more) (sym region.1.1) b.records in
    (same_words sizes a.region.roots rows more a.records records_b counted.0, counted.1)

pub frames_are_one : FramesAreOne
frames_are_one s t contents rows more n m a b =
    let sizes : s ≡ t = same_sizes s t (a.region.half_0 ++ (a.region.half_1 ++ a.region.roots))
    (b.region.half_0 ++ (b.region.half_1 ++ b.region.roots)) a.lawful b.lawful
    (sym a.bytes ∙ b.bytes) in
    let there : Frames s contents more m =
    subst (λ (z : Sizes). Frames z contents more m) (sym sizes) b in
    let one = same_frames s contents rows more n m a there in
    (sizes, (one.0, one.1))
