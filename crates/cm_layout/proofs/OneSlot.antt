-- What is read from a slot is what was written there.
-- For `slot_determines_entry`, `slot_determines_head`.
use Rattle.std.proofs.Common.{◌≡◌, ℕ, ◌+◌, ◌<◌, ◌-◌, ◌^◌, List, [], ◌∷◌, ◌++◌, length, take, drop}
use Rattle.std.proofs.Common.{get_or}
use Rattle.std.proofs.Common.{refl, sym, ap, ◌∙◌, arith}
use Rattle.std.specs.List.{flat_map, AllByRecursion}
use Rattle.std.specs.Int.{w16, w32, w64, from_le_bytes, to_le_bytes}
use Rattle.std.proofs.lemmas.Nat.{from_le_bytes-to_le_bytes_2, from_le_bytes-to_le_bytes_4}
use Rattle.std.proofs.lemmas.Nat.{from_le_bytes-to_le_bytes_8}
use Rattle.cm_layout.specs.declared.heads.HalfHead.{HalfHead}
use Rattle.cm_layout.specs.declared.heads.GroupHead.{GroupHead}
use Rattle.cm_pool.specs.declared.chunk.Chunk.{Chunk}
use Rattle.cm_layout.specs.declared.loader_row.LoaderRow.{LoaderRow}
use Rattle.cm_layout.specs.declared.class_row.ClassRow.{ClassRow}
use Rattle.cm_layout.specs.declared.unload.Unload.{Unload}
use Rattle.cm_layout.specs.declared.move_entry.Move.{Move}
use Rattle.cm_layout.specs.declared.unload_all.UnloadAll.{UnloadAll}
use Rattle.cm_layout.specs.declared.row.Row.{Row}
use Rattle.cm_layout.specs.declared.row.Row.TheVariants.{Loader, Class}
use Rattle.cm_layout.specs.declared.entry.Entry.{Entry}
use Rattle.cm_layout.specs.declared.entry.Entry.TheVariants as entry
use Rattle.cm_layout.specs.Slots.{entry_slots, row_slots, loader_slots, class_slot, unload_slot}
use Rattle.cm_layout.specs.Slots.{move_slot, half_head_slot, group_head_slot, FitsEntry, FitsChunk}
use Rattle.cm_layout.specs.Slots.{FitsLoader, FitsClass, FitsUnload, FitsMove, FitsHalfHead}
use Rattle.cm_layout.specs.Slots.{FitsGroupHead, FitsUnloadAll, unload_all_slot}
use Rattle.cm_layout.specs.Zeros.{zeros}
use Rattle.cm_layout.proofs.LoaderSlots.{name_in, name-back}

-- the numbers at a place
abbrev two_at : ℕ → List ℕ → ℕ
two_at at slot = from_le_bytes w16 (take 2 (drop at slot))

abbrev four_at : ℕ → List ℕ → ℕ
four_at at slot = from_le_bytes w32 (take 4 (drop at slot))

abbrev eight_at : ℕ → List ℕ → ℕ
eight_at at slot = from_le_bytes w64 (take 8 (drop at slot))

same_eight : (at a b : ℕ) (xs ys : List ℕ) → a < 2 ^ 64 → b < 2 ^ 64
    → eight_at at xs ≡ from_le_bytes w64 (to_le_bytes w64 a)
    → eight_at at ys ≡ from_le_bytes w64 (to_le_bytes w64 b) → xs ≡ ys → a ≡ b
same_eight at a b xs ys small_a small_b p q e =
    sym (from_le_bytes-to_le_bytes_8 a small_a) ∙ sym p ∙ ap (eight_at at) e ∙ q ∙
    from_le_bytes-to_le_bytes_8 b small_b

pub same_four : (at a b : ℕ) (xs ys : List ℕ) → a < 2 ^ 32 → b < 2 ^ 32
    → four_at at xs ≡ from_le_bytes w32 (to_le_bytes w32 a)
    → four_at at ys ≡ from_le_bytes w32 (to_le_bytes w32 b) → xs ≡ ys → a ≡ b
same_four at a b xs ys small_a small_b p q e =
    sym (from_le_bytes-to_le_bytes_4 a small_a) ∙ sym p ∙ ap (four_at at) e ∙ q ∙
    from_le_bytes-to_le_bytes_4 b small_b

same_two : (at a b : ℕ) (xs ys : List ℕ) → a < 2 ^ 16 → b < 2 ^ 16
    → two_at at xs ≡ from_le_bytes w16 (to_le_bytes w16 a)
    → two_at at ys ≡ from_le_bytes w16 (to_le_bytes w16 b) → xs ≡ ys → a ≡ b
same_two at a b xs ys small_a small_b p q e =
    sym (from_le_bytes-to_le_bytes_2 a small_a) ∙ sym p ∙ ap (two_at at) e ∙ q ∙
    from_le_bytes-to_le_bytes_2 b small_b

-- ---- rows and entries

same_loader : (r s : LoaderRow) → FitsLoader r → FitsLoader s → loader_slots r ≡ loader_slots s
    → r ≡ s
same_loader r s fr fs same =
    let number : r.number ≡ s.number =
    same_eight 8 r.number s.number (loader_slots r) (loader_slots s) fr.number fs.number refl
    refl same in
    let name : r.name ≡ s.name =
    sym (name-back r (omega (arith, fr.name))) ∙ ap name_in same
    ∙ name-back s (omega (arith, fs.name)) in
    (λ i. record { number = number i; name = name i })

-- the chunk at a place of two equal slots
same_chunk : (at : ℕ) (c d : Chunk) (xs ys : List ℕ) → FitsChunk c → FitsChunk d
    → four_at at xs ≡ from_le_bytes w32 (to_le_bytes w32 c.root)
    → four_at at ys ≡ from_le_bytes w32 (to_le_bytes w32 d.root)
    → four_at (at + 4) xs ≡ from_le_bytes w32 (to_le_bytes w32 c.order)
    → four_at (at + 4) ys ≡ from_le_bytes w32 (to_le_bytes w32 d.order)
    → four_at (at + 8) xs ≡ from_le_bytes w32 (to_le_bytes w32 c.at)
    → four_at (at + 8) ys ≡ from_le_bytes w32 (to_le_bytes w32 d.at)
    → xs ≡ ys → c ≡ d
same_chunk at c d xs ys fc fd rc rd oc od ac ad same =
    let root : c.root ≡ d.root = same_four at c.root d.root xs ys fc.root fd.root rc rd same in
    let order : c.order ≡ d.order =
    same_four (at + 4) c.order d.order xs ys fc.order fd.order oc od same in
    let place : c.at ≡ d.at = same_four (at + 8) c.at d.at xs ys fc.at fd.at ac ad same in
    (λ i. record { root = root i; order = order i; at = place i })

same_class : (r s : ClassRow) → FitsClass r → FitsClass s → class_slot r ≡ class_slot s → r ≡ s
same_class r s fr fs same =
    let loader : r.loader ≡ s.loader =
    same_eight 8 r.loader s.loader (class_slot r) (class_slot s) fr.loader fs.loader refl refl
    same in
    let words : r.place.words ≡ s.place.words =
    same_four 4 r.place.words s.place.words (class_slot r) (class_slot s) fr.words fs.words refl
    refl same in
    let chunk : r.place.chunk ≡ s.place.chunk =
    same_chunk 16 r.place.chunk s.place.chunk (class_slot r) (class_slot s) fr.chunk fs.chunk
    refl refl refl refl refl refl same in
    let offset : r.place.offset ≡ s.place.offset =
    same_four 28 r.place.offset s.place.offset (class_slot r) (class_slot s) fr.offset fs.offset
    refl refl same in
    (λ i. record {
      loader =
          loader i;
      place = record { chunk = chunk i; offset = offset i; words = words i };
    })

same_unload : (e d : Unload) → FitsUnload e → FitsUnload d → unload_slot e ≡ unload_slot d → e ≡ d
same_unload e d fe fd same =
    let loader : e.loader ≡ d.loader =
    same_eight 8 e.loader d.loader (unload_slot e) (unload_slot d) fe.loader fd.loader refl refl
    same in
    (λ i. record { loader = loader i })

same_move : (e d : Move) → FitsMove e → FitsMove d → move_slot e ≡ move_slot d → e ≡ d
same_move e d fe fd same =
    let loader : e.loader ≡ d.loader =
    same_eight 8 e.loader d.loader (move_slot e) (move_slot d) fe.loader fd.loader refl refl
    same in
    let from_is : e.from ≡ d.from =
    same_chunk 16 e.from d.from (move_slot e) (move_slot d) fe.from fd.from refl refl refl refl
    refl refl same in
    let to_is : e.to ≡ d.to =
    same_chunk 28 e.to d.to (move_slot e) (move_slot d) fe.to fd.to refl refl refl refl refl
    refl same in
    (λ i. record { loader = loader i; from = from_is i; to = to_is i })

same_numbers : (us vs x y : List ℕ) → AllByRecursion (λ u. u < 2 ^ 64) us
    → AllByRecursion (λ v. v < 2 ^ 64) vs → length us ≡ length vs
    → flat_map (to_le_bytes w64) (us ++ x) ≡ flat_map (to_le_bytes w64) (vs ++ y) → us ≡ vs
same_numbers [] [] x y fu fv count same = refl
same_numbers [] (v ∷ vs) x y fu fv count same = absurd (omega (arith, count))
same_numbers (u ∷ us) [] x y fu fv count same = absurd (omega (arith, count))
same_numbers (u ∷ us) (v ∷ vs) x y fu fv count same =
    let first : u ≡ v =
    same_eight 0 u v (flat_map (to_le_bytes w64) (u ∷ us ++ x))
    (flat_map (to_le_bytes w64) (v ∷ vs ++ y)) fu.0 fv.0 refl refl same in
    let rest : us ≡ vs =
    same_numbers us vs x y fu.1 fv.1 (omega (arith, count)) (ap (drop 8) same) in
    (λ i. first i ∷ rest i)

same_unload_all : (e d : UnloadAll) → FitsUnloadAll e → FitsUnloadAll d
    → unload_all_slot e ≡ unload_all_slot d → e ≡ d
same_unload_all e d fe fd same =
    let count : length e.loaders ≡ length d.loaders = ap (λ t. get_or t 2 0) same in
    let loaders : e.loaders ≡ d.loaders =
    same_numbers e.loaders d.loaders (zeros (7 - length e.loaders)) (zeros (7 - length d.loaders))
    fe.loaders fd.loaders count (ap (drop 8) same) in
    (λ i. record { loaders = loaders i })

-- the byte that says what a slot is
abbrev kind : List ℕ → ℕ
kind slot = get_or slot 1 0

same_row : (r s : Row (Unit {0})) → FitsEntry (entry.Live r) → FitsEntry (entry.Live s)
    → row_slots r ≡ row_slots s → r ≡ s
same_row (Loader r) (Loader s) fr fs same = ap Loader (same_loader r s fr fs same)
same_row (Class r p) (Class s q) fr fs same = (λ i. Class (same_class r s fr fs same i) tt)
same_row (Loader r) (Class s q) fr fs same = absurd (omega (arith, ap kind same))
same_row (Class r p) (Loader s) fr fs same = absurd (omega (arith, ap kind same))

row_kind : (r : Row (Unit {0})) → kind (row_slots r) < 19
row_kind (Loader r) = omega arith
row_kind (Class r p) = omega arith

pub same_entry : (e d : Entry (Unit {0})) → FitsEntry e → FitsEntry d
    → entry_slots e ≡ entry_slots d → e ≡ d
same_entry (entry.Live r) (entry.Live s) fe fd same = ap entry.Live (same_row r s fe fd same)
same_entry (entry.Unload e) (entry.Unload d) fe fd same =
    ap entry.Unload (same_unload e d fe fd same)
same_entry (entry.Move e) (entry.Move d) fe fd same = ap entry.Move (same_move e d fe fd same)
same_entry (entry.UnloadAll e) (entry.UnloadAll d) fe fd same =
    ap entry.UnloadAll (same_unload_all e d fe fd same)
same_entry (entry.Live r) (entry.Unload d) fe fd same =
    absurd (omega (arith, ap kind same, row_kind r))
same_entry (entry.Live r) (entry.Move d) fe fd same =
    absurd (omega (arith, ap kind same, row_kind r))
same_entry (entry.Unload e) (entry.Live s) fe fd same =
    absurd (omega (arith, ap kind same, row_kind s))
same_entry (entry.Move e) (entry.Live s) fe fd same =
    absurd (omega (arith, ap kind same, row_kind s))
same_entry (entry.Unload e) (entry.Move d) fe fd same = absurd (omega (arith, ap kind same))
same_entry (entry.Move e) (entry.Unload d) fe fd same = absurd (omega (arith, ap kind same))
same_entry (entry.Live r) (entry.UnloadAll d) fe fd same =
    absurd (omega (arith, ap kind same, row_kind r))
same_entry (entry.UnloadAll e) (entry.Live s) fe fd same =
    absurd (omega (arith, ap kind same, row_kind s))
same_entry (entry.Unload e) (entry.UnloadAll d) fe fd same =
    absurd (omega (arith, ap kind same))
same_entry (entry.UnloadAll e) (entry.Unload d) fe fd same =
    absurd (omega (arith, ap kind same))
same_entry (entry.Move e) (entry.UnloadAll d) fe fd same = absurd (omega (arith, ap kind same))
same_entry (entry.UnloadAll e) (entry.Move d) fe fd same = absurd (omega (arith, ap kind same))

-- ---- heads

pub same_half_head : (h g : HalfHead) → FitsHalfHead h → FitsHalfHead g
    → half_head_slot h ≡ half_head_slot g → h ≡ g
same_half_head h g fh fg same =
    let version : h.version ≡ g.version =
    same_two 2 h.version g.version (half_head_slot h) (half_head_slot g) fh.version fg.version
    refl refl same in
    let live : h.live ≡ g.live =
    same_four 4 h.live g.live (half_head_slot h) (half_head_slot g) fh.live fg.live refl refl
    same in
    let epoch : h.epoch ≡ g.epoch =
    same_eight 8 h.epoch g.epoch (half_head_slot h) (half_head_slot g) fh.epoch fg.epoch refl
    refl same in
    let base : h.base ≡ g.base =
    same_eight 16 h.base g.base (half_head_slot h) (half_head_slot g) fh.base fg.base refl refl
    same in
    (λ i. record { version = version i; live = live i; epoch = epoch i; base = base i })

pub same_group_head : (h g : GroupHead) → FitsGroupHead h → FitsGroupHead g
    → group_head_slot h ≡ group_head_slot g → h ≡ g
same_group_head h g fh fg same =
    let count : h.count ≡ g.count =
    same_two 2 h.count g.count (group_head_slot h) (group_head_slot g) fh.count fg.count refl
    refl same in
    let first : h.first ≡ g.first =
    same_eight 8 h.first g.first (group_head_slot h) (group_head_slot g) fh.first fg.first refl
    refl same in
    (λ i. record { count = count i; first = first i })
