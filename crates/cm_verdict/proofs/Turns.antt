-- One turn: where the walk stops, and how it continues, in both directions.
-- For `HalfWalk::walk_all`.
use Rattle.std.proofs.Common.{◌≡◌, ◌≢◌, ℕ, ◌+◌, ◌*◌, ◌-◌, ◌≤◌, ◌^◌, Bool, true, false, cond}
use Rattle.std.proofs.Common.{List, ◌++◌, take, drop, get_or}
use Rattle.std.proofs.Common.{◌∷◌, [], Option, Some, None, refl, sym, ap, ◌∙◌, arith}
use Rattle.std.specs.Prelude.{◌&&◌, nat_le, ◌==◌}
use Rattle.std.proofs.lemmas.Bool.{and_parts, and_from, leb-true, le-leb, eqb-true, eqb-false}
use Rattle.std.proofs.lemmas.Bool.{eq-eqb, ne_eqb}
use Rattle.std.proofs.lemmas.List.{get_or-take}
use Rattle.cm_pool.specs.Geometry.{Sizes}
use Rattle.cm_layout.specs.declared.heads.GroupHead.{GroupHead}
use Rattle.cm_layout.specs.declared.entry.Entry.TheVariants as entry
use Rattle.cm_layout.specs.declared.entry_rule.EntryRule.{EntryRule}
use Rattle.cm_layout.specs.Slots.{group_head_slot, row_slots, entry_slots, FitsGroupHead, FitsRow}
use Rattle.cm_layout.specs.Slots.{FitsEntry, RowOfVersion, EntryOfVersion}
use Rattle.cm_layout.specs.Rows.{rows_after, slots_of_row, slots_of}
use Rattle.cm_layout.specs.Rules.{broken_rule, broken_live_rule}
use Rattle.cm_layout.specs.Frames.{BareRow, BareEntry}
use Rattle.cm_verdict.specs.declared.fault.Damage.TheVariants as damage
use Rattle.cm_verdict.specs.Decoding.{is_open, front, group_head_in, row_in, entry_in}
use Rattle.cm_verdict.specs.Decoding.{numbers_taken}
use Rattle.cm_verdict.specs.Walk.{Walked, Stop, Go, Bad, placed_row, placed_entry, behind_slots}
use Rattle.cm_verdict.specs.Walk.{go_unless, live_turn, entry_turn, is_good_group, begun}
use Rattle.cm_verdict.specs.Walk.{group_turn, gate_turn, turn}
use Rattle.cm_verdict.proofs.Decoded.{group_head_spelled, group_head_again, row_spelled, row_again}
use Rattle.cm_verdict.proofs.Decoded.{entry_spelled, entry_again, BeginsWith}

-- ---- a group's head

pub record IsGoodGroup (sizes : Sizes) (w : Walked) (h : GroupHead)
    (entries : List ℕ) : Type 0 where
  pub some : 1 ≤ h.count
  pub few : h.count ≤ 64
  pub room : w.slot + h.count ≤ sizes.slots - 1
  pub first : h.first ≡ w.number + 1
  pub last : w.number + numbers_taken w.version h.count entries ≤ 2 ^ 63

good_group : (sizes : Sizes) (w : Walked) (h : GroupHead) (entries : List ℕ)
    → is_good_group sizes w h entries ≡ true → IsGoodGroup sizes w h entries
good_group sizes w h entries e =
    let numbers = numbers_taken w.version h.count entries in
    let a = and_parts (nat_le 1 h.count && nat_le h.count 64
    && nat_le (w.slot + h.count) (sizes.slots - 1) && (h.first == w.number + 1))
    (nat_le (w.number + numbers) (2 ^ 63)) e in
    let b = and_parts (nat_le 1 h.count && nat_le h.count 64
    && nat_le (w.slot + h.count) (sizes.slots - 1)) (h.first == w.number + 1) a.0 in
    let c = and_parts (nat_le 1 h.count && nat_le h.count 64)
    (nat_le (w.slot + h.count) (sizes.slots - 1)) b.0 in
    let d = and_parts (nat_le 1 h.count) (nat_le h.count 64) c.0 in
    record {
      some = leb-true 1 h.count d.0;
      few = leb-true h.count 64 d.1;
      room = leb-true (w.slot + h.count) (sizes.slots - 1) c.1;
      first = eqb-true h.first (w.number + 1) b.1;
      last = leb-true (w.number + numbers) (2 ^ 63) a.1;
    }

is_good : (sizes : Sizes) (w : Walked) (h : GroupHead) (entries : List ℕ)
    → IsGoodGroup sizes w h entries → is_good_group sizes w h entries ≡ true
is_good sizes w h entries g =
    and_from _ _ (and_from _ _ (and_from _ _ (and_from _ _ (le-leb 1 h.count g.some)
    (le-leb h.count 64 g.few)) (le-leb (w.slot + h.count) (sizes.slots - 1) g.room))
    (eq-eqb h.first (w.number + 1) g.first))
    (le-leb (w.number + numbers_taken w.version h.count entries) (2 ^ 63) g.last)

-- ---- what the walk has seen when it continues

-- the slots of the live rows, or of the group, that are still to come
abbrev pub left_of : Walked → List ℕ → List ℕ
left_of w slots = take (64 * w.left) slots

abbrev pub after_row : ℕ → Walked → BareRow → Walked
after_row first w row =
    behind_slots w (slots_of_row row) (w.rows ++ placed_row (first + w.slot) row ∷ []) w.number

abbrev pub after_entry : ℕ → Walked → BareEntry → Walked
after_entry first w e =
    behind_slots w (slots_of e) (rows_after w.rows (placed_entry (first + w.slot) e)) (w.number + 1)

-- a group's head, a live row, or an entry of a group
pub data Goes (sizes : Sizes) (first : ℕ) (w : Walked) (slots : List ℕ)
    (next : Walked) : Type 0 where
  Group : (h : GroupHead) → w.left ≡ 0 → take 64 slots ≡ group_head_slot h
      → IsGoodGroup sizes w h (drop 64 slots) → begun w h ≡ next → Goes sizes first w slots next
  LiveRow : (row : BareRow) → 1 ≤ w.left → w.live ≡ true
      → BeginsWith w.version (left_of w slots) (entry.Live row)
      → broken_live_rule sizes w.number w.rows (placed_row (first + w.slot) row) ≡ None
      → after_row first w row ≡ next → Goes sizes first w slots next
  Entry : (e : BareEntry) → 1 ≤ w.left → w.live ≡ false
      → BeginsWith w.version (left_of w slots) e
      → broken_rule sizes w.rows (w.number + 1) (placed_entry (first + w.slot) e) ≡ None
      → after_entry first w e ≡ next → Goes sizes first w slots next

some_left : (n : ℕ) → (n == 0) ≡ false → 1 ≤ n
some_left n e = let apart : n ≢ 0 = eqb-false n 0 e in omega arith

went : (rule : Option EntryRule) (a b : Walked) → go_unless rule a ≡ Go b
    → (rule ≡ None) × (a ≡ b)
went None a b e = (refl, cc)
went (Some r) a b e = absurd (cc)

pub what_goes : (sizes : Sizes) (first : ℕ) (w : Walked) (slots : List ℕ) (next : Walked)
    → turn sizes first w slots ≡ Go next → Goes sizes first w slots next
unfolding turn
what_goes sizes first w slots next = by_left (w.left == 0) refl w.live refl
  where
    entries : List ℕ
    entries = drop 64 slots

    of_head : (h : GroupHead) → w.left ≡ 0 → group_head_in (front slots) ≡ Some h → (t : Bool)
        → is_good_group sizes w h entries ≡ t
        → cond t (Go (begun w h)) (Bad damage.Head) ≡ Go next → Goes sizes first w slots next
    of_head h none there true good e =
        Group h none (group_head_spelled (front slots) h there).0
        (good_group sizes w h entries good) cc
    of_head h none there false good e = absurd (cc)

    of_group : (o : Option GroupHead) → w.left ≡ 0 → group_head_in (front slots) ≡ o
        → group_turn sizes w entries o ≡ Go next → Goes sizes first w slots next
    of_group None none there e = absurd (cc)
    of_group (Some h) none there e =
        of_head h none there (is_good_group sizes w h entries) refl e

    of_gate : (t : Bool) → w.left ≡ 0 → is_open slots ≡ t
        → cond t (group_turn sizes w entries (group_head_in (front slots))) Stop ≡ Go next
        → Goes sizes first w slots next
    of_gate true none gate e = of_group (group_head_in (front slots)) none refl e
    of_gate false none gate e = absurd (cc)

    of_row : (o : Option BareRow) → 1 ≤ w.left → w.live ≡ true
        → row_in w.version (left_of w slots) ≡ o
        → live_turn sizes first w o ≡ Go next → Goes sizes first w slots next
    of_row None some live there e = absurd (cc)
    of_row (Some row) some live there e =
        let s = row_spelled w.version (left_of w slots) row there in
        let g = went (broken_live_rule sizes w.number w.rows (placed_row (first + w.slot) row))
        (after_row first w row) next e in
        LiveRow row some live s g.0 g.1

    of_entry : (o : Option BareEntry) → 1 ≤ w.left → w.live ≡ false
        → entry_in w.version (left_of w slots) ≡ o
        → entry_turn sizes first w o ≡ Go next → Goes sizes first w slots next
    of_entry None some live there e = absurd (cc)
    of_entry (Some d) some live there e =
        let s = entry_spelled w.version (left_of w slots) d there in
        let g = went (broken_rule sizes w.rows (w.number + 1) (placed_entry (first + w.slot) d))
        (after_entry first w d) next e in
        Entry d some live s g.0 g.1

    by_left : (t : Bool) → (w.left == 0) ≡ t → (l : Bool) → w.live ≡ l
        → cond t (gate_turn sizes w slots)
        (cond l (live_turn sizes first w (row_in w.version (left_of w slots)))
        (entry_turn sizes first w (entry_in w.version (left_of w slots)))) ≡ Go next
        → Goes sizes first w slots next
    by_left true is l live e = of_gate (is_open slots) (eqb-true w.left 0 is) refl e
    by_left false is true live e =
        of_row (row_in w.version (left_of w slots)) (some_left w.left is) live refl e
    by_left false is false live e =
        of_entry (entry_in w.version (left_of w slots)) (some_left w.left is) live refl e

-- ---- when it stops

pub record Stops (w : Walked) (slots : List ℕ) : Type 0 where
  pub none : w.left ≡ 0
  pub shut : is_open slots ≡ false

pub what_stops : (sizes : Sizes) (first : ℕ) (w : Walked) (slots : List ℕ)
    → turn sizes first w slots ≡ Stop → Stops w slots
unfolding turn
what_stops sizes first w slots = by_left (w.left == 0) refl w.live
  where
    entries : List ℕ
    entries = drop 64 slots

    no_stop : (rule : Option EntryRule) (a : Walked) → go_unless rule a ≡ Stop → ⊥
    no_stop None a e = cc
    no_stop (Some r) a e = cc

    of_head : (h : GroupHead) (t : Bool) → cond t (Go (begun w h)) (Bad damage.Head) ≡ Stop → ⊥
    of_head h true e = cc
    of_head h false e = cc

    of_group : (o : Option GroupHead) → group_turn sizes w entries o ≡ Stop → ⊥
    of_group None e = cc
    of_group (Some h) e = of_head h (is_good_group sizes w h entries) e

    of_gate : (t : Bool) → is_open slots ≡ t
        → cond t (group_turn sizes w entries (group_head_in (front slots))) Stop ≡ Stop
        → is_open slots ≡ false
    of_gate true gate e = absurd (of_group (group_head_in (front slots)) e)
    of_gate false gate e = gate

    of_row : (o : Option BareRow) → live_turn sizes first w o ≡ Stop → ⊥
    of_row None e = cc
    of_row (Some row) e =
        no_stop (broken_live_rule sizes w.number w.rows (placed_row (first + w.slot) row))
        (after_row first w row) e

    of_entry : (o : Option BareEntry) → entry_turn sizes first w o ≡ Stop → ⊥
    of_entry None e = cc
    of_entry (Some d) e =
        no_stop (broken_rule sizes w.rows (w.number + 1) (placed_entry (first + w.slot) d))
        (after_entry first w d) e

    by_left : (t : Bool) → (w.left == 0) ≡ t → (l : Bool)
        → cond t (gate_turn sizes w slots)
        (cond l (live_turn sizes first w (row_in w.version (left_of w slots)))
        (entry_turn sizes first w (entry_in w.version (left_of w slots)))) ≡ Stop
        → Stops w slots
    by_left true is l e =
        record { none = eqb-true w.left 0 is; shut = of_gate (is_open slots) refl e }
    by_left false is true e = absurd (of_row (row_in w.version (left_of w slots)) e)
    by_left false is false e = absurd (of_entry (entry_in w.version (left_of w slots)) e)

-- ---- and the reverse

pub does_stop : (sizes : Sizes) (first : ℕ) (w : Walked) (slots : List ℕ) → Stops w slots
    → turn sizes first w slots ≡ Stop
unfolding turn
does_stop sizes first w slots s = rw (eq-eqb w.left 0 s.none) (rw s.shut refl)

pub group_goes : (sizes : Sizes) (first : ℕ) (w : Walked) (slots : List ℕ) (h : GroupHead)
    → w.left ≡ 0 → take 64 slots ≡ group_head_slot h → FitsGroupHead h
    → IsGoodGroup sizes w h (drop 64 slots)
    → turn sizes first w slots ≡ Go (begun w h)
unfolding turn
group_goes sizes first w slots h none is fits good =
    let there : group_head_in (front slots) ≡ Some h =
    ap group_head_in is ∙ group_head_again h fits in
    let gate : is_open slots ≡ true =
    ap (λ (b : ℕ). b == 165)
    (sym (get_or-take 64 slots 0 0 (omega arith)) ∙ ap (λ (l : List ℕ). get_or l 0 0) is) in
    rw (eq-eqb w.left 0 none)
    (rw gate (rw there (rw (is_good sizes w h (drop 64 slots) good) refl)))

pub row_goes : (sizes : Sizes) (first : ℕ) (w : Walked) (slots : List ℕ) (row : BareRow)
    (behind : List ℕ) → 1 ≤ w.left → w.live ≡ true → left_of w slots ≡ row_slots row ++ behind
    → FitsRow row → RowOfVersion w.version row
    → broken_live_rule sizes w.number w.rows (placed_row (first + w.slot) row) ≡ None
    → turn sizes first w slots ≡ Go (after_row first w row)
unfolding turn
row_goes sizes first w slots row behind some live is fits of_version keeps =
    let there : row_in w.version (left_of w slots) ≡ Some row =
    ap (row_in w.version) is ∙ row_again w.version row behind fits of_version in
    rw (ne_eqb w.left 0 (omega arith)) (rw live (rw there (rw keeps refl)))

pub entry_goes : (sizes : Sizes) (first : ℕ) (w : Walked) (slots : List ℕ) (e : BareEntry)
    (behind : List ℕ) → 1 ≤ w.left → w.live ≡ false → left_of w slots ≡ entry_slots e ++ behind
    → FitsEntry e → EntryOfVersion w.version e
    → broken_rule sizes w.rows (w.number + 1) (placed_entry (first + w.slot) e) ≡ None
    → turn sizes first w slots ≡ Go (after_entry first w e)
unfolding turn
entry_goes sizes first w slots e behind some live is fits of_version keeps =
    let there : entry_in w.version (left_of w slots) ≡ Some e =
    ap (entry_in w.version) is ∙ entry_again w.version e behind fits of_version in
    rw (ne_eqb w.left 0 (omega arith)) (rw live (rw there (rw keeps refl)))
