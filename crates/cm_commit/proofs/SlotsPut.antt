-- The bytes of a group's slots, one part after another.
-- For `put_slots`.
use Rattle.std.proofs.Common.{◌≡◌, ℕ, ◌+◌, ◌<◌, ◌≤◌, Bool, cond, List, [], ◌++◌}
use Rattle.std.proofs.Common.{sym, ap, ◌∙◌, append-nil}
use Rattle.std.specs.List.{flat_map}
use Rattle.std.proofs.lemmas.Bool.{lt-ltb, le-ltb}
use Rattle.cm_pool.specs.Geometry.{Sizes}
use Rattle.cm_layout.specs.Offsets.{slot_size}
use Rattle.cm_layout.specs.Slots.{group_head_rest, entry_slots}
use Rattle.cm_layout.specs.Rows.{slots_of_entries}
use Rattle.cm_layout.specs.Frames.{BareEntry}
use Rattle.cm_layout.specs.Zeros.{blank}
use Rattle.cm_commit.specs.GroupPlans.{slots_behind_gate, shut_slot}

pub front_put : (n count : ℕ) (es : List BareEntry) (head all : List ℕ)
    → count ≡ slots_of_entries es
    → head ≡ group_head_rest (record { count = count; first = n + 1 })
    → all ≡ head ++ flat_map entry_slots es → all ≡ slots_behind_gate n es
front_put n count es head all count_is head_is all_is =
    all_is
    ∙ ap (λ (l : List ℕ). l ++ flat_map entry_slots es)
    (head_is
    ∙ ap (λ (k : ℕ). group_head_rest (record { count = k; first = n + 1 })) count_is)

pub with_shut : (sizes : Sizes) (slot : ℕ) (front before all : List ℕ) → slot < sizes.slots
    → before ≡ front → all ≡ before ++ blank slot_size → all ≡ front ++ shut_slot sizes slot
with_shut sizes slot front before all lt before_is all_is =
    all_is
    ∙ (ap (λ (l : List ℕ). l ++ blank slot_size) before_is
    ∙ ap (λ (t : Bool). front ++ cond t (blank slot_size) []) (sym (lt-ltb slot sizes.slots lt)))

pub without_shut : (sizes : Sizes) (slot : ℕ) (front all : List ℕ) → sizes.slots ≤ slot
    → all ≡ front → all ≡ front ++ shut_slot sizes slot
without_shut sizes slot front all le all_is =
    all_is
    ∙ (sym (append-nil front)
    ∙ ap (λ (t : Bool). front ++ cond t (blank slot_size) []) (sym (le-ltb slot sizes.slots le)))
