use Rattle.std.proofs.Common.{◌≡◌, Bool, true, false, refl, sym, ap, ◌∙◌}
use Rattle.std.specs.Prelude.{◌&&◌, not, is_none}
use Rattle.cm_index.specs.Living.{living}
use Rattle.cm_layout.specs.Names.{is_loader_name}
use Rattle.cm_layout.specs.declared.row.Row.TheVariants.{Loader}
use Rattle.cm_layout.specs.Rows.{number_of}
use Rattle.cm_layout.specs.Rules.{has_room}
use Rattle.cm_rows.proofs.Verdicts.{room-left, no_room-left}
use Rattle.cm_rows.proofs.live_rows.LiveRows.is_new_loader.Goals as goal

with_room : (new room : Bool) → room ≡ true → new ≡ (new && room)
with_room true true is = refl
with_room false true is = refl
with_room new false is = absurd (cc)

without_room : (new room : Bool) → room ≡ false → false ≡ (new && room)
without_room true false is = refl
without_room false false is = refl
without_room new true is = absurd (cc)

pub returns-then-not-is_full : goal.returns-then-not-is_full
returns-then-not-is_full g c =
    let sizes = c.self.inside.geometry in
    let rows = living c.self.inside.rows.indexed.slots.items in
    let row = c.args.row.now in
    let name = is_loader_name row.name && is_none (number_of row.name rows) in
    let new : c.is_new_loader_name.result ≡ name =
    rw c.as_bytes.ensures.value at c.is_new_loader_name.ensures in
    let left = sym (rw (← c.self.view_is) at c.is_full.ensures) ∙ c.if-not-is_full.true in
    rw (← c.self.view_is) (new ∙ with_room name (has_room sizes rows (Loader row))
    (room-left sizes rows row c.slots.result c.slots.ensures left))

pub returns-else-not-is_full : goal.returns-else-not-is_full
returns-else-not-is_full g c =
    let sizes = c.self.inside.geometry in
    let rows = living c.self.inside.rows.indexed.slots.items in
    let row = c.args.row.now in
    let name = is_loader_name row.name && is_none (number_of row.name rows) in
    let full = sym (rw (← c.self.view_is) at c.is_full.ensures) ∙ c.if-not-is_full.false in
    rw (← c.self.view_is) (ap not c.if-not-is_full.false
    ∙ without_room name (has_room sizes rows (Loader row))
    (no_room-left sizes rows row c.slots.result c.slots.ensures full))
