use Rattle.std.proofs.Common.{◌≡◌, ℕ, ◌++◌, ◌∙◌, List, length, take, drop, get_or, Some, ap, arith}
use Rattle.std.proofs.lemmas.List.{take_rest}
use Rattle.byteorder.specs.Endian.{little_number}
use Rattle.byteorder.specs.Numbers.{little_number-reads_back}
use Rattle.cm_layout.specs.Slots.{loader_slots}
use Rattle.cm_layout.proofs.LoaderSlots.{room_in, name-in-room}
use Rattle.cm_layout.proofs.loader_row.LoaderRow.at_its_places.Goals as goal

pub returns-clause-only : goal.returns-clause-only
returns-clause-only c row behind fits short e =
    let slots = c.args.slots.now in
    let number : c.read_u64.result ≡ row.number =
    c.read_u64.ensures
    ∙ (ap (little_number 8) (take_rest slots 8 ∙ ap (drop 8) e)
    ∙ little_number-reads_back 8 row.number (drop 16 (loader_slots row ++ behind)) fits.number) in
    let len : c.from-len.result ≡ length row.name =
    c.from-len.ensures ∙ ap (λ (t : List ℕ). get_or t 2 0) e in
    let name : c.in_ok-new.field-0 ≡ row.name =
    c.in_ok-new.ensures.value
    ∙ ((λ i. take (len i) ((c.name_room_in-name.ensures ∙ ap room_in e) i))
    ∙ name-in-room row behind (omega (arith, fits.name))) in
    λ i. Some (record { number = number i; name = name i })
