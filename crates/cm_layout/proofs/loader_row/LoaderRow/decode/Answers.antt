use Rattle.std.proofs.Common.{◌≡◌, ◌*◌, ◌++◌, length, take, drop, Some, None, true, false}
use Rattle.std.proofs.Common.{sym, ap, ◌∙◌}
use Rattle.std.proofs.lemmas.Bool.Decides.{Decides-eqb}
use Rattle.std.proofs.lemmas.Slice.Eq.{starts_is}
use Rattle.std.proofs.lemmas.List.{take_at}
use Rattle.cm_layout.specs.Names.{slots_of_name}
use Rattle.cm_layout.specs.Slots.{loader_slots}
use Rattle.cm_layout.proofs.LoaderSlots.{loader_slots-count, within-room}
use Rattle.cm_layout.proofs.loader_row.LoaderRow.decode.Goals as goal

pub returns-in_err-row-clause-only : goal.returns-in_err-row-clause-only
returns-in_err-row-clause-only c row behind fits short e =
    let some : c.at_its_places.result ≡ Some row =
    c.at_its_places.ensures.only row behind fits short e in
    let none : c.at_its_places.result ≡ None = c.in_err-row.was {u = tt} in
    absurd (cc)

pub returns-then-starts_with-clause-found : goal.returns-then-starts_with-clause-found
returns-then-starts_with-clause-found c =
    let slots = c.args.slots.now in
    let r = c.in_ok-row.row in
    let bytes : c.as_bytes.result.now ≡ loader_slots r = c.as_bytes.ensures ∙ c.encode.ensures in
    let begins = (starts_is Decides-eqb slots c.as_bytes.result.now c.starts_with.result
    c.starts_with.ensures.value).0 c.if-starts_with.true in
    let behind = drop (length c.as_bytes.result.now) slots in
    ap (take (64 * slots_of_name r.name)) (begins ∙ (λ i. bytes i ++ behind))
    ∙ take_at (loader_slots r) behind (64 * slots_of_name r.name)
    (loader_slots-count r (within-room c.args.version (length r.name) c.in_ok-row.ensures.version))

pub returns-else-starts_with-clause-only : goal.returns-else-starts_with-clause-only
returns-else-starts_with-clause-only c row behind fits short e =
    let r = c.in_ok-row.row in
    let some : c.at_its_places.result ≡ Some row =
    c.at_its_places.ensures.only row behind fits short e in
    let was : c.at_its_places.result ≡ Some r = c.in_ok-row.was {u = tt} in
    let same : row ≡ r = cc in
    let bytes : c.as_bytes.result.now ≡ loader_slots row =
    c.as_bytes.ensures ∙ (c.encode.ensures ∙ ap loader_slots (sym same)) in
    let begins : c.starts_with.result ≡ true =
    (starts_is Decides-eqb c.args.slots.now c.as_bytes.result.now c.starts_with.result
    c.starts_with.ensures.value).1 behind (e ∙ (λ i. sym bytes i ++ behind)) in
    let isnt : c.starts_with.result ≡ false = c.if-starts_with.false in
    absurd (cc)
