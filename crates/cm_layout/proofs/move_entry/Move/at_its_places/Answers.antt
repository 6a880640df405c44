use Rattle.std.proofs.Common.{◌≡◌, ◌∙◌, [], refl, drop}
use Rattle.byteorder.specs.Numbers.{little_number-reads_back}
use Rattle.cm_layout.specs.Slots.{move_slot}
use Rattle.cm_layout.proofs.move_entry.Move.at_its_places.Goals as goal

pub returns : goal.returns
returns c entry fits e =
    let loader : c.read_u64.result ≡ entry.loader =
    (rw e at c.read_u64.ensures) ∙ little_number-reads_back 8 entry.loader [] fits.loader in
    let old : c.read_chunk.result ≡ entry.from =
    c.read_chunk.ensures entry.from (drop 28 (move_slot entry)) fits.from (rw e refl) in
    let new : c.read_chunk-2.result ≡ entry.to =
    c.read_chunk-2.ensures entry.to (drop 40 (move_slot entry)) fits.to (rw e refl) in
    λ i. record { loader = loader i; from = old i; to = new i }
