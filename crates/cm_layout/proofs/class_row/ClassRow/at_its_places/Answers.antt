use Rattle.std.proofs.Common.{◌≡◌, ◌∙◌, [], refl, drop}
use Rattle.byteorder.specs.Numbers.{little_number-reads_back}
use Rattle.cm_layout.specs.Slots.{class_slot}
use Rattle.cm_layout.proofs.class_row.ClassRow.at_its_places.Goals as goal

pub returns : goal.returns
returns c row fits e =
    let loader : c.read_u64.result ≡ row.loader =
    (rw e at c.read_u64.ensures) ∙ little_number-reads_back 8 row.loader [] fits.loader in
    let chunk : c.read_chunk.result ≡ row.place.chunk =
    c.read_chunk.ensures row.place.chunk (drop 28 (class_slot row)) fits.chunk (rw e refl) in
    let offset : c.read_u32.result ≡ row.place.offset =
    (rw e at c.read_u32.ensures) ∙ little_number-reads_back 4 row.place.offset [] fits.offset in
    let words : c.read_u32-2.result ≡ row.place.words =
    (rw e at c.read_u32-2.ensures) ∙ little_number-reads_back 4 row.place.words [] fits.words in
    λ i. record {
      loader = loader i;
      place = record { chunk = chunk i; offset = offset i; words = words i };
    }
