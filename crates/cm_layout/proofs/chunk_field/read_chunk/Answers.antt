use Rattle.std.proofs.Common.{◌≡◌, ◌∙◌, []}
use Rattle.byteorder.specs.Numbers.{little_number-reads_back}
use Rattle.std.proofs.lemmas.List.{take_rest}
use Rattle.cm_layout.proofs.chunk_field.read_chunk.Goals as goal

pub returns : goal.returns
returns c chunk rest fits e =
    let root : c.read_u32.result ≡ chunk.root =
    (rw e at c.read_u32.ensures) ∙ little_number-reads_back 4 chunk.root [] fits.root in
    let order : c.read_u32-2.result ≡ chunk.order =
    (rw (take_rest c.args.bytes.now 4, e) at c.read_u32-2.ensures)
    ∙ little_number-reads_back 4 chunk.order [] fits.order in
    let place : c.read_u32-3.result ≡ chunk.at =
    (rw (take_rest c.args.bytes.now 8, e) at c.read_u32-3.ensures)
    ∙ little_number-reads_back 4 chunk.at [] fits.at in
    λ i. record { root = root i; order = order i; at = place i }
