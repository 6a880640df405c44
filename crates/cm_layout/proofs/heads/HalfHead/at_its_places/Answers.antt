use Rattle.std.proofs.Common.{◌≡◌, ◌∙◌, []}
use Rattle.byteorder.specs.Numbers.{little_number-reads_back}
use Rattle.cm_layout.proofs.heads.HalfHead.at_its_places.Goals as goal

pub returns : goal.returns
returns c h fits e =
    let version : c.read_u16.result ≡ h.version =
    (rw e at c.read_u16.ensures) ∙ little_number-reads_back 2 h.version [] fits.version in
    let live : c.read_u32.result ≡ h.live =
    (rw e at c.read_u32.ensures) ∙ little_number-reads_back 4 h.live [] fits.live in
    let epoch : c.read_u64.result ≡ h.epoch =
    (rw e at c.read_u64.ensures) ∙ little_number-reads_back 8 h.epoch [] fits.epoch in
    let base : c.read_u64-2.result ≡ h.base =
    (rw e at c.read_u64-2.ensures) ∙ little_number-reads_back 8 h.base [] fits.base in
    λ i. record { version = version i; live = live i; epoch = epoch i; base = base i }
