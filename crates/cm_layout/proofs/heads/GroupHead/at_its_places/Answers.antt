use Rattle.std.proofs.Common.{◌≡◌, ◌∙◌, []}
use Rattle.byteorder.specs.Numbers.{little_number-reads_back}
use Rattle.cm_layout.proofs.heads.GroupHead.at_its_places.Goals as goal

pub returns : goal.returns
returns c h fits e =
    let count : c.read_u16.result ≡ h.count =
    (rw e at c.read_u16.ensures) ∙ little_number-reads_back 2 h.count [] fits.count in
    let first : c.read_u64.result ≡ h.first =
    (rw e at c.read_u64.ensures) ∙ little_number-reads_back 8 h.first [] fits.first in
    λ i. record { count = count i; first = first i }
