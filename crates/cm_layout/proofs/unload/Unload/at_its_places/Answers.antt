use Rattle.std.proofs.Common.{◌≡◌, ◌∙◌, []}
use Rattle.byteorder.specs.Numbers.{little_number-reads_back}
use Rattle.cm_layout.proofs.unload.Unload.at_its_places.Goals as goal

pub returns : goal.returns
returns c entry fits e =
    let loader : c.read_u64.result ≡ entry.loader =
    (rw e at c.read_u64.ensures) ∙ little_number-reads_back 8 entry.loader [] fits.loader in
    λ i. record { loader = loader i }
