use Rattle.std.proofs.Common.{◌+◌, []}
use Rattle.cm_layout.proofs.Apart.{entry-apart}
use Rattle.cm_layout.proofs.StayLive.{entry-live, live-append}
use Rattle.cm_layout.proofs.laws.live_rows_go_on.Goals as goal

pub returns : goal.returns
returns c = record {
  entries = λ sizes rows n e apart k fits h.
      (entry-apart sizes rows (n + 1) e apart h, entry-live sizes rows n e apart k fits h);
  rows = λ sizes n rows row k fits h. live-append sizes n [] rows row k fits h;
}
