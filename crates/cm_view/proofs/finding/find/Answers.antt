use Rattle.std.proofs.Common.{ap, sym, ◌∙◌, []}
use Rattle.std.specs.Prelude.{unwrap_or}
use Rattle.cm_view.proofs.finding.find.Goals as goal

pub returns-in-Ok-Some-clause-found : goal.returns-in-Ok-Some-clause-found
returns-in-Ok-Some-clause-found c =
    let row = c.in-Some.row.now in
    let there = c.in-Some.ensures.some in
    let taken = rw c.in-Ok-Some.field-0-is at c.in-Ok-Some.ensures in
    let shown = c.rows_show_names.ensures row taken.class taken.has in
    record {
      row = row;
      among = there.among;
      owner = there.owner;
      taken = taken;
      named = sym (ap (λ o. unwrap_or o []) shown) ∙ there.named;
    }
