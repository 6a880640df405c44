use Rattle.std.proofs.Common.{arith}
use Rattle.cm_view.proofs.Listings.{lies_there, listed_so}
use Rattle.cm_view.proofs.listing.list_class.Goals as goal

pub returns-in-Some-clause-ok : goal.returns-in-Some-clause-ok
returns-in-Some-clause-ok c =
    let sizes = c.args.geometry in
    let r = c.args.row.now in
    let at = c.args.at.now in
    listed_so c.args.bytes.now sizes r at _ c.in-Some.row
    (λ i. record {
      loader = r.loader;
      at = c.record_at.ensures i;
      words = r.place.words;
      slot = at.slot;
      mark = 0;
    })
    c.in-Some.ensures.some
    (lies_there c.args.bytes.now sizes r at c.requires (omega arith))
