use Rattle.std.proofs.Common.{◌≡◌, ℕ, List, [], ◌∙◌, subst}
use Rattle.std.proofs.lemmas.List.{get_or_default}
use Rattle.cm_pool.specs.Bits.{IsFirstBit}
use Rattle.cm_pool.specs.Rows.{row}
use Rattle.cm_pool.proofs.Firsts.{first-from}
use Rattle.cm_pool.proofs.rows.first_in.Goals as goal

pub returns : goal.returns
returns c =
    let rows = c.args.rows.now in
    let here : c.index-rows-order.result ≡ row rows c.args.order =
    c.index-rows-order.is ∙ get_or_default rows c.args.order c.index-rows-order.result []
    c.requires in
    first-from rows c.args.order c.in_ok-index.index (subst
    (λ (r : List ℕ). IsFirstBit r c.in_ok-index.index) here c.in_ok-index.ensures.some)
