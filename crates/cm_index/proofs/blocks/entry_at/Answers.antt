use Rattle.std.proofs.Common.{get_or, ap, sym, ◌∙◌, []}
use Rattle.std.proofs.lemmas.List.{get_or_read}
use Rattle.cm_index.proofs.Joined.{get-joined}
use Rattle.cm_index.proofs.blocks.entry_at.Goals as goal

pub returns : goal.returns
returns c d =
    let bs = c.args.blocks.now in
    let s = c.args.spot.now in
    let block =
    get_or_read bs s.block c.index-blocks-spot.result c.requires.block
    c.index-blocks-spot.is [] in
    c.at.ensures d ∙ ap (λ b. get_or b s.place d) block
    ∙ sym (get-joined bs s.block s.place d c.requires.block c.requires.place)
