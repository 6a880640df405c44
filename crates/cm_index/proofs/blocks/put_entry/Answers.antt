use Rattle.std.proofs.Common.{set, ap, ◌∙◌, ℕ, List, []}
use Rattle.std.specs.List.{insert}
use Rattle.std.proofs.lemmas.List.{get_or_read}
use Rattle.cm_index.specs.Blocks.{joined, place_of}
use Rattle.cm_index.specs.declared.index.IndexEntry.{IndexEntry}
use Rattle.cm_index.proofs.Joined.{insert-joined}
use Rattle.cm_index.proofs.blocks.put_entry.Goals as goal

pub returns-clause-items : goal.returns-clause-items
returns-clause-items c =
    let o = c.open-spot.ensures in
    let bs = c.open-spot.new.blocks.items in
    let s = c.open-spot.result in
    let before = place_of c.args.blocks.now.items c.args.spot in
    let block =
    get_or_read bs s.block c.index_mut.result.now o.between.block c.index_mut.ensures.value [] in
    ap (λ b. joined (set bs s.block b))
    (c.insert.ensures ∙ ap (λ (b : List IndexEntry). insert b s.place c.args.entry) block)
    ∙ insert-joined bs s.block s.place c.args.entry o.between.block o.between.place
    ∙ ap (λ (n : ℕ). insert (joined bs) n c.args.entry) o.place
    ∙ ap (λ (l : List IndexEntry). insert l before c.args.entry) o.items
