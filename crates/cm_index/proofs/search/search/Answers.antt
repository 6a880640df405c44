use Rattle.std.proofs.Common.{◌≡◌, ◌<◌, ℕ, List, [], length, get_or, sym, ◌∙◌, subst}
use Rattle.std.specs.List.{AllByRecursion}
use Rattle.std.proofs.lemmas.List.{get_or_read}
use Rattle.cm_index.specs.declared.index.IndexEntry.{IndexEntry}
use Rattle.cm_index.specs.Index.{keys_at, Rise, SplitsKeys, IsKeyAt}
use Rattle.cm_index.specs.Sought.{key_sought}
use Rattle.cm_index.specs.Blocks.{joined}
use Rattle.cm_index.proofs.Sweeping.{within-slots}
use Rattle.cm_index.proofs.Searching.{all-in, rises-in, found-in, absent-in}
use Rattle.cm_index.proofs.search.search.Goals as goal

-- what is searched is the block
block : (bs : List (List IndexEntry)) (i : ℕ) (now es : List IndexEntry) → i < length bs
    → now ≡ get_or bs i now → es ≡ now → es ≡ get_or bs i []
block bs i now es lt is e = e ∙ get_or_read bs i now lt is []

pub place_in-requires-clause-within : goal.place_in-requires-clause-within
place_in-requires-clause-within g c =
    let b = c.block_of-block.ensures in
    let bs = c.args.blocks.now in
    let is = block bs c.block_of-block.result c.index-blocks-block.result c.entries.result.now
    b.within c.index-blocks-block.is c.entries.ensures in
    subst (AllByRecursion (λ (e : IndexEntry). e.at < length c.args.slots.now)) (sym is)
    (all-in (λ (e : IndexEntry). e.at < length c.args.slots.now) bs c.block_of-block.result
    (within-slots g.P.Kept.mark g.P.Kept.name c.args.slots.now (joined bs) c.requires.index.each)
    b.within)

pub place_in-requires-clause-rises : goal.place_in-requires-clause-rises
place_in-requires-clause-rises g c =
    let b = c.block_of-block.ensures in
    let bs = c.args.blocks.now in
    let is = block bs c.block_of-block.result c.index-blocks-block.result c.entries.result.now
    b.within c.index-blocks-block.is c.entries.ensures in
    subst (λ (es : List IndexEntry). Rise (keys_at g.P.Kept.name c.args.slots.now es)) (sym is)
    (rises-in g.P.Kept.name c.args.slots.now bs c.block_of-block.result
    c.requires.index.rises b.within)

pub returns-in-Ok-clause-found : goal.returns-in-Ok-clause-found
returns-in-Ok-clause-found g c =
    let b = c.block_of-block.ensures in
    let bs = c.args.blocks.now in
    let k = key_sought g.P.Kept.name c.args.sought.now in
    let is = block bs c.block_of-block.result c.index-blocks-block.result c.entries.result.now
    b.within c.index-blocks-block.is c.entries.ensures in
    found-in g.P.Kept.name c.args.slots.now bs c.block_of-block.result c.in-Ok.place k b.within
    (subst (λ (es : List IndexEntry). IsKeyAt g.P.Kept.name c.args.slots.now es c.in-Ok.place k) is
    c.in-Ok.ensures.found)

pub returns-in-Err-clause-absent : goal.returns-in-Err-clause-absent
returns-in-Err-clause-absent g c =
    let b = c.block_of-block.ensures in
    let bs = c.args.blocks.now in
    let k = key_sought g.P.Kept.name c.args.sought.now in
    let is = block bs c.block_of-block.result c.index-blocks-block.result c.entries.result.now
    b.within c.index-blocks-block.is c.entries.ensures in
    absent-in g.P.Kept.name c.args.slots.now bs c.block_of-block.result c.in-Err.place k b.within
    b.below b.above
    (subst (λ (es : List IndexEntry). SplitsKeys (keys_at g.P.Kept.name c.args.slots.now es)
    c.in-Err.place k) is c.in-Err.ensures.absent)
