use Rattle.std.proofs.Common.{◌≡◌, ◌++◌, ℕ, List, filter, map, sym, ap, subst, ◌∙◌}
use Rattle.std.specs.List.{AllByRecursion}
use Rattle.cm_layout.specs.declared.row.Row.{Row}
use Rattle.cm_layout.specs.Rows.{classes_in}
use Rattle.cm_statistics.specs.Usage.{IsSmallRow, usage_kept, owned_chunk, owned_chunks, begins}
use Rattle.cm_statistics.specs.declared.chunks.OwnedChunk.{OwnedChunk}
use Rattle.cm_statistics.proofs.Rows.{small-rest}
use Rattle.cm_statistics.proofs.Lists.{pushed}
use Rattle.cm_statistics.proofs.chunks.owned_chunks.Goals as goal

pub loop-row-preserved-in-Continue-branch-2 : goal.loop-row-preserved-in-Continue-branch-2
loop-row-preserved-in-Continue-branch-2 c =
    let l = c.loop-row in
    let all = classes_in c.args.rows.now.rows in
    let small = subst (λ (rows : List (Row (List ℕ))). AllByRecursion IsSmallRow (classes_in rows))
    c.in-Some.ensures l.invariant.small in
    let made = subst (λ (rows : List (Row (List ℕ))). l.list.items
    ++ map (owned_chunk all) (filter begins (classes_in rows)) ≡ owned_chunks all)
    c.in-Some.ensures l.invariant.made in
    let begun = sym c.begun_by.ensures ∙ c.in-Some-begun_by.is in
    let pushed_is = c.in_ok-push.ensures.items in
    record {
      made = ap (λ (list : List OwnedChunk). list
          ++ map (owned_chunk all) (filter begins (classes_in c.next.new.self))) pushed_is
          ∙ pushed all (usage_kept c.in_ok-counted.counted) c.in-Some.row.now c.next.new.self
          l.list.items (owned_chunks all) c.requires.each small c.in_ok-counted.ensures made
          c.in-Some-begun_by.chunk begun;
      small = small-rest c.in-Some.row.now c.next.new.self small;
    }
