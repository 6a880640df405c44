use Rattle.std.proofs.Common.{◌≡◌, suc, ◌-◌, ◌≤◌, length, get_or, IsSomeAnd, ap, sym, subst, ◌∙◌}
use Rattle.std.proofs.Common.{arith}
use Rattle.std.proofs.lemmas.List.{get_or_default}
use Rattle.std.specs.Option.{option_map}
use Rattle.cm_pool.specs.Chunks.{chunk_size}
use Rattle.cm_arena.specs.Chains.{Filled, last_of}
use Rattle.cm_arena.specs.Tightening.{with_last}
use Rattle.cm_arena.proofs.Tightened.{last_is, exchanged_is, some_last, last-exchanged}
use Rattle.cm_arena.proofs.arena.Arena.swap_last.Goals as goal

-- the last chunk comes after the others
len : (c : goal.After-self-1)
    → length c.self.inside.chunks.items ≡ suc (c.len-last.result - 1)
len c =
    let some = some_last c.self.inside.chunks.items c.self.inside.used.items
    (λ (f : Filled). f.used ≤ chunk_size c.args.chunk.order) c.self.invariant.pairs
    (subst (λ chain. IsSomeAnd (last_of chain)
    (λ (f : Filled). f.used ≤ chunk_size c.args.chunk.order)) (sym c.self.view_is)
    c.requires.enough) in
    let long = c.len-last.ensures in
    let ok = c.self.inside.chunks.ok.0 in
    omega (arith, some, long, ok)

pub invariant_of-self : goal.invariant_of-self
invariant_of-self c =
    let cs = c.self.inside.chunks.items in
    let us = c.self.inside.used.items in
    let k = c.len-last.result - 1 in
    let used = get_or us k 0 in
    let pairs = c.self.invariant.pairs in
    let long = len c in
    let same : used ≡ get_or us k used =
    get_or_default us k 0 used (omega (arith, pairs, long)) in
    let last = last_is cs us k c.self.invariant long c.args.self.now c.index-from.result.now used
    c.self.view_is c.index-from.ensures same in
    exchanged_is cs us k c.self.invariant long c.index-from.result.now c.args.chunk used
    c.index-from.ensures same c.requires.small
    (subst (λ o. IsSomeAnd o (λ (f : Filled). f.used ≤ chunk_size c.args.chunk.order)) last
    c.requires.enough)

pub returns-clause-last : goal.returns-clause-last
returns-clause-last c =
    let cs = c.self.inside.chunks.items in
    let us = c.self.inside.used.items in
    let k = c.len-last.result - 1 in
    let used = get_or us k 0 in
    let pairs = c.self.invariant.pairs in
    let long = len c in
    ap (option_map (λ (f : Filled). f.chunk))
    (last_is cs us k c.self.invariant long c.args.self.now c.index-from.result.now used
    c.self.view_is c.index-from.ensures
    (get_or_default us k 0 used (omega (arith, pairs, long))))

pub returns-clause-swapped : goal.returns-clause-swapped
returns-clause-swapped c =
    last-exchanged c.self.inside.chunks.items c.self.inside.used.items (c.len-last.result - 1)
    c.args.chunk c.self.invariant.pairs (len c)
    ∙ ap (λ (chain : _). with_last chain c.args.chunk) c.self.view_is
