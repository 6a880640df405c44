use Rattle.std.proofs.Common.{List, ℕ, sym, subst}
use Rattle.cm_pool.specs.Bits.{IsFirstBit, IsFirstWord}
use Rattle.cm_pool.proofs.BitFacts.{first-word}
use Rattle.cm_pool.proofs.bit_row.BitRow.first.Goals as goal

pub lowest_bit-word-requires-clause-first : goal.lowest_bit-word-requires-clause-first
lowest_bit-word-requires-clause-first c =
    let a = c.self.inside in
    let found = subst
    (λ (ws : List ℕ). IsFirstBit ws c.lowest_bit-group.result) c.deref-2.ensures.value
    c.lowest_bit-group.ensures in
    subst (λ (ws : List ℕ). IsFirstWord ws c.lowest_bit-group.result) (sym c.deref-3.ensures.value)
    (first-word a.groups.items a.heads.items c.lowest_bit-group.result
    c.self.invariant.headed found)

pub lowest_bit-requires-clause-first : goal.lowest_bit-requires-clause-first
lowest_bit-requires-clause-first c =
    let a = c.self.inside in
    let found = subst
    (λ (ws : List ℕ). IsFirstBit ws c.lowest_bit-word.result) c.deref-3.ensures.value
    c.lowest_bit-word.ensures in
    subst (λ (ws : List ℕ). IsFirstWord ws c.lowest_bit-word.result) (sym c.deref-4.ensures.value)
    (first-word a.words.items a.groups.items c.lowest_bit-word.result
    c.self.invariant.grouped found)
