use Rattle.std.proofs.Common.{ap, ap₂, sym, ◌∙◌, zero-add, ℕ, List, [], ◌∷◌, ◌++◌}
use Rattle.std.proofs.lemmas.List.FromFn.{map-range_with_len_more}
use Rattle.cm_class.specs.Names.{utf8}
use Rattle.cm_duplicates.specs.Fingerprints.{fingerprint}
use Rattle.cm_duplicates.proofs.fingerprints.utf8_fingerprints.Goals as goal

pub loop-index-preserved : goal.loop-index-preserved
loop-index-preserved c =
    let class = c.args.class.now in
    let i = c.loop-index.index in
    c.in_ok-push.ensures.items
    ∙ ap₂ (λ (l : List ℕ) (n : ℕ). l ++ n ∷ []) c.loop-index.invariant
    (c.fingerprint.ensures ∙ ap (fingerprint c.args.strength) c.utf8-2.ensures)
    ∙ sym (map-range_with_len_more (λ k. fingerprint c.args.strength (utf8 class k)) 0 i i
    (zero-add i))
