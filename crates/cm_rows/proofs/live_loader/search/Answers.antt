use Rattle.std.proofs.Common.{rules}
use Rattle.std.proofs.lemmas.List.Sorted.{answers_always}
use Rattle.cm_rows.proofs.KeptPlaces.{searched}
use Rattle.cm_rows.proofs.live_loader.search.Goals as goal

pub returns-clause-found : goal.returns-clause-found
returns-clause-found c =
    let facts = c.binary_search_by_key.ensures in
    let by_key = facts.position (λ s. s.item.number) (answers_always _ _ _
    (λ f a r g called. search rules)) in
    rw c.ok.ensures.value ((searched c.args.loaders.now c.args.number c.binary_search_by_key.result
    c.requires facts.bound by_key).0)

pub returns-clause-absent : goal.returns-clause-absent
returns-clause-absent c =
    let facts = c.binary_search_by_key.ensures in
    let by_key = facts.position (λ s. s.item.number) (answers_always _ _ _
    (λ f a r g called. search rules)) in
    rw c.ok.ensures.value ((searched c.args.loaders.now c.args.number c.binary_search_by_key.result
    c.requires facts.bound by_key).1)
