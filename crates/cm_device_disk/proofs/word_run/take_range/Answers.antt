use Rattle.std.proofs.Common.{◌∙◌, List, is_some, sym, ap, subst, arith}
use Rattle.cm_device_disk.specs.declared.word_run.WordRun.{WordRun}
use Rattle.cm_device_disk.specs.Runs.{InOrder, is_run}
use Rattle.cm_device_disk.proofs.Taking.{IsFirst, has_none, has_at, after_at}
use Rattle.cm_device_disk.proofs.word_run.take_range.Goals as goal

pub returns-then-index-len-clause-exactly : goal.returns-then-index-len-clause-exactly
returns-then-index-len-clause-exactly c =
    let at = c.args.range.at in
    let k = c.first_from-index.result in
    let runs = c.args.runs.now.items in
    let first : IsFirst at runs k =
    subst (λ (l : List WordRun). InOrder l → IsFirst at l k) c.deref.ensures.value
    c.first_from-index.ensures.first c.requires in
    sym (has_none at c.args.range.count k runs first (omega arith))

pub returns-clause-exactly : goal.returns-clause-exactly
returns-clause-exactly c =
    let at = c.args.range.at in
    let k = c.first_from-index.result in
    let runs = c.args.runs.now.items in
    let found = c.index_mut.result.now in
    let first : IsFirst at runs k =
    subst (λ (l : List WordRun). InOrder l → IsFirst at l k) c.deref.ensures.value
    c.first_from-index.ensures.first c.requires in
    c.take.ensures.exactly
    ∙ ap (λ (r : WordRun). is_run at c.args.range.count r) c.index_mut.ensures.value
    ∙ sym (has_at at c.args.range.count k found runs first (omega arith))

pub returns-clause-rest : goal.returns-clause-rest
returns-clause-rest c =
    let at = c.args.range.at in
    let k = c.first_from-index.result in
    let runs = c.args.runs.now.items in
    let first : IsFirst at runs k =
    subst (λ (l : List WordRun). InOrder l → IsFirst at l k) c.deref.ensures.value
    c.first_from-index.ensures.first c.requires in
    after_at (is_some c.take.result) at k runs c.index_mut.result.now c.take.new.self first
    (omega arith) c.index_mut.ensures.value c.take.ensures.rest
