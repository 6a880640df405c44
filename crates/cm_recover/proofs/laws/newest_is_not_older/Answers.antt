use Rattle.std.proofs.Common.{ap, arith}
use Rattle.std.proofs.lemmas.Bool.{ltb-true}
use Rattle.cm_layout.specs.declared.heads.HalfHead.{HalfHead}
use Rattle.cm_verdict.specs.Laws.{words_found}
use Rattle.cm_recover.proofs.laws.newest_is_not_older.Goals as goal

pub returns : goal.returns
returns c =
    λ contents newest old.
    let s = old.standing in
    let p = c.verdict_is_exact.ensures.stands contents s old.verdict_is in
    let b = c.found_is_framed.ensures.framed contents s.found p.found p.whole in
    let one =
    c.contents_determine_head.ensures newest.sizes s.found.sizes contents newest.rows
    (words_found contents s.found) newest.number s.found.number newest.framed
    (record { framing = b.framing; right = b.right; matches = b.matches }) in
    let less = ltb-true s.found.head.version 2 old.older in
    let version = ap (λ (h : HalfHead). h.version) one.head in
    let found = ap (λ (h : HalfHead). h.version) b.head_is in
    let now = newest.version in
    omega (arith, less, version, found, now)
