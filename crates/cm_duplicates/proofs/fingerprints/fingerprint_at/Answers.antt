use Rattle.std.proofs.Common.{◌+◌, ◌<◌, length, get_or, ap, ◌∙◌, zero-add, arith}
use Rattle.std.proofs.lemmas.List.FromFn.{get_or-map-range_with_len, length-map-range_with_len}
use Rattle.cm_class.specs.Names.{utf8}
use Rattle.cm_duplicates.specs.Fingerprints.{fingerprint}
use Rattle.cm_duplicates.proofs.fingerprints.fingerprint_at.Goals as goal

pub returns-in-Some : goal.returns-in-Some
returns-in-Some c =
    let class = c.args.class.now in
    let i = c.args.index in
    let n = length class.slots + 1 in
    let found = rw c.from.ensures at c.in-Some.ensures.lookup.3 in
    let within : i < n =
    omega (
      arith,
      found.0,
      ap length c.requires,
      length-map-range_with_len (λ k. fingerprint c.args.strength (utf8 class k)) 0 n,
    ) in
    found.1 0 ∙ ap (λ l. get_or l i 0) c.requires ∙ get_or-map-range_with_len
    (λ k. fingerprint c.args.strength (utf8 class k)) 0 n i i 0 within (zero-add i)
