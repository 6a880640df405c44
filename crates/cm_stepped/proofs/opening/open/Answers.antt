use Rattle.std.proofs.Common.{refl, arith}
use Rattle.cm_commands.specs.Machine.{machine_from}
use Rattle.cm_stepped.proofs.Behind.{level_matches, reopened_level}
use Rattle.cm_stepped.proofs.opening.open.Goals as goal

pub returns-clause-opened : goal.returns-clause-opened
returns-clause-opened g c =
    λ sizes k i.
    let o = c.in-Ok.ensures.opened sizes k i in
    let r = o.reaches in
    let level = reopened_level sizes k _ r.next r.does in
    record {
      reaches = record {
        next = r.next;
        does = r.does;
        matches = level_matches r.next c.in-Ok.session c.number-number.result r.matches
            c.number-number.ensures level.0 level.1;
      };
      sizes_are = o.sizes_are;
      durable = o.durable;
    }

pub returns-clause-begins : goal.returns-clause-begins
returns-clause-begins g c =
    let b = c.in-Ok.ensures.begins in
    record {
      base = b.base;
      arenas = b.arenas;
      stands = b.stands;
      matches = level_matches (machine_from b.base) c.in-Ok.session c.number-number.result b.matches
          c.number-number.ensures (omega arith) refl;
      fresh = record { asked = refl; works = refl };
    }
