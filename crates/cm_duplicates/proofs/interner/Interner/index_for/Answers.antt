use Rattle.std.proofs.Common.{◌≡◌, ◌<◌, length, get_or, Some, None, ap, sym, ◌∙◌, arith}
use Rattle.cm_class.specs.Names.{utf8}
use Rattle.cm_duplicates.specs.Interned.{interned}
use Rattle.cm_duplicates.proofs.Interning.{Looked, kept, names_kept, knows_kept, same_keeps}
use Rattle.cm_duplicates.proofs.Interning.{same_names, knows_more}
use Rattle.cm_duplicates.proofs.interner.Interner.index_for.Goals as goal

pub invariant_of-self : goal.invariant_of-self
invariant_of-self c =
    let class = c.args.self.now.class.now in
    let old = c.args.self.now.interned in
    let new = c.intern.new.table in
    record {
      names = same_names class old new c.in_err-found.ensures.err c.args.self.now.names;
      knows = knows_kept class old new c.args.self.now.known.items
          (same_keeps old new c.in_err-found.ensures.err) c.args.self.now.knows;
    }

pub invariant_of-self-then-place-len : goal.invariant_of-self-then-place-len
invariant_of-self-then-place-len c =
    let class = c.args.self.now.class.now in
    let old = c.args.self.now.interned in
    let new = c.intern.new.table in
    let known = c.args.self.now.known.items in
    let looked : Looked old new c.utf8-2.result.now c.args.index c.in_ok-found.found =
    record {
      found =
          c.in_ok-found.ensures.found;
      same =
          c.in_ok-found.ensures.same;
      others = c.in_ok-found.ensures.others;
    } in
    let within : c.from-place.result < length known = omega (arith, c.args.self.now.known.ok.0) in
    let found : interned new (utf8 class c.from-place.result) ≡ Some c.in_ok-found.found =
    ap (interned new) (ap (utf8 class) c.from-place.ensures ∙ sym c.utf8-2.ensures) ∙
    c.in_ok-found.ensures.found in
    record {
      names = names_kept old new c.utf8-2.result.now c.args.index c.in_ok-found.found looked class
          (sym c.utf8-2.ensures) c.args.self.now.names;
      knows = knows_more class new known c.from-place.result c.in_ok-found.found within found
          (knows_kept class old new known
          (kept old new c.utf8-2.result.now c.args.index c.in_ok-found.found looked)
          c.args.self.now.knows);
    }

pub returns-in-Some-Some-clause-found : goal.returns-in-Some-Some-clause-found
returns-in-Some-Some-clause-found c =
    let known = c.args.self.now.known.items in
    let read = c.in-Some-Some.ensures.lookup.3.1 None in
    let at_index : get_or known c.args.index None ≡ Some c.in-Some-Some.before =
    sym (read ∙ ap (λ l. get_or l c.from-place.result None) c.deref.ensures.value ∙ ap
    (λ i. get_or known i None) c.from-place.ensures) ∙ c.in-Some-Some.field-0-is in
    c.args.self.now.knows c.args.index c.in-Some-Some.before at_index
