use Rattle.std.proofs.Common.{◌≡◌, ◌+◌, ◌≤◌, length}
use Rattle.cm_attributes.specs.Names.{count_of}
use Rattle.cm_record_rules.proofs.known.count.Given as goal

abbrev pub invariant-loop : goal.invariant-loop
invariant-loop l = record {
  few : l.found ≤ l.counter;
  left : l.counter + length l.rest ≡ l.most;
  so_far : l.found + count_of l.class l.known l.rest ≡ count_of l.class l.known l.fn.attributes;
}
