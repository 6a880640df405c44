use Rattle.std.proofs.Common.{◌≡◌, ◌+◌, ◌-◌, ◌≤◌, vec_len, All}
use Rattle.cm_cache.specs.Shared.{IsNewPass}
use Rattle.cm_cache.proofs.shared.new_passes.Given as goal

abbrev pub invariant-loop-passes : goal.invariant-loop-passes
invariant-loop-passes g l = record {
  parts : l.share.parts + vec_len l.passes ≡ l.initial.share.parts;
  amount : l.share.amount ≡ 0;
  most : vec_len l.passes ≤ l.count;
  new : All IsNewPass l.passes.items;
}

abbrev pub decreases-loop-passes : goal.decreases-loop-passes
decreases-loop-passes g l = l.count - vec_len l.passes
