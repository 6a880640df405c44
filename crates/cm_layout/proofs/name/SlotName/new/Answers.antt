use Rattle.std.proofs.Common.{◌≡◌, ℕ, length, ap, arith}
use Rattle.std.proofs.lemmas.List.{drop-replicate}
use Rattle.cm_layout.proofs.Padded.{zeros_behind, whole}
use Rattle.cm_layout.proofs.name.SlotName.new.Goals as goal

pub invariant_of-result : goal.invariant_of-result
invariant_of-result c =
    let n = length c.args.bytes.now in
    let copied : length c.copy_from_slice.new.self ≡ n =
    ap length c.copy_from_slice.ensures.after in (
      omega arith,
      whole 96 c.copy_from_slice.new.self _ n copied (drop-replicate {X = ℕ} n 96 0) (omega arith),
      zeros_behind 96 c.copy_from_slice.new.self _ n copied (drop-replicate {X = ℕ} n 96 0),
    )
