use Rattle.std.proofs.Common.{◌≡◌, ◌*◌, ◌%◌, ◌^◌, ◌≤◌, arith}
use Rattle.std.proofs.Math.Nat.{pow-le-pow_right, mod-eq_of_lt}
use Rattle.cm_pool.proofs.chunk.chunk_words.Goals as goal

pub returns : goal.returns
returns c =
    let size : 2 ^ c.args.order ≤ 2 ^ 24 = pow-le-pow_right {n = 2} (omega arith) c.requires in
    let fits : 128 * 2 ^ c.args.order % 2 ^ 32 ≡ 128 * 2 ^ c.args.order =
    mod-eq_of_lt (omega arith) in
    omega arith
