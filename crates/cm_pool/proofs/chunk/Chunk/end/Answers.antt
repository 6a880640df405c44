use Rattle.std.proofs.Common.{◌*◌, ◌^◌, ◌<◌, ◌≤◌, arith}
use Rattle.std.proofs.Math.Nat.{pow-le-pow_right, mod-eq_of_lt}
use Rattle.cm_pool.proofs.chunk.Chunk.end.Goals as goal

pub returns-then-self-lt26 : goal.returns-then-self-lt26
returns-then-self-lt26 c =
    let order : c.args.self.now.order ≤ 25 = omega arith in
    let small : 2 ^ c.args.self.now.order ≤ 2 ^ 25 = pow-le-pow_right {n = 2} (omega arith) order in
    let fits : 128 * 2 ^ c.args.self.now.order < 2 ^ 64 = omega arith in
    let at : c.args.self.now.at < 2 ^ 32 = omega arith in
    rw (mod-eq_of_lt fits) (omega arith)

pub returns-else-self-lt26 : goal.returns-else-self-lt26
returns-else-self-lt26 c =
    let large : 2 ^ 26 ≤ 2 ^ c.args.self.now.order =
    pow-le-pow_right {n = 2} (omega arith) c.if-self-lt26.false in
    omega arith
