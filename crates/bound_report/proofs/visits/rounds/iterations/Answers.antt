use Rattle.std.proofs.Common.{◌*◌, ◌^◌, ◌≤◌, arith}
use Rattle.std.proofs.Math.Nat.{mul-le-mul_right}
use Rattle.bound_report.proofs.visits.rounds.iterations.Goals as goal

pub overflow_mul-result : goal.overflow_mul-result
overflow_mul-result c =
    let is = c.from.ensures in
    let most : c.args.visited * c.from.result ≤ 2 ^ 96 * c.from.result = mul-le-mul_right c.from.result c.requires in
    omega arith
