use Rattle.std.proofs.Common.{◌≡◌, ◌*◌, ◌/◌, arith}
use Rattle.memory_bound.specs.Setting.{lengths_in}
use Rattle.memory_bound.proofs.Lacking.{node_by_place}
use Rattle.memory_bound.proofs.lengths.is_unlimited.Goals as goal

pub returns-then-node-eq0 : goal.returns-then-node-eq0
returns-then-node-eq0 c = λ P flow sites on.
    let half : 2 * (c.args.node / 2) ≡ c.args.node = omega arith in
    node_by_place P (lengths_in c.args.task.now) c.args.m c.args.node c.lacks_length.result half (c.lacks_length.ensures P flow sites (on (c.args.node / 2) half))
