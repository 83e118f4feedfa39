use Rattle.std.proofs.Common.{◌≤◌, length, arith}
use Rattle.class_hierarchy.proofs.Ranks.{table_direct}
use Rattle.class_hierarchy.proofs.acyclic.direct_of.Goals as goal

pub returns-clause-direct : goal.returns-clause-direct
returns-clause-direct c =
    let all : length c.args.classes.now ≤ c.loop-class.class = omega (arith, c.class_count-class-end.ensures, c.loop-class-test.false) in
    table_direct c.args.classes.now c.loop-class.class c.loop-class.above.items c.loop-class.invariant all
