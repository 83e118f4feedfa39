use Rattle.std.proofs.Common.{arith}
use Rattle.memory_bound.proofs.Compacting.{nodes_are, exit_in}
use Rattle.memory_bound.proofs.examining.greatest.Goals as goal

pub greatest_stop-requires-clause-all : goal.greatest_stop-requires-clause-all
greatest_stop-requires-clause-all c = λ u lt.
    let g = c.requires.shape.0 in
    let s = c.args.s.now in
    let h = c.requires.shape.1 in
    exit_in g s h u (let e = nodes_are g s h in omega arith)
