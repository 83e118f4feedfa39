use Rattle.std.proofs.Common.{length, ap, arith}
use Rattle.loop_nest.proofs.Pointing.{unmerged_marked}
use Rattle.loop_nest.proofs.merging.unmerged.Goals as goal

pub returns-clause-marked : goal.returns-clause-marked
returns-clause-marked c =
    let ok = c.in_ok-back.back.ok in
    let n = c.in_ok-back.ensures.len in
    let e = ap length c.edges.ensures.edges in
    unmerged_marked c.args.g.now c.in_ok-class.class.items c.in_ok-back.back.items c.in_ok-class.ensures.alone (omega (arith, ok.0))
