use Rattle.std.proofs.Common.{◌≡◌, ◌<◌, List, length, get_or, ap, subst, arith}
use Rattle.loop_nest.specs.Nest.{NaturalLoop}
use Rattle.memory_bound.proofs.Looping.{header_below}
use Rattle.memory_bound.proofs.loops.headers.Goals as goal

pub bounds-nodes-header : goal.bounds-nodes-header
bounds-nodes-header c =
    let s = c.args.s.now in
    let i = c.loop-l.l-index in
    let item = c.l-item.result in
    let below = header_below c.requires.0 s c.requires.1 i item (subst (λ (ls : List NaturalLoop). i < length ls) c.loops-l-items.ensures c.loop-l-test.true)
    (subst (λ (ls : List NaturalLoop). item ≡ get_or ls i item) c.loops-l-items.ensures c.l-item.is) in
    omega (arith, ap length c.as_slice-nodes.ensures)
