use Rattle.std.proofs.Common.{◌≡◌, length, arith}
use Rattle.netlist.proofs.Edges.{first_more, all_first}
use Rattle.netlist.proofs.circuit.first_memories.Goals as goal

pub loop-k-preserved : goal.loop-k-preserved
loop-k-preserved c =
    first_more c.args.memories.now c.args.unknown.now c.loop-k.k c.index-memories-k.result c.loop-k.rams.items c.push.new.self.items
    c.in_ok-new.field-0 c.requires c.loop-k-test.true c.index-memories-k.is c.loop-k.invariant c.in_ok-new.ensures c.in_ok-push.ensures.items

pub returns : goal.returns
returns c =
    let most = c.loop-k.auto.k-end in
    let least = c.loop-k-test.false in
    let whole : c.loop-k.k ≡ length c.args.memories.now = omega (arith, most, least) in
    all_first c.args.memories.now c.args.unknown.now c.loop-k.k c.loop-k.rams.items c.requires whole c.loop-k.invariant
