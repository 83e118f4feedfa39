use Rattle.std.proofs.Common.{◌≡◌, length, sym, ap, ◌∙◌, arith}
use Rattle.netlist.proofs.Edges.{some_after, none_after, one_more_after, whole_after}
use Rattle.netlist.proofs.circuit.pass_edges.Goals as goal

pub loop-k-init : goal.loop-k-init
loop-k-init c = sym (none_after c.args.ports.now c.args.unknown.now c.args.memories.now)

pub loop-k-preserved : goal.loop-k-preserved
loop-k-preserved c =
    one_more_after c.loop-k.k c.args.ports.now c.args.unknown.now c.args.memories.now c.loop-k.memories
    (record { writes = 0; place = 0; word = 0; reads = 0; read_place = 0 }) c.index-memories-k.result c.pass_edge.new.self
    c.requires.ports c.requires.unknown c.loop-k-test.true c.loop-k.invariant c.pass_edge.ensures

pub returns : goal.returns
returns c =
    let most = c.loop-k.auto.k-end in
    let least = c.loop-k-test.false in
    let whole : c.loop-k.k ≡ length c.args.memories.now = omega (arith, most, least) in
    c.loop-k.invariant ∙ ap (λ k. some_after k c.args.ports.now c.args.unknown.now c.args.memories.now) whole
    ∙ whole_after c.args.ports.now c.args.unknown.now c.args.memories.now c.requires.ports c.requires.unknown
