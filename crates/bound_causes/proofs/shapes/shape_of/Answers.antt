use Rattle.std.proofs.lemmas.Result.{IfOk-weaker}
use Rattle.bound_causes.proofs.Shaping.{shape_is}
use Rattle.bound_causes.proofs.shapes.shape_of.Goals as goal

pub returns : goal.returns
returns c =
    let g = c.in_ok-whole.whole in
    let d = c.in_ok-compact.compact in
    IfOk-weaker c.compact_shape.result _ _
    (λ s is P n of. shape_is c.graphs_are_one.ensures.whole c.headers_are_instructions.ensures c.method_graphs_are_reached.ensures c.compact_keeps_loops.ensures.headers P n g (c.in_ok-whole.ensures.graph P n of) d c.in_ok-compact.ensures s is)
    c.compact_shape.ensures
