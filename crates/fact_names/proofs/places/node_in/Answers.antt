use Rattle.std.proofs.Common.{◌≡◌, ℕ, List, length, ap, arith}
use Rattle.fact_names.proofs.Placing.{node_small}
use Rattle.fact_names.proofs.places.node_in.Goals as goal

pub node_number-node-requires : goal.node_number-node-requires
node_number-node-requires c =
    let code = c.code.result.now in
    let small = node_small code (c.starts_follow_one_another.ensures code) c.args.total.now.node (c.has_node.ensures.0 c.if-not-has_node.false) in
    let same : length code ≡ length c.args.k.now.code = ap (λ (bytes : List ℕ). length bytes) c.code.ensures.code in
    let short = c.requires.coded.short in
    omega arith

pub scope_of-requires : goal.scope_of-requires
scope_of-requires c =
    let code = c.code.result.now in
    let small = node_small code (c.starts_follow_one_another.ensures code) c.args.total.now.node (c.has_node.ensures.0 c.if-not-has_node.false) in
    let same : length code ≡ length c.args.k.now.code = ap (λ (bytes : List ℕ). length bytes) c.code.ensures.code in
    let nodes = c.requires.nodes in
    let is = c.node_number-node.ensures in
    omega arith
