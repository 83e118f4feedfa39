use Rattle.std.proofs.Common.{arith}
use Rattle.bound_finder.proofs.Within.{all_members_within, header_within}
use Rattle.bound_finder.proofs.charges.outermost_charges.Goals as goal
use Rattle.std.proofs.Common.{get_or}

pub outermost-requires-clause-within : goal.outermost-requires-clause-within
outermost-requires-clause-within c = λ k d lt i e below.
    let s = c.args.s.now in
    let h = c.requires.shape.1 in
    let inside = all_members_within s.graph h.compact.digraph (get_or s.nest k d) (h.nest.loops k d lt) i e below in
    let nodes = c.nodes.ensures.nodes in
    omega arith

pub outermost-requires-clause-headers : goal.outermost-requires-clause-headers
outermost-requires-clause-headers c = λ k d lt.
    let s = c.args.s.now in
    let h = c.requires.shape.1 in
    let inside = header_within s.graph h.compact.digraph (get_or s.nest k d) (h.nest.loops k d lt) in
    let nodes = c.nodes.ensures.nodes in
    omega arith
