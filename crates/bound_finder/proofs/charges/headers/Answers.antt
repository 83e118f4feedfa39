use Rattle.std.proofs.Common.{ℕ, List, ◌∷◌, [], ◌++◌, length, get_or, slice_index, ap, ap₂, ◌∙◌, arith}
use Rattle.bound_finder.proofs.Within.{header_within, loop_item, headers_more, headers_all}
use Rattle.bound_finder.proofs.charges.headers.Goals as goal

pub bounds-as_slice-header : goal.bounds-as_slice-header
bounds-as_slice-header c =
    let h = c.requires.1 in
    let s = c.args.s.now in
    let item = c.l-item.result in
    let is = loop_item s.graph s.nest c.loops-l-items.result.now c.loop-l.l-index item h.nest.loops c.loops-l-items.ensures c.loop-l-test.true c.l-item.is in
    let below = header_within s.graph h.compact.digraph item is in
    let long = h.long in
    let many = ap length c.as_slice.ensures in
    let header = c.header.ensures in
    omega arith

pub loop-l-preserved : goal.loop-l-preserved
loop-l-preserved c =
    let s = c.args.s.now in
    let old = c.loop-l.headers.items in
    let at = ap₂ (λ (ns : List ℕ) (h : ℕ). get_or ns h 0) c.as_slice.ensures c.header.ensures in
    headers_more (slice_index s.nodes) s.nest c.loops-l-items.result.now c.loop-l.l-index c.l-item.result old c.push.new.self.items c.loops-l-items.ensures c.loop-l-test.true c.l-item.is c.loop-l.invariant
    (c.in_ok-push.ensures.items ∙ ap (λ (n : ℕ). old ++ n ∷ []) at)

pub returns : goal.returns
returns c = let s = c.args.s.now in headers_all (slice_index s.nodes) s.nest c.loops-l-items.result.now c.loop-l.l-index c.loop-l.headers.items c.loops-l-items.ensures c.loop-l-test.false c.loop-l.invariant
