use Rattle.std.proofs.Common.{refl}
use Rattle.flow_graph.proofs.Growing.{grows_start, grows_more}
use Rattle.flow_graph.proofs.Catching.{IsRangeEdge, none_covered, all_ranges, range_near, same_items}
use Rattle.flow_graph.proofs.handlers.add_handlers.Goals as goal

pub loop-range-init : goal.loop-range-init
loop-range-init c = record {
  grows = grows_start c.args.edges.now.items c.args.edges.now.items (IsRangeEdge c.args.places.now c.deref-range-items.result.now) refl;
  covered = none_covered c.args.places.now c.args.edges.now.items;
}

pub add_range-requires-clause-handler : goal.add_range-requires-clause-handler
add_range-requires-clause-handler c = range_near c.args.ranges.now c.in_ok-sorted.sorted.items c.deref-range-items.result.now c.loop-range.range-index c.in_ok-sorted.ensures c.deref-range-items.ensures.value c.requires.handlers c.loop-range-test.true

pub loop-range-preserved : goal.loop-range-preserved
loop-range-preserved c = record {
  grows = grows_more c.args.edges.now.items c.loop-range.edges.items c.add_range.new.edges.items (IsRangeEdge c.args.places.now c.deref-range-items.result.now) c.loop-range.range-index c.loop-range.invariant.grows c.in_ok-covered.ensures.edges;
  covered = c.in_ok-covered.ensures.covered;
}

pub returns : goal.returns
returns c = all_ranges c.args.edges.now.items c.loop-range.edges.items c.args.places.now c.args.ranges.now c.deref-range-items.result.now c.loop-range.range-index (same_items c.args.ranges.now c.in_ok-sorted.sorted.items c.deref-range-items.result.now c.in_ok-sorted.ensures c.deref-range-items.ensures.value) c.loop-range-test.false c.loop-range.invariant.grows
