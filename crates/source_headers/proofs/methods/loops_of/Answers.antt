use Rattle.program_tables.specs.Resolved.{resolved}
use Rattle.source_headers.proofs.ShapeLemmas.{shape_is}
use Rattle.source_headers.proofs.ToldLemmas.{all_headed, not_both}
use Rattle.source_headers.proofs.methods.loops_of.Goals as goal

pub source_where-requires-clause-shape : goal.source_where-requires-clause-shape
source_where-requires-clause-shape c =
    let h = c.requires.headers in
    shape_is c.graphs_are_one.ensures.whole c.headers_are_instructions.ensures c.method_graphs_are_reached.ensures c.compact_keeps_loops.ensures.headers (resolved c.args.program.now) c.args.number h.graph h.is_graph h.compact h.is_compact
    c.in_ok-shape.shape (c.in_ok-shape.ensures h.compact h.are)

pub returns : goal.returns
returns c =
    let P = resolved c.args.program.now in
    let m = c.args.number in
    let h = c.requires.headers in
    let shape = shape_is c.graphs_are_one.ensures.whole c.headers_are_instructions.ensures c.method_graphs_are_reached.ensures c.compact_keeps_loops.ensures.headers P m h.graph h.is_graph h.compact h.is_compact c.in_ok-shape.shape
    (c.in_ok-shape.ensures h.compact h.are) in
    record {
      shape = shape;
      file = c.in_ok-source.ensures.file;
      source = c.in_ok-source.ensures.source;
      within = c.in_ok-source.ensures.within;
      all = all_headed c.graphs_are_moved.ensures.graphs c.parts_are_sound.ensures c.ends_are_one.ensures c.graphs_are_one.ensures.whole P m c.in_ok-shape.shape shape;
      apart = not_both c.graphs_are_moved.ensures.graphs c.parts_are_sound.ensures c.ends_are_one.ensures c.graphs_are_one.ensures.whole P m;
    }
