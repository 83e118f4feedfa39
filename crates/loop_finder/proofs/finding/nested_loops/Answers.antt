use Rattle.std.proofs.Common.{◌≡◌, ◌<◌, List, [], length, All, inl, sym, ◌∙◌, subst}
use Rattle.std.specs.Prelude.{slice_index}
use Rattle.std.proofs.lemmas.Bool.{eqb-true}
use Rattle.std.proofs.lemmas.List.{nil_from_length}
use Rattle.loop_nest.specs.Nest.{NaturalLoop}
use Rattle.loop_acts.specs.Rules.{rules_by}
use Rattle.loop_finder.proofs.HeaderLemmas.{none_unless_headed}
use Rattle.loop_finder.proofs.MethodLemmas.{bounds_are}
use Rattle.loop_finder.proofs.finding.nested_loops.Goals as goal

pub header_places-requires : goal.header_places-requires
header_places-requires c = subst (λ (ls : List NaturalLoop). All (λ (l : NaturalLoop). l.header < length c.args.nodes.now) ls) (sym c.loops-loops.ensures) c.requires.headers

pub returns-then-is_empty-clause-bounds : goal.returns-then-is_empty-clause-bounds
returns-then-is_empty-clause-bounds c P given m d coded ints is compact reducible nest =
    let moved = c.graphs_are_moved.ensures.graphs P m c.args.graph d (slice_index c.args.nodes.now) (inl is) compact in
    let none = eqb-true (length c.loops-loops.result.now) 0 (sym c.is_empty.ensures ∙ c.if-is_empty.true) in
    let empty : c.args.nest.now ≡ [] = sym c.loops-loops.ensures ∙ nil_from_length c.loops-loops.result.now none in
    none_unless_headed c.graphs_are_one.ensures.whole c.moved_is_nest.ensures.headers P (rules_by P given) m c.args.graph is d (slice_index c.args.nodes.now) moved c.args.nest.now nest empty c.new.result.items c.new.ensures.items

pub returns-clause-bounds : goal.returns-clause-bounds
returns-clause-bounds c P given m d coded ints is compact reducible nest =
    let g = c.args.graph in
    let moved = c.graphs_are_moved.ensures.graphs P m g d (slice_index c.args.nodes.now) (inl is) compact in
    let r = c.in_ok-bounds.ensures P given m d coded ints is moved nest in
    let one = c.lines_follow_one_another.ensures.one in
    bounds_are c.graphs_are_one.ensures.whole P (rules_by P given) m g is d (slice_index c.args.nodes.now) compact one reducible c.in_ok-bounds.bounds.items r
