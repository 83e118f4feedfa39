use Rattle.std.proofs.Common.{ℕ, subst, sym}
use Rattle.flow_graph.proofs.Catching.{IsUncovered, uncovered, range_edges, range_covered}
use Rattle.flow_graph.proofs.handlers.add_range.Goals as goal

pub returns-clause-edges : goal.returns-clause-edges
returns-clause-edges c =
    let C = c.args.covered in
    let r = c.args.range in
    let from = c.uncovered-from.result in
    let P : ℕ → Type 0 = IsUncovered C r in
    range_edges c.args.places.now C r c.args.edges.now.items c.add_within.new.edges.items from (subst P (sym c.uncovered-from.ensures) (uncovered C r)) c.requires.covered c.in_ok-add_within.ensures

pub returns-clause-covered : goal.returns-clause-covered
returns-clause-covered c =
    let C = c.args.covered in
    let r = c.args.range in
    let from = c.uncovered-from.result in
    let P : ℕ → Type 0 = IsUncovered C r in
    range_covered c.args.places.now C r c.args.edges.now.items c.add_within.new.edges.items from (subst P (sym c.uncovered-from.ensures) (uncovered C r)) c.requires.covered c.in_ok-add_within.ensures c.max.result c.max.ensures
