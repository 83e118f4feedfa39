use Rattle.std.proofs.Common.{sym, subst}
use Rattle.std.specs.Prelude.{slice_index}
use Rattle.std.proofs.lemmas.Result.{IfOk-weaker}
use Rattle.loop_nest.specs.Digraph.{Digraph}
use Rattle.compact_walks.specs.Moving.{IsMoved}
use Rattle.method_flow.specs.Graphs.{IsGraphOf}
use Rattle.loop_acts.specs.Rules.{rules_by}
use Rattle.loop_finder.specs.Methods.{AreBoundsBy, IsNestBy}
use Rattle.loop_finder.proofs.Bodies.{AreOfSites, AreOfTable, plain_bounds, further_bounds}
use Rattle.loop_finder.proofs.Staying.{stays}
use Rattle.loop_finder.proofs.finding.bounds_by.Goals as goal

pub bounds_of_nest-requires : goal.bounds_of_nest-requires
bounds_of_nest-requires c = subst (λ (g : Digraph). IsNestBy g c.args.nodes.now c.args.nest.now) (sym c.in_ok-body.ensures.graph) c.requires

pub bounds_further-requires : goal.bounds_further-requires
bounds_further-requires c = subst (λ (g : Digraph). IsNestBy g c.args.nodes.now c.args.nest.now) (sym c.in_ok-body.ensures.graph) c.requires

pub returns-in-OfSites : goal.returns-in-OfSites
returns-in-OfSites c =
    let b = c.in_ok-body.body in
    let x = c.args.ints.now in
    let same = c.in_ok-body.ensures.graph in
    let of = subst AreOfSites (sym c.in-OfSites.is) tt in
    IfOk-weaker c.bounds_of_nest.result _ _
    (λ bounds h P given m d coded ints is moved nest.
    subst (λ (g : Digraph). AreBoundsBy P (rules_by P given) m g bounds.items) same
    (plain_bounds P m b bounds.items c.lines_follow_one_another.ensures.one c.one_stands_before.ensures.int x given of ints (c.in_ok-body.ensures.acts P given m coded ints) c.in_ok-body.ensures.begins
    (h d (subst (λ (g : Digraph). IsMoved g d (slice_index c.args.nodes.now)) (sym same) moved) nest)))
    c.bounds_of_nest.ensures

pub returns-in-OfTable : goal.returns-in-OfTable
returns-in-OfTable c =
    let b = c.in_ok-body.body in
    let x = c.args.ints.now in
    let same = c.in_ok-body.ensures.graph in
    let of = subst AreOfTable (sym c.in-OfTable.is) tt in
    IfOk-weaker c.bounds_further.result _ _
    (λ bounds h P given m d coded ints is moved nest.
    let within = stays c.starts_follow_one_another.ensures c.rows_are_of_their_kinds.ensures P m c.args.method.now c.code.ensures.whole coded in
    subst (λ (g : Digraph). AreBoundsBy P (rules_by P given) m g bounds.items) same
    (further_bounds P m b bounds.items (subst (λ (g : Digraph). IsGraphOf P m g) (sym same) is) within x given of ints (c.in_ok-body.ensures.acts P given m coded ints)
    (λ known body. h P known m d body (subst (λ (g : Digraph). IsMoved g d (slice_index c.args.nodes.now)) (sym same) moved) nest)))
    c.bounds_further.ensures
