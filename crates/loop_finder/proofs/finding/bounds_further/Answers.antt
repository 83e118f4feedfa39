use Rattle.std.proofs.Common.{subst}
use Rattle.std.specs.Prelude.{slice_index}
use Rattle.std.proofs.lemmas.Result.{IfOk-weaker}
use Rattle.loop_nest.specs.Nest.{IsNest}
use Rattle.compact_walks.specs.Moving.{IsMoved}
use Rattle.loop_acts.specs.Rules.{further}
use Rattle.loop_finder.specs.declared.body.Beginnings.TheVariants.{Listed}
use Rattle.loop_finder.specs.Counting.{AreBounds, Body}
use Rattle.loop_finder.proofs.Bodies.{bounds_of}
use Rattle.loop_finder.proofs.Listing.{begins_listed}
use Rattle.loop_finder.proofs.finding.bounds_further.Goals as goal

pub returns : goal.returns
returns c =
    let b = c.args.body in
    let xs = c.in_ok-beginnings.field-0 in
    let node = slice_index c.args.nodes.now in
    IfOk-weaker c.bounds_of_nest.result _ _
    (λ bounds h P known m d of moved nest.
    let are = subst (λ (z : Body). IsMoved z.graph d node → IsNest d c.args.nest.now → AreBounds (record { acts = z.acts; graph = z.graph; begins = Listed xs }) bounds.items) c.body.view_is (h d) in
    let begins = begins_listed P known m b of xs (c.in_ok-beginnings.ensures P known m d of moved nest) c.beginnings_are_one.ensures in
    bounds_of P (further P known) m (record { acts = b.acts; graph = b.graph; begins = Listed xs }) bounds.items of.acts begins (are moved nest))
    c.bounds_of_nest.ensures
