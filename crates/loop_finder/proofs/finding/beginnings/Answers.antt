use Rattle.std.proofs.Common.{◌≤◌, List, length, sym, subst}
use Rattle.std.specs.Prelude.{slice_index}
use Rattle.loop_nest.specs.Nest.{NaturalLoop}
use Rattle.loop_finder.specs.declared.body.Beginning.{Beginning}
use Rattle.loop_finder.proofs.Adding.{AreOfFirst, first_all, first_more, first_none}
use Rattle.loop_finder.proofs.finding.beginnings.Goals as goal

pub loop-index-init : goal.loop-index-init
loop-index-init c P known m d of moved nest =
    subst (λ (xs : List Beginning). AreOfFirst P known m c.args.body.now (slice_index c.args.nodes.now) c.args.nest.now 0 xs) (sym c.new-found.ensures.items)
    (first_none P known m c.args.body.now (slice_index c.args.nodes.now) c.args.nest.now)

pub loop-index-preserved : goal.loop-index-preserved
loop-index-preserved c P known m d of moved nest =
    first_more P known m c.args.body.now (slice_index c.args.nodes.now) c.args.nest.now c.loop-index.index c.loop-index.found.items c.add_of_index.new.found.items (c.loop-index.invariant P known m d of moved nest)
    (c.in_ok-add_of_index.ensures P known m d of moved nest)

pub returns : goal.returns
returns c P known m d of moved nest =
    let done = subst (λ (ks : List NaturalLoop). length ks ≤ c.loop-index.index) c.loops-loops.ensures c.loop-index-test.false in
    first_all P known m c.args.body.now (slice_index c.args.nodes.now) c.args.nest.now d moved nest c.loop-index.index done c.loop-index.found.items (c.loop-index.invariant P known m d of moved nest)
