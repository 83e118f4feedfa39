use Rattle.std.proofs.Common.{List, take, get_or, None, sym, subst}
use Rattle.std.proofs.lemmas.List.{take_more}
use Rattle.bound_report.specs.declared.counts.NodeCount.{NodeCount}
use Rattle.bound_report.specs.Adding.{AreTimesAdded}
use Rattle.bound_report.proofs.Counting.{added_more}
use Rattle.bound_report.proofs.times.add_times.Goals as goal

pub loop-c-preserved : goal.loop-c-preserved
loop-c-preserved c =
    let nodes = c.args.nodes.now in
    let old = c.args.times.now in
    let i = c.loop-c.c-index in
    let d : NodeCount = record { node = 0; visits = 0; own = 0; target = None; loads = 0 } in
    let T : List NodeCount → Type 0 = λ cs. AreTimesAdded old c.args.count cs c.add_to.new.times in
    subst T (sym (take_more nodes i d c.loop-c-test.true))
    (added_more old c.args.count (take i nodes) c.loop-c.times (get_or nodes i d) c.product.result c.add_to.new.times c.product.ensures c.loop-c.invariant c.add_to.ensures)
