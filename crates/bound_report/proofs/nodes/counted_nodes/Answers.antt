use Rattle.bound_report.proofs.Listing.{counted_more}
use Rattle.bound_report.proofs.nodes.counted_nodes.Goals as goal

pub loop-i-preserved : goal.loop-i-preserved
loop-i-preserved c =
    counted_more c.args.own.now c.args.callees.now c.args.nodes.now c.args.visits.now c.loop-i.i c.count_at.result c.loop-i.counted.items c.push.new.self.items c.loop-i-test.true c.requires c.count_at.ensures c.loop-i.invariant c.in_ok-push.ensures.items
