use Rattle.class_hierarchy.proofs.CycleLemmas.{added_none, added_more, grows_none, grows_added}
use Rattle.class_hierarchy.proofs.cycles.add_each.Goals as goal

pub loop-number-init : goal.loop-number-init
loop-number-init c = (λ x. added_none c.args.found.now x, grows_none c.args.found.now)

pub loop-number-preserved : goal.loop-number-preserved
loop-number-preserved c = (
  λ x. added_more c.args.found.now c.args.numbers.now c.loop-number.found c.insert.new.self c.loop-number.number-index c.loop-number-test.true c.loop-number.invariant.0 c.in_ok-insert.ensures x,
  grows_added c.args.found.now c.loop-number.found c.insert.new.self _ c.in_ok-insert.ensures c.loop-number.invariant.1,
)
