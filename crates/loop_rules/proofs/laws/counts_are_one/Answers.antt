-- Each of the two is the least number.
use Rattle.std.proofs.Common.{◌≤◌, arith}
use Rattle.loop_rules.proofs.laws.counts_are_one.Goals as goal

pub returns-clause-counts : goal.returns-clause-counts
returns-clause-counts c P constants m g h n other a b = let below : n ≤ other = a.least other b.counts in let above : other ≤ n = b.least n a.counts in omega arith
