use Rattle.std.proofs.Common.{List, subst}
use Rattle.bound_report.specs.declared.counts.NodeCount.{NodeCount}
use Rattle.bound_report.specs.Adding.{AreTimesAdded}
use Rattle.bound_report.proofs.times.count_next.Goals as goal

pub returns-clause-counted : goal.returns-clause-counted
returns-clause-counted c =
    let k = c.in_ok-counts.counts in
    let T : List NodeCount → Type 0 = λ ns. AreTimesAdded c.args.times.now k.times ns c.add_times.new.times in
    record { counts = k; are = c.in_ok-counts.ensures.counts; added = c.in-Ok.ensures; times_added = subst T c.deref.ensures.value c.add_times.ensures }
