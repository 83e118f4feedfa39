use Rattle.std.proofs.Common.{sym, subst}
use Rattle.bound_report.specs.declared.counts.MethodCounts.{MethodCounts}
use Rattle.bound_report.specs.Rows.{AreSmallRows}
use Rattle.bound_report.proofs.Rowing.{methods_more}
use Rattle.bound_report.proofs.rows.rows_of.Goals as goal

pub loop-k-preserved : goal.loop-k-preserved
loop-k-preserved c = λ small.
    let item = c.k-item.result in
    let i = c.loop-k.k-index in
    let lt = c.loop-k-test.true in
    let few = subst (λ (k : MethodCounts). AreSmallRows k) (sym c.k-item.is) (small i item lt) in
    methods_more c.args.ks.now i item item c.loop-k.rows.items c.add_rows.new.rows.items lt c.k-item.is (c.loop-k.invariant small) (c.in_ok-add_rows.ensures few)
