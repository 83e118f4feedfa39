use Rattle.std.proofs.Common.{◌<◌, List, length, get_or, None, sym, ap, subst}
use Rattle.bound_report.specs.declared.counts.NodeCount.{NodeCount}
use Rattle.bound_report.specs.Rows.{HasSmallRow}
use Rattle.bound_report.proofs.Rowing.{rows_more}
use Rattle.bound_report.proofs.rows.add_rows.Goals as goal

pub loop-c-preserved : goal.loop-c-preserved
loop-c-preserved c = λ small.
    let k = c.args.k.now in
    let nodes = k.nodes.items in
    let read = c.deref-c-items.result.now in
    let i = c.loop-c.c-index in
    let d : NodeCount = record { node = 0; visits = 0; own = 0; target = None; loads = 0 } in
    let same = c.deref-c-items.ensures.value in
    let lt = subst (λ (cs : List NodeCount). i < length cs) same c.loop-c-test.true in
    let is = ap (λ (cs : List NodeCount). get_or cs i d) same in
    let few = subst (λ (x : NodeCount). HasSmallRow k x) (sym is) (small i d lt) in
    rows_more k nodes i (get_or read i d) d c.row_of.result c.args.rows.now.items c.loop-c.rows.items c.add_row.new.rows.items lt is (c.row_of.ensures few) (c.loop-c.invariant small) c.in_ok-add_row.ensures
