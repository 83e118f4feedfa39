use Rattle.std.proofs.Common.{ap, length, ◌∙◌}
use Rattle.method_flow.specs.Flow.{Flow}
use Rattle.fact_bound.proofs.Tables.{none_table}
use Rattle.fact_bound.proofs.methods.examine_all.Goals as goal

pub loop-m-init : goal.loop-m-init
loop-m-init c =
    none_table c.args.task.now c.in_ok-all.all.table.items c.method_count-methods.result c.in_ok-all.ensures
    (c.method_count-methods.ensures.count ∙ ap (λ (f : Flow). length f.methods) c.flow.ensures)
