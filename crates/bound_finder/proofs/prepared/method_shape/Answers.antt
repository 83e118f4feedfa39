use Rattle.std.proofs.Common.{◌∙◌}
use Rattle.std.proofs.lemmas.Result.{IfOk-weaker}
use Rattle.call_regions.proofs.Sorting.{if_err}
use Rattle.bound_finder.proofs.Preparing.{count_is, shape_with, no_shape_with}
use Rattle.bound_finder.proofs.prepared.method_shape.Goals as goal

pub told_graph-requires : goal.told_graph-requires
told_graph-requires c = c.requires.told ∙ count_is c.args.task.now c.args.m c.method.result.now c.method.ensures

pub returns-in-Ok-clause-shape : goal.returns-in-Ok-clause-shape
returns-in-Ok-clause-shape c =
    IfOk-weaker c.shape_in.result _ _
    (λ s shape. shape_with c.args.task.now c.args.m c.args.told.now c.method.result.now c.in-Ok.graph s c.method.ensures c.in-Ok.ensures.graph c.in-Ok.ensures.nodes shape) c.shape_in.ensures.shape

pub returns-in-Ok-clause-cause : goal.returns-in-Ok-clause-cause
returns-in-Ok-clause-cause c =
    if_err c.shape_in.result _ _
    (λ e left. no_shape_with c.args.task.now c.args.m c.args.told.now c.method.result.now c.in-Ok.graph e c.method.ensures c.in-Ok.ensures.graph left) c.shape_in.ensures.cause
