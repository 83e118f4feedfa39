use Rattle.memory_bound.proofs.Heaping.{if_ok_as}
use Rattle.memory_bound.proofs.Shaping.{if_err_as, left_of}
use Rattle.memory_bound.proofs.shapes.shape_of.Goals as goal

pub returns-in-Ok-clause-form : goal.returns-in-Ok-clause-form
returns-in-Ok-clause-form c = let r = c.in-Ok.ensures.compact in if_ok_as c.compact_shape.result _ _ c.compact_shape.ensures.shape (λ s h. (r.0, h r.0 r.1))

pub returns-in-Ok-clause-shape : goal.returns-in-Ok-clause-shape
returns-in-Ok-clause-shape c =
    let r = c.in-Ok.ensures.compact in
    if_ok_as c.compact_shape.result _ _ c.compact_shape.ensures.shape (λ s h P n coded. record { graph = r.0; is_graph = r.2 P n coded; shape = h r.0 r.1 })

pub returns-in-Ok-clause-cause : goal.returns-in-Ok-clause-cause
returns-in-Ok-clause-cause c =
    let r = c.in-Ok.ensures.compact in
    if_err_as c.compact_shape.result _ _ c.compact_shape.ensures.cause (λ e left P n coded. left_of P n r.0 (r.2 P n coded) e (left r.0 r.1))
