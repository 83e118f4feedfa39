use Rattle.std.proofs.Common.{sym, ◌∙◌}
use Rattle.bound_finder.proofs.Bounding.{to_bounds, to_cause, looked_up}
use Rattle.bound_finder.proofs.charges.loop_bounds.Goals as goal

pub returns-in-Ok-bounds_of_headers-clause-bounds : goal.returns-in-Ok-bounds_of_headers-clause-bounds
returns-in-Ok-bounds_of_headers-clause-bounds c =
    let task = c.args.task.now in
    let hs = c.deref-in-Ok-bounds_of_headers.result.now in
    let found = c.deref-in-Ok-bounds_of_headers-2.result.now in
    let value = c.deref-in-Ok-bounds_of_headers.ensures.value in
    let is =
    c.deref-in-Ok-bounds_of_headers-2.ensures.value ∙ looked_up task.flow c.flow.result.now task.bounds c.bounds.result.now c.args.m hs c.deref.result.now c.in-Ok-bounds_of_headers.found.items c.flow.ensures c.bounds.ensures
    (c.deref.ensures.value ∙ sym value) c.in-Ok-bounds_of_headers.ensures in
    to_bounds task.flow task.bounds c.args.m c.args.s.now hs found (value ∙ c.in-Ok.ensures) is (λ v. v.items) c.all_bounds.result c.all_bounds.ensures.bounds

pub returns-in-Ok-bounds_of_headers-clause-cause : goal.returns-in-Ok-bounds_of_headers-clause-cause
returns-in-Ok-bounds_of_headers-clause-cause c =
    let task = c.args.task.now in
    let hs = c.deref-in-Ok-bounds_of_headers.result.now in
    let found = c.deref-in-Ok-bounds_of_headers-2.result.now in
    let value = c.deref-in-Ok-bounds_of_headers.ensures.value in
    let is =
    c.deref-in-Ok-bounds_of_headers-2.ensures.value ∙ looked_up task.flow c.flow.result.now task.bounds c.bounds.result.now c.args.m hs c.deref.result.now c.in-Ok-bounds_of_headers.found.items c.flow.ensures c.bounds.ensures
    (c.deref.ensures.value ∙ sym value) c.in-Ok-bounds_of_headers.ensures in
    to_cause task.flow task.bounds c.args.m c.args.s.now hs found (value ∙ c.in-Ok.ensures) is c.all_bounds.result c.all_bounds.ensures.cause
