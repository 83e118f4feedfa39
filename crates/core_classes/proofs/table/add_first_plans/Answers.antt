use Rattle.core_classes.proofs.TableLemmas.{first_added}
use Rattle.core_classes.proofs.table.add_first_plans.Goals as goal

pub returns : goal.returns
returns c =
    first_added _ _ _ _ _ _ _ _ _ _ _ c.in_ok-push.ensures.items c.in_ok-push-2.ensures.items c.in_ok-push-3.ensures.items c.in_ok-push-4.ensures.items c.in_ok-push-5.ensures.items
    c.in_ok-object_plan.ensures c.in_ok-interface_plan.ensures c.in_ok-interface_plan-2.ensures c.in_ok-string_plan.ensures c.in_ok-throwable_plan.ensures
