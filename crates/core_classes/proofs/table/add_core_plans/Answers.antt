use Rattle.core_classes.specs.Core.{error_plans}
use Rattle.core_classes.proofs.TableLemmas.{all_added}
use Rattle.core_classes.proofs.table.add_core_plans.Goals as goal

pub returns : goal.returns
unfolding error_plans
returns c =
    all_added _ _ _ _ _ _ c.in_ok-push.ensures.items c.in_ok-append.ensures.items c.in_ok-add_first_plans.ensures c.in_ok-io_plan.ensures c.in_ok-plans_of.ensures
