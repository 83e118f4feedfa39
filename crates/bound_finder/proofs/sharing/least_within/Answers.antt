use Rattle.std.proofs.Common.{ℕ, List, Option, sym, subst}
use Rattle.section_check.specs.Least.{IsLeast}
use Rattle.method_flow.specs.declared.flow.Call.{Call}
use Rattle.method_flow.specs.Flow.{Flow}
use Rattle.bound_finder.specs.Ending.{IsLargeWithin}
use Rattle.bound_finder.specs.Sharing.{IsBesideCalled}
use Rattle.bound_finder.proofs.Besides.{least_is}
use Rattle.bound_finder.proofs.sharing.least_within.Goals as goal

pub returns : goal.returns
returns c =
    λ P of called.
    let flow = c.args.task.now.flow in
    let table = c.args.table.now in
    let least = c.args.least.now in
    let m = c.args.m in
    let k = c.method.result.now in
    let beside = c.least_called-called.result in
    let O : Option ℕ → Type 0 = λ o. IsLeast (IsLargeWithin P table m) o in
    let F : Flow → Type 0 = λ f. IsLeast (IsBesideCalled f k.calls least) beside in
    let C : List Call → Type 0 = λ cs. IsLeast (IsBesideCalled c.flow-2.result.now cs least) beside in
    subst O (sym c.lesser_of.ensures)
    (least_is c.starts_follow_one_another.ensures c.rows_are_of_their_kinds.ensures P flow of m k c.method.ensures c.calls.ensures.whole table least called beside c.large_alone.result
    (subst F c.flow-2.ensures (subst C c.calls.ensures.calls c.least_called-called.ensures)) c.large_alone.ensures)
