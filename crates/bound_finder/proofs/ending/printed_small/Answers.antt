use Rattle.std.proofs.Common.{ℕ, ◌<◌, Option, subst, rules}
use Rattle.std.specs.Prelude.{IfSome}
use Rattle.bytecode_model.specs.Program.{Program}
use Rattle.method_flow.specs.Costs.{IsPrintedOf}
use Rattle.method_flow.specs.Flow.{IsFlowOf}
use Rattle.compact_walks.specs.Limited.{cycles_limit}
use Rattle.bound_finder.specs.Ending.IsPastLimit.{printed as beyond_printed}
use Rattle.bound_finder.proofs.ending.printed_small.Goals as goal

pub returns-in-None-narrowed-clause-none : goal.returns-in-None-narrowed-clause-none
returns-in-None-narrowed-clause-none c =
    let set = c.args.task.now in
    let n = c.in-Some.n in
    let small : IfSome c.args.full (λ f. f < cycles_limit) = search rules in
    beyond_printed n small c.in-None-narrowed.ensures.none
    (let Q : Option ℕ → Type 0 = λ x. (P : Program) → IsFlowOf P set.flow → IsPrintedOf P set.timing c.args.full x in subst Q c.in-Some.is c.printed.ensures)
