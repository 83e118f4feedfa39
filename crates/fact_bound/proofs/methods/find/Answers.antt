use Rattle.std.proofs.Common.{subst}
use Rattle.std.specs.Prelude.{Option, IfSome}
use Rattle.bound_finder.specs.Known.{IsLimited}
use Rattle.fact_bound.specs.declared.methods.PricedMethod.{PricedMethod}
use Rattle.fact_bound.proofs.Tables.{table_set}
use Rattle.fact_bound.proofs.methods.find.Goals as goal

pub returns-in_ok-add-in-Some : goal.returns-in_ok-add-in-Some
returns-in_ok-add-in-Some c =
    let F : Option PricedMethod → Type 0 = λ o. IfSome o (λ f. IsLimited f.known) in
    let small = subst F c.in-Some.is c.in_ok-found.ensures in
    table_set c.args.task.now c.args.all.now.table.items c.add.new.all.table.items c.args.m c.in-Some.found.known c.in_ok-add-in-Some.ensures small c.requires
