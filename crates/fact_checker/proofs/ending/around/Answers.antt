use Rattle.std.proofs.Common.{ℕ, ◌+◌, sym, ap₂, subst}
use Rattle.micro_flow.specs.Costs.{IsGreatestInvoke}
use Rattle.method_flow.specs.Costs.{params}
use Rattle.method_flow.specs.Flow.{Flow, IsFlowOf}
use Rattle.method_flow.specs.declared.timing.Timing.{Timing}
use Rattle.fact_rules.specs.Conditions.{IsCallersLoad}
use Rattle.fact_checker.proofs.ending.around.Goals as goal

pub returns-clause-around : goal.returns-clause-around
returns-clause-around c =
    λ P of.
    let F : Flow → Type 0 = λ f. IsFlowOf P f in
    let I : Timing → Type 0 = λ t. IsGreatestInvoke (params t 0 0) c.greatest_invoke.result in
    let L : Timing → Type 0 = λ t. IsCallersLoad P t.read c.args.root c.callers_load-back.result in
    record {
      invoke = c.greatest_invoke.result;
      is_invoke = subst I c.timing-t.ensures.timing c.greatest_invoke.ensures.greatest;
      back = c.callers_load-back.result;
      is_back = subst L c.timing-t.ensures.timing (c.callers_load-back.ensures.greatest P (subst F (sym c.flow.ensures.flow) of));
      is = ap₂ (λ (a b : ℕ). a + c.args.due + b) c.from.ensures c.from-2.ensures;
    }
