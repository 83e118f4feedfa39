use Rattle.std.proofs.Common.{ℕ, subst}
use Rattle.std.proofs.lemmas.Result.{IfOk-weaker}
use Rattle.bytecode_model.specs.Program.{Program}
use Rattle.method_flow.specs.declared.timing.Timing.{Timing}
use Rattle.method_flow.specs.Flow.{Flow, IsCodedOf, IsFlow}
use Rattle.node_costs.specs.Costs.{AreOwnCosts}
use Rattle.cert_checker.proofs.Preparing.{limit_kept, prepared_by, summaries_at}
use Rattle.cert_checker.proofs.prepared.prepare.Goals as goal

pub with_summaries-requires-clause-small : goal.with_summaries-requires-clause-small
with_summaries-requires-clause-small c =
    let set = c.args.task.now in
    let earlier = c.args.values.now.valued in
    let s = c.args.s.now in
    let k = c.method-m.result.now in
    let own = c.in_ok-own.own.items in
    limit_kept set earlier s own k.calls c.deref-2.result.now c.in_ok-own.ensures.small
    (summaries_at set earlier s k own c.deref.result.now c.in_ok-summaries.summaries.items c.deref-2.result.now c.method-m.ensures c.deref.ensures.value c.deref-2.ensures.value c.in_ok-summaries.ensures)

pub returns-clause-prepared : goal.returns-clause-prepared
returns-clause-prepared c =
    let set = c.args.task.now in
    let earlier = c.args.values.now.valued in
    let s = c.args.s.now in
    let k = c.method-m.result.now in
    let own = c.in_ok-own.own.items in
    let are = summaries_at set earlier s k own c.deref.result.now c.in_ok-summaries.summaries.items c.deref-2.result.now c.method-m.ensures c.deref.ensures.value c.deref-2.ensures.value c.in_ok-summaries.ensures in
    let F : Flow → Type 0 = λ f. IsFlow f in
    let T : Timing → Type 0 = λ t. (P : Program) (n : ℕ) → IsCodedOf P n k → AreOwnCosts P t n k.code own in
    let form = subst F c.flow.ensures.flow c.method_count.ensures.form in
    let owned = subst T c.timing.ensures.timing c.in_ok-own.ensures.costs in
    IfOk-weaker c.with_summaries.result _ _
    (λ p h. prepared_by c.starts_follow_one_another.ensures c.rows_are_of_their_kinds.ensures set earlier s k own c.deref-2.result.now p c.flow.ensures.form form c.calls.ensures.whole c.method-m.ensures owned are h)
    c.with_summaries.ensures.prepared
