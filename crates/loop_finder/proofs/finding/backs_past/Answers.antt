use Rattle.std.proofs.Common.{ℕ, Bool, List, length, sym, ap, ◌∙◌, subst}
use Rattle.std.proofs.lemmas.Result.{IfOk-weaker}
use Rattle.loop_finder.specs.Skipping.{AreIdleFlags}
use Rattle.loop_finder.proofs.finding.backs_past.Goals as goal

pub backs-requires : goal.backs-requires
backs-requires c = ap length c.deref.ensures.value ∙ (c.in_ok-idle.ensures.long ∙ c.nodes.ensures.nodes)

pub returns : goal.returns
returns c =
    let flags = subst (λ (n : ℕ). AreIdleFlags c.args.acts.now n c.in_ok-idle.idle.items) c.nodes.ensures.nodes c.in_ok-idle.ensures in
    let here = subst (λ (fs : List Bool). AreIdleFlags c.args.acts.now c.args.routes.now.nodes fs) (sym c.deref.ensures.value) flags in
    IfOk-weaker c.backs.result _ _ (λ backs are. record { idle = c.deref.result.now; flags = here; are = are }) c.backs.ensures
