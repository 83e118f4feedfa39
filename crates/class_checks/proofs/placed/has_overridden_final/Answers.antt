use Rattle.std.proofs.Common.{◌<◌, List, length, sym, ◌∙◌, subst}
use Rattle.class_pool.specs.declared.class.Member.{Member}
use Rattle.class_checks.proofs.FinalLemmas.{method_passes, method_more, none_is_final}
use Rattle.class_checks.proofs.placed.has_overridden_final.Goals as goal

pub returns-then-not-has_final : goal.returns-then-not-has_final
returns-then-not-has_final c = none_is_final c.args.classes.now c.args.class c.deref.result.now c.if-not-has_final.ensures (c.deref.ensures.value ∙ c.in_ok-chain.ensures)

pub returns-then-branch : goal.returns-then-branch
returns-then-branch c =
    method_passes c.args.classes.now c.args.class c.loop-index.index c.class.result.now c.class.ensures
    (subst (λ (ms : List Member). c.loop-index.index < length ms) c.as_slice-count.ensures c.loop-index-test.true) (sym c.in_ok-overrides_final.ensures ∙ c.if-branch.true)

pub loop-index-preserved : goal.loop-index-preserved
loop-index-preserved c = method_more c.args.classes.now c.args.class c.loop-index.index c.loop-index.invariant (sym c.in_ok-overrides_final.ensures ∙ c.if-branch.false)
