use Rattle.std.proofs.Common.{◌≡◌, ℕ, ◌/◌, List, sym, ap, ◌∙◌, subst, arith}
use Rattle.loop_acts.specs.declared.effects.Act.{Act}
use Rattle.loop_acts.specs.Acts.{act_at}
use Rattle.loop_marks.specs.Reach.{flag_at}
use Rattle.loop_finder.specs.Counting.{Body, IsOnlyStep}
use Rattle.loop_finder.proofs.Adding.{step_local}
use Rattle.loop_finder.proofs.beginning.stepped_at.Goals as goal

pub returns-then-node-eq1 : goal.returns-then-node-eq1
returns-then-node-eq1 c are writers local s =
    let odd = c.if-node-eq1.true in
    let even = s.2 in
    absurd (let bad : ⊥ = omega arith in bad)

pub returns-then-is_inner : goal.returns-then-is_inner
returns-then-is_inner c are writers local s =
    let k = c.args.marks.now in
    let flag : c.is_inner.result ≡ flag_at k.inner c.args.node = c.is_inner.ensures ∙ ap (λ (n : ℕ). flag_at k.inner n) c.from.ensures in
    let n = (are.inner c.args.node).0 (sym flag ∙ c.if-is_inner.true) in
    absurd (n.differs (s.4.once n.other n.header n.member n.within))

pub returns-in_err-only_step-in-Step : goal.returns-in_err-only_step-in-Step
returns-in_err-only_step-in-Step c are writers local s =
    let b = c.args.body.now in
    let h = c.args.marks.now.header in
    let even = s.2 in
    let half : c.args.node / 2 ≡ s.0 = omega arith in
    let act =
    c.in-Step.ensures
    ∙ (ap (λ (xs : List Act). act_at xs (c.args.node / 2)) (c.deref.ensures.value ∙ ap (λ (x : Body). x.acts) c.body.view_is) ∙ ap (act_at b.acts) half) in
    let same : c.in-Step.local ≡ local = step_local (act_at b.acts s.0) c.in-Step.local local c.in-Step.field-1 s.1 act s.3.is in
    absurd (c.in_err-only_step-in-Step.ensures.step c.args.marks.now are writers s.0 s.1 (subst (λ (i : ℕ). IsOnlyStep b h i s.0 s.1) (sym same) s.3))
