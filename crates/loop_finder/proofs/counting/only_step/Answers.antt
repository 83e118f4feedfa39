use Rattle.std.proofs.Common.{◌≡◌, ℕ, ℤ, w32, to_z, of_z, List, Option, Some, None, sym, ap, ◌∙◌, subst, arith}
use Rattle.std.proofs.lemmas.Int.{ints}
use Rattle.loop_acts.specs.declared.effects.Act.{Act}
use Rattle.loop_acts.specs.Acts.{act_at}
use Rattle.loop_acts.specs.Writing.{IsAlone, IsOnlyOf, IsWriterAmong}
use Rattle.loop_finder.specs.Counting.{Body, IsStepFound, IsAddedBy}
use Rattle.loop_acts.proofs.WriterLemmas.{found_only}
use Rattle.loop_finder.proofs.Writers.{no_step, other_act, one_step}
use Rattle.loop_finder.proofs.counting.only_step.Goals as goal

pub returns-in_err-place-clause-step : goal.returns-in_err-place-clause-step
returns-in_err-place-clause-step c k marks writers =
    let b = c.args.body.now in
    let acts : c.deref.result.now ≡ b.acts = c.deref.ensures.value ∙ ap (λ (x : Body). x.acts) c.body.view_is in
    let none = found_only b.acts k.nodes c.args.writers.now c.args.local writers None (subst (λ (xs : List Act). IsOnlyOf (IsWriterAmong xs c.args.writers.now c.args.local) None) acts c.in_err-place.ensures) in
    subst (λ (o : Option (ℕ × ℤ)). IsStepFound b k.header c.args.local o) (sym c.from_residual.ensures) (no_step b k c.args.local marks none)

pub returns-in_err-by-clause-step : goal.returns-in_err-by-clause-step
returns-in_err-by-clause-step c k marks writers =
    let b = c.args.body.now in
    let place = c.in_ok-place.place in
    let acts : c.deref.result.now ≡ b.acts = c.deref.ensures.value ∙ ap (λ (x : Body). x.acts) c.body.view_is in
    let one =
    found_only b.acts k.nodes c.args.writers.now c.args.local writers (Some place)
    (subst (λ (xs : List Act). IsAlone (IsWriterAmong xs c.args.writers.now c.args.local) place) acts c.in_ok-place.ensures) in
    let act : c.act_at.result ≡ act_at b.acts place =
    c.act_at.ensures ∙ ap (λ (xs : List Act). act_at xs place) (c.deref-2.ensures.value ∙ ap (λ (x : Body). x.acts) c.body.view_is) in
    subst (λ (o : Option (ℕ × ℤ)). IsStepFound b k.header c.args.local o) (sym c.from_residual-in_err-by.ensures)
    (other_act b k c.args.local marks place one (subst (λ (a : Act). IsAddedBy a c.args.local None) act c.in_err-by.ensures))

pub returns-clause-step : goal.returns-clause-step
returns-clause-step c k marks writers =
    let b = c.args.body.now in
    let place = c.in_ok-place.place in
    let acts : c.deref.result.now ≡ b.acts = c.deref.ensures.value ∙ ap (λ (x : Body). x.acts) c.body.view_is in
    let one =
    found_only b.acts k.nodes c.args.writers.now c.args.local writers (Some place)
    (subst (λ (xs : List Act). IsAlone (IsWriterAmong xs c.args.writers.now c.args.local) place) acts c.in_ok-place.ensures) in
    let act : c.act_at.result ≡ act_at b.acts place =
    c.act_at.ensures ∙ ap (λ (xs : List Act). act_at xs place) (c.deref-2.ensures.value ∙ ap (λ (x : Body). x.acts) c.body.view_is) in
    let by = c.in_ok-by.by in
    let same : to_z w32 (of_z w32 by) ≡ by = omega (arith, ints) in
    subst (λ (z : ℤ). IsStepFound b k.header c.args.local (Some (place, z))) (sym same)
    (one_step b k c.args.local marks place one by (subst (λ (a : Act). IsAddedBy a c.args.local (Some by)) act c.in_ok-by.ensures))

pub returns-clause-fit : goal.returns-clause-fit
returns-clause-fit c nodes writers =
    let b = c.args.body.now in
    let place = c.in_ok-place.place in
    let acts : c.deref.result.now ≡ b.acts = c.deref.ensures.value ∙ ap (λ (x : Body). x.acts) c.body.view_is in
    let one = subst (λ (xs : List Act). IsAlone (IsWriterAmong xs c.args.writers.now c.args.local) place) acts c.in_ok-place.ensures in
    let by : to_z w32 (of_z w32 c.in_ok-by.by) ≡ c.in_ok-by.by = omega (arith, ints) in
    let added = c.in_ok-by.ensures in
    (((writers c.args.local place).0 one.0).0, λ zero. added.1 (sym by ∙ zero))
