use Rattle.std.proofs.Common.{◌≡◌, ℕ, false, nat_lt, ap, sym, subst, Some, IfErr, rules, ◌∙◌}
use Rattle.std.specs.declared.result.Result.{Result}
use Rattle.device_traits.specs.declared.fault.DeviceFault.{DeviceFault}
use Rattle.jop_core.specs.declared.halt.Halt.TheVariants.{Running}
use Rattle.jop_core.specs.declared.tick.Tick.{Tick}
use Rattle.jop_core.specs.State.{MachineState}
use Rattle.jop_core.specs.Ticked.{Ticked}
use Rattle.jop_core.specs.Cycle.{ran as runs}
use Rattle.jop_core.specs.Steps.{meaning}
use Rattle.jop_core.proofs.OneCycle.{cycle_of-here, output_of-here, asks_input-here, begun, asks-puts, Ticked-refused, Ticked-unread, Ticked-unseen, Ticked-went}
use Rattle.jop_core.proofs.Failing.{err_is}
use Rattle.jop_core.proofs.Kept.{ran_keeps}
use Rattle.jop_core.proofs.Pausing.{goes_on}
use Rattle.jop_core.proofs.machine.Machine.cycle.Goals as goal

pub returns-in_err-seen-clause-ticked : goal.returns-in_err-seen-clause-ticked
returns-in_err-seen-clause-ticked g c =
    let old = c.args.self.now in
    let fault = c.in_err-seen.field-0.0 in
    let on = goes_on c.self.inside.stall c.self.inside.halt (sym c.self.invariant.paused ∙ c.if-self.false) in
    let running : old.halt ≡ Running = sym (ap (λ (s : MachineState). s.halt) c.self.view_is) ∙ on.0 in
    let same : IfErr c.from_residual.result (λ e. e ≡ fault) = search rules in
    let P : Result Tick DeviceFault → Type 0 = λ r. Ticked old old (g.D.Devices.told c.args.device.now) (g.D.Devices.told c.seen-2.new.self) r in
    subst P (sym (err_is c.from_residual.result fault c.from_residual.ensures.0 same)) (Ticked-unseen old c.seen.result _ _ fault running c.seen.ensures c.in_err-seen.ensures.told)

pub returns-in_err-input-clause-ticked : goal.returns-in_err-input-clause-ticked
returns-in_err-input-clause-ticked g c =
    let old = c.args.self.now in
    let fault = c.in_err-input.field-0.0 in
    let m = Some (meaning c.step_at-step.result.now) in
    let on = goes_on c.self.inside.stall c.self.inside.halt (sym c.self.invariant.paused ∙ c.if-self.false) in
    let running : old.halt ≡ Running = sym (ap (λ (s : MachineState). s.halt) c.self.view_is) ∙ on.0 in
    let still : nat_lt 0 old.stall ≡ false = sym (ap (λ (s : MachineState). nat_lt 0 s.stall) c.self.view_is) ∙ on.1 in
    let at = ap (λ (s : MachineState). s.mpc) c.self.view_is in
    let asking = asks_input-here old c.self.inside.mpc m still at c.step_at-step.ensures.micro in
    let same : IfErr c.from_residual-in_err-input.result (λ e. e ≡ fault) = search rules in
    let P : Result Tick DeviceFault → Type 0 = λ r. Ticked old old (g.D.Devices.told c.args.device.now) (g.D.Devices.told c.ask_in.new.device) r in
    subst P (sym (err_is c.from_residual-in_err-input.result fault c.from_residual-in_err-input.ensures.0 same)) (Ticked-unread old _ c.seen.result _ _ _ fault running asking c.seen.ensures c.in_ok-seen.ensures.told.0 c.in_ok-seen.ensures.told.1 c.in_err-input.ensures.asked)

pub returns-in_err-put_out-clause-ticked : goal.returns-in_err-put_out-clause-ticked
returns-in_err-put_out-clause-ticked g c =
    let old = c.args.self.now in
    let fault = c.in_err-put_out.field-0.0 in
    let m = Some (meaning c.step_at-step.result.now) in
    let on = goes_on c.self.inside.stall c.self.inside.halt (sym c.self.invariant.paused ∙ c.if-self.false) in
    let running : old.halt ≡ Running = sym (ap (λ (s : MachineState). s.halt) c.self.view_is) ∙ on.0 in
    let still : nat_lt 0 old.stall ≡ false = sym (ap (λ (s : MachineState). nat_lt 0 s.stall) c.self.view_is) ∙ on.1 in
    let at = ap (λ (s : MachineState). s.mpc) c.self.view_is in
    let a_is = ap (λ (s : MachineState). s.a) c.self.view_is in
    let outputs = output_of-here old c.self.inside.mpc m c.self.inside.a still at c.step_at-step.ensures.micro a_is in
    let start = begun old c.seen.result _ _ _ _ _ c.seen.ensures c.in_ok-seen.ensures.told.0 c.in_ok-seen.ensures.told.1 c.in_ok-input.ensures.asked.0 c.in_ok-input.ensures.asked.1 in
    let same : IfErr c.from_residual-in_err-put_out.result (λ e. e ≡ fault) = search rules in
    let P : Result Tick DeviceFault → Type 0 = λ r. Ticked old old (g.D.Devices.told c.args.device.now) (g.D.Devices.told c.put_out.new.device) r in
    subst P (sym (err_is c.from_residual-in_err-put_out.result fault c.from_residual-in_err-put_out.ensures.0 same)) (Ticked-refused old _ _ _ _ _ _ fault running (asks-puts m c.self.inside.a) outputs start c.in_err-put_out.ensures.put)

pub returns-clause-ticked : goal.returns-clause-ticked
returns-clause-ticked g c =
    let old = c.args.self.now in
    let m = Some (meaning c.step_at-step.result.now) in
    let on = goes_on c.self.inside.stall c.self.inside.halt (sym c.self.invariant.paused ∙ c.if-self.false) in
    let running : old.halt ≡ Running = sym (ap (λ (s : MachineState). s.halt) c.self.view_is) ∙ on.0 in
    let still : nat_lt 0 old.stall ≡ false = sym (ap (λ (s : MachineState). nat_lt 0 s.stall) c.self.view_is) ∙ on.1 in
    let at = ap (λ (s : MachineState). s.mpc) c.self.view_is in
    let a_is = ap (λ (s : MachineState). s.a) c.self.view_is in
    let put = c.in_ok-put_out.ensures.put in
    let outputs = output_of-here old c.self.inside.mpc m c.self.inside.a still at c.step_at-step.ensures.micro a_is in
    let asking = asks_input-here old c.self.inside.mpc m still at c.step_at-step.ensures.micro in
    let ran = cycle_of-here old c.self.inside.mpc m c.in_ok-input.input still at c.step_at-step.ensures.micro in
    let after = ap (λ (s : MachineState). runs c.in_ok-input.input m s) c.count.ensures in
    let start = begun old c.seen.result _ _ _ _ _ c.seen.ensures c.in_ok-seen.ensures.told.0 c.in_ok-seen.ensures.told.1 c.in_ok-input.ensures.asked.0 c.in_ok-input.ensures.asked.1 in
    Ticked-went old c.run.new.self c.in_ok-input.input _ _ _ _ _ running (c.run.ensures ∙ after ∙ sym ran) asking outputs start put.0 put.1

pub returns-clause-clock : goal.returns-clause-clock
returns-clause-clock g c = λ went.
    let clock_of : MachineState → ℕ = λ s. s.clock in
    ap clock_of c.run.ensures ∙ (ran_keeps c.in_ok-input.input (Some (meaning c.step_at-step.result.now)) c.count.new.self).clock ∙ ap clock_of c.count.ensures
