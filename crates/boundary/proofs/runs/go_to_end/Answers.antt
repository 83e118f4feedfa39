use Rattle.std.proofs.Common.{◌≡◌, refl, ap, sym, subst, ◌∙◌, IfErr, rules, arith}
use Rattle.std.specs.declared.result.Result.{Result}
use Rattle.device_traits.specs.declared.fault.DeviceFault.{DeviceFault}
use Rattle.jop_core.specs.State as machine
use Rattle.jop_core.proofs.Failing.{err_is}
use Rattle.boundary.specs.declared.runs.RunEnd.{RunEnd}
use Rattle.boundary.specs.Runs.{RunsAll, RunsTo}
use Rattle.boundary.proofs.Whole.{goes_from, mode_goes, state_goes, far_none, far_on, far_ended, far_uncaught, far_broken, far_spent}
use Rattle.boundary.proofs.runs.go_to_end.Goals as goal

pub loop-running-init : goal.loop-running-init
loop-running-init g c =
    let mode = c.args.running.now.mode in
    record {
      names = refl;
      methods = refl;
      mode = mode_goes mode c.requires.going;
      far = λ h s is st.
          far_none c.runs_add_up.ensures c.cycles_keep.ensures h c.args.limit (record { machine = c.args.running.now.machine; state = s }) (g.D.Devices.told c.args.device.now) st
          (state_goes mode c.mode-mode.result c.requires.going c.mode-mode.ensures.is c.args.running.now.machine c.mode-mode.ensures.all h s is st);
    }

pub loop-running-preserved : goal.loop-running-preserved
loop-running-preserved g c =
    let inv = c.loop-running.invariant in
    let mode = c.bytecode.new.self.mode in
    record {
      names = c.bytecode.ensures.names ∙ inv.names;
      methods = c.bytecode.ensures.methods ∙ inv.methods;
      mode = mode_goes mode (goes_from mode c.in_ok-bytecode.field-0 (c.bytecode.ensures.mode ∙ c.in_ok-bytecode.was) c.in-Bytecode.is);
      far = λ h s is st.
          far_on c.runs_add_up.ensures c.cycles_keep.ensures h c.args.limit (record { machine = c.args.running.now.machine; state = s }) c.loop-running.running.machine c.bytecode.new.self.machine (g.D.Devices.told c.args.device.now) (g.D.Devices.told c.loop-running.device) (g.D.Devices.told c.bytecode.new.device) (c.loop-running.invariant.far h s is st)
          (omega (arith, c.loop-running-test.true, c.clock.ensures, ap (λ (m : machine.MachineState). m.clock) c.machine.ensures)) c.in_ok-bytecode.field-0 c.in-Bytecode.is (λ t stands. c.in_ok-bytecode.ensures.steps inv.mode h t is stands);
    }

pub returns-in_err-bytecode-clause-runs : goal.returns-in_err-bytecode-clause-runs
unfolding RunsAll
returns-in_err-bytecode-clause-runs g c = λ h s is st.
    let fault = c.in_err-bytecode.field-0.0 in
    let same : IfErr c.from_residual.result (λ e. e ≡ fault) = search rules in
    let P : Result RunEnd DeviceFault → Type 0 = λ r. RunsTo h c.args.limit (record { machine = c.args.running.now.machine; state = s }) c.bytecode.new.self.machine (g.D.Devices.told c.args.device.now) (g.D.Devices.told c.bytecode.new.device) r in
    subst P (sym (err_is c.from_residual.result fault c.from_residual.ensures.0 same))
    (far_broken c.runs_add_up.ensures c.cycles_keep.ensures h c.args.limit (record { machine = c.args.running.now.machine; state = s }) c.loop-running.running.machine c.bytecode.new.self.machine (g.D.Devices.told c.args.device.now) (g.D.Devices.told c.loop-running.device) (g.D.Devices.told c.bytecode.new.device) (c.loop-running.invariant.far h s is st)
    (omega (arith, c.loop-running-test.true, c.clock.ensures, ap (λ (m : machine.MachineState). m.clock) c.machine.ensures)) fault (λ t stands. c.in_err-bytecode.ensures.steps c.loop-running.invariant.mode h t is stands))

pub returns-in-Halted-clause-runs : goal.returns-in-Halted-clause-runs
unfolding RunsAll
returns-in-Halted-clause-runs g c = λ h s is st.
    far_ended c.runs_add_up.ensures c.cycles_keep.ensures h c.args.limit (record { machine = c.args.running.now.machine; state = s }) c.loop-running.running.machine c.bytecode.new.self.machine (g.D.Devices.told c.args.device.now) (g.D.Devices.told c.loop-running.device) (g.D.Devices.told c.bytecode.new.device) (c.loop-running.invariant.far h s is st)
    (omega (arith, c.loop-running-test.true, c.clock.ensures, ap (λ (m : machine.MachineState). m.clock) c.machine.ensures)) c.in_ok-bytecode.field-0 c.in-Halted.is (λ t stands. c.in_ok-bytecode.ensures.steps c.loop-running.invariant.mode h t is stands)

pub returns-in-Uncaught-clause-runs : goal.returns-in-Uncaught-clause-runs
unfolding RunsAll
returns-in-Uncaught-clause-runs g c = λ h s is st.
    far_uncaught c.runs_add_up.ensures c.cycles_keep.ensures h c.args.limit (record { machine = c.args.running.now.machine; state = s }) c.loop-running.running.machine c.bytecode.new.self.machine (g.D.Devices.told c.args.device.now) (g.D.Devices.told c.loop-running.device) (g.D.Devices.told c.bytecode.new.device) (c.loop-running.invariant.far h s is st)
    (omega (arith, c.loop-running-test.true, c.clock.ensures, ap (λ (m : machine.MachineState). m.clock) c.machine.ensures)) c.in_ok-bytecode.field-0 c.in-Uncaught.class c.in-Uncaught.is (λ t stands. c.in_ok-bytecode.ensures.steps c.loop-running.invariant.mode h t is stands)

pub returns-clause-runs : goal.returns-clause-runs
unfolding RunsAll
returns-clause-runs g c = λ h s is st.
    far_spent h c.args.limit (record { machine = c.args.running.now.machine; state = s }) c.loop-running.running.machine (g.D.Devices.told c.args.device.now) (g.D.Devices.told c.loop-running.device) (c.loop-running.invariant.far h s is st) (omega (arith, c.loop-running-test.false, c.clock.ensures, ap (λ (m : machine.MachineState). m.clock) c.machine.ensures))
