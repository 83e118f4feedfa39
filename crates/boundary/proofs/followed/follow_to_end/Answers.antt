use Rattle.std.proofs.Common.{◌≡◌, List, Ok, refl, sym, subst, ap, ◌∙◌, IfErr, rules, arith}
use Rattle.std.specs.declared.result.Result.{Result}
use Rattle.device_traits.specs.declared.fault.DeviceFault.{DeviceFault}
use Rattle.image_facts.specs.declared.method.CodedMethod.{CodedMethod}
use Rattle.image_facts.specs.Methods.{AreMethods}
use Rattle.jop_core.specs.State as machine
use Rattle.jop_core.proofs.Failing.{err_is}
use Rattle.boundary.specs.Followed.{FollowsAll, FollowsTo}
use Rattle.boundary.specs.declared.runs.RunEnd.{RunEnd}
use Rattle.boundary.specs.declared.runs.RunEnd.TheVariants as ends
use Rattle.boundary.proofs.Whole.{goes_from, mode_goes, state_goes}
use Rattle.boundary.proofs.Following.{none_followed, followed_on, followed_ended, followed_uncaught, followed_spent, to_end, to_fault, all_run}
use Rattle.boundary.proofs.followed.follow_to_end.Goals as goal

pub loop-top-init : goal.loop-top-init
loop-top-init g c =
    let r = c.args.running.now in
    record {
      names = refl;
      methods = refl;
      mode = mode_goes r.mode c.requires.going;
      far = λ h s is st.
          none_followed g.F.Follower.after c.runs_add_up.ensures c.cycles_keep.ensures h c.args.limit (record { machine = r.machine; state = s }) (AreMethods h.program h.places r.methods) c.args.follower.now (g.D.Devices.told c.args.device.now) c.here.result c.at.new.self c.top_frame-top.result c.at.ensures st
          (state_goes r.mode c.mode-mode.result c.requires.going c.mode-mode.ensures.is r.machine c.mode-mode.ensures.all h s is st)
          (λ known. c.top_frame-top.ensures h s (record { is_setting = is; methods_are = known; stands = st }))
          (λ known top. c.here.ensures.state h s (record { is_setting = is; methods_are = known; stands = st }) top) c.here.ensures.small;
    }

pub loop-top-preserved : goal.loop-top-preserved
loop-top-preserved g c =
    let inv = c.loop-top.invariant in
    let mode = c.bytecode.new.self.mode in
    let same : c.bytecode.new.self.methods ≡ c.args.running.now.methods = c.bytecode.ensures.methods ∙ inv.methods in
    record {
      names = c.bytecode.ensures.names ∙ inv.names;
      methods = same;
      mode = mode_goes mode (goes_from mode c.in_ok-bytecode.field-0 (c.bytecode.ensures.mode ∙ c.in_ok-bytecode.was) c.in-Bytecode.is);
      far = λ h s is st.
          let known_now : AreMethods h.program h.places c.args.running.now.methods → AreMethods h.program h.places c.bytecode.new.self.methods =
          λ known. subst (λ (ms : List CodedMethod). AreMethods h.program h.places ms) (sym same) known in
          let last = inv.far h s is st in
          followed_on g.F.Follower.after c.runs_add_up.ensures c.cycles_keep.ensures h c.args.limit (record { machine = c.args.running.now.machine; state = s }) (AreMethods h.program h.places c.args.running.now.methods) c.args.follower.now c.loop-top.running.machine c.bytecode.new.self.machine (g.D.Devices.told c.args.device.now) (g.D.Devices.told c.loop-top.device) (g.D.Devices.told c.bytecode.new.device) c.loop-top.follower last.far (omega (arith, c.loop-top-test.true, c.clock.ensures, ap (λ (m : machine.MachineState). m.clock) c.machine.ensures)) c.in_ok-bytecode.field-0 c.hand_on-top.new.follower c.hand_on-top.result c.in-Bytecode.is (λ t stands. c.in_ok-bytecode.ensures.steps inv.mode h t is stands)
          (λ b known b_is follows stands. c.hand_on-top.ensures.top h last.far.run.last b is (known_now known) b_is follows stands (last.top_is known))
          (λ b known b_is follows stands. c.hand_on-top.ensures.hands h last.far.run.last b is (known_now known) b_is follows stands (last.top_is known) (last.handed known))
          c.hand_on-top.ensures.small;
    }

pub returns-in_err-bytecode-clause-follows : goal.returns-in_err-bytecode-clause-follows
unfolding FollowsAll
returns-in_err-bytecode-clause-follows g c = λ h s is st.
    let fault = c.in_err-bytecode.field-0.0 in
    let same : IfErr c.from_residual.result (λ e. e ≡ fault) = search rules in
    let P : Result RunEnd DeviceFault → Type 0 = λ r. FollowsTo g.F.Follower.after h c.args.limit c.args.running.now s c.bytecode.new.self.machine (g.D.Devices.told c.args.device.now) (g.D.Devices.told c.bytecode.new.device) c.args.follower.now c.loop-top.follower r in
    subst P (sym (err_is c.from_residual.result fault c.from_residual.ensures.0 same))
    (to_fault g.F.Follower.after h c.args.limit c.args.running.now s c.loop-top.running.machine (g.D.Devices.told c.args.device.now) (g.D.Devices.told c.loop-top.device) c.args.follower.now c.loop-top.follower c.bytecode.new.self.machine (g.D.Devices.told c.bytecode.new.device)
    (c.loop-top.invariant.far h s is st).far (omega (arith, c.loop-top-test.true, c.clock.ensures, ap (λ (m : machine.MachineState). m.clock) c.machine.ensures)) fault (λ t stands. c.in_err-bytecode.ensures.steps c.loop-top.invariant.mode h t is stands))

pub returns-in_err-bytecode-clause-runs : goal.returns-in_err-bytecode-clause-runs
returns-in_err-bytecode-clause-runs g c =
    all_run g.F.Follower.after c.args.limit c.args.running.now c.bytecode.new.self.machine (g.D.Devices.told c.args.device.now) (g.D.Devices.told c.bytecode.new.device) c.args.follower.now c.loop-top.follower c.from_residual.result (returns-in_err-bytecode-clause-follows g c)

pub returns-in-Halted-clause-follows : goal.returns-in-Halted-clause-follows
unfolding FollowsAll
returns-in-Halted-clause-follows g c = λ h s is st.
    to_end g.F.Follower.after h c.args.limit c.args.running.now s c.bytecode.new.self.machine (g.D.Devices.told c.args.device.now) (g.D.Devices.told c.bytecode.new.device) c.args.follower.now c.loop-top.follower ends.Ended
    (followed_ended g.F.Follower.after c.runs_add_up.ensures c.cycles_keep.ensures h c.args.limit (record { machine = c.args.running.now.machine; state = s }) (AreMethods h.program h.places c.args.running.now.methods) c.args.follower.now c.loop-top.running.machine c.bytecode.new.self.machine (g.D.Devices.told c.args.device.now) (g.D.Devices.told c.loop-top.device) (g.D.Devices.told c.bytecode.new.device) c.loop-top.follower (c.loop-top.invariant.far h s is st).far (omega (arith, c.loop-top-test.true, c.clock.ensures, ap (λ (m : machine.MachineState). m.clock) c.machine.ensures)) c.in_ok-bytecode.field-0 c.in-Halted.is (λ t stands. c.in_ok-bytecode.ensures.steps c.loop-top.invariant.mode h t is stands))

pub returns-in-Halted-clause-runs : goal.returns-in-Halted-clause-runs
returns-in-Halted-clause-runs g c =
    all_run g.F.Follower.after c.args.limit c.args.running.now c.bytecode.new.self.machine (g.D.Devices.told c.args.device.now) (g.D.Devices.told c.bytecode.new.device) c.args.follower.now c.loop-top.follower (Ok ends.Ended) (returns-in-Halted-clause-follows g c)

pub returns-in-Uncaught-clause-follows : goal.returns-in-Uncaught-clause-follows
unfolding FollowsAll
returns-in-Uncaught-clause-follows g c = λ h s is st.
    to_end g.F.Follower.after h c.args.limit c.args.running.now s c.bytecode.new.self.machine (g.D.Devices.told c.args.device.now) (g.D.Devices.told c.bytecode.new.device) c.args.follower.now c.loop-top.follower (ends.Uncaught c.in-Uncaught.class)
    (followed_uncaught g.F.Follower.after c.runs_add_up.ensures c.cycles_keep.ensures h c.args.limit (record { machine = c.args.running.now.machine; state = s }) (AreMethods h.program h.places c.args.running.now.methods) c.args.follower.now c.loop-top.running.machine c.bytecode.new.self.machine (g.D.Devices.told c.args.device.now) (g.D.Devices.told c.loop-top.device) (g.D.Devices.told c.bytecode.new.device) c.loop-top.follower (c.loop-top.invariant.far h s is st).far (omega (arith, c.loop-top-test.true, c.clock.ensures, ap (λ (m : machine.MachineState). m.clock) c.machine.ensures)) c.in_ok-bytecode.field-0 c.in-Uncaught.class c.in-Uncaught.is (λ t stands. c.in_ok-bytecode.ensures.steps c.loop-top.invariant.mode h t is stands))

pub returns-in-Uncaught-clause-runs : goal.returns-in-Uncaught-clause-runs
returns-in-Uncaught-clause-runs g c =
    all_run g.F.Follower.after c.args.limit c.args.running.now c.bytecode.new.self.machine (g.D.Devices.told c.args.device.now) (g.D.Devices.told c.bytecode.new.device) c.args.follower.now c.loop-top.follower (Ok (ends.Uncaught c.in-Uncaught.class)) (returns-in-Uncaught-clause-follows g c)

pub returns-clause-follows : goal.returns-clause-follows
unfolding FollowsAll
returns-clause-follows g c = λ h s is st.
    to_end g.F.Follower.after h c.args.limit c.args.running.now s c.loop-top.running.machine (g.D.Devices.told c.args.device.now) (g.D.Devices.told c.loop-top.device) c.args.follower.now c.loop-top.follower ends.Spent
    (followed_spent g.F.Follower.after c.runs_add_up.ensures c.cycles_keep.ensures h c.args.limit (record { machine = c.args.running.now.machine; state = s }) (AreMethods h.program h.places c.args.running.now.methods) c.args.follower.now c.loop-top.running.machine (g.D.Devices.told c.args.device.now) (g.D.Devices.told c.loop-top.device) c.loop-top.follower (c.loop-top.invariant.far h s is st).far
    (omega (arith, c.loop-top-test.false, c.clock.ensures, ap (λ (m : machine.MachineState). m.clock) c.machine.ensures)))

pub returns-clause-runs : goal.returns-clause-runs
returns-clause-runs g c =
    all_run g.F.Follower.after c.args.limit c.args.running.now c.loop-top.running.machine (g.D.Devices.told c.args.device.now) (g.D.Devices.told c.loop-top.device) c.args.follower.now c.loop-top.follower (Ok ends.Spent) (returns-clause-follows g c)
