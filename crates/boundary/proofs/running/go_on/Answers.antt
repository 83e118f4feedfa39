use Rattle.std.proofs.Common.{◌≡◌, lit<, Some, None, IfErr, sym, subst, rules}
use Rattle.std.specs.declared.result.Result.{Result}
use Rattle.device_traits.specs.declared.fault.DeviceFault.{DeviceFault}
use Rattle.jop_core.proofs.Failing.{err_is}
use Rattle.micro_sketch.specs.declared.step.Stepped.{Stepped}
use Rattle.micro_sketch.specs.Step.{StandsAs}
use Rattle.boundary.specs.declared.answer.Boundary.{Boundary}
use Rattle.boundary.specs.Advances.{StepsTo}
use Rattle.boundary.proofs.Stages.{stage_runs}
use Rattle.boundary.proofs.Advancing.{next_reached, raise_reached, end_reached, has_ended, call_failed}
use Rattle.boundary.proofs.running.go_on.Goals as goal

pub to_boundary-requires : goal.to_boundary-requires
to_boundary-requires g c = (lit< tt, (stage_runs c.args.machine.now c.requires.stands, (c.requires.clock, c.stages_end_soon.ensures c.args.machine.now c.requires.stands)))

pub returns-in_err-to_boundary-clause-steps : goal.returns-in_err-to_boundary-clause-steps
returns-in_err-to_boundary-clause-steps g c = λ setting s is st.
    let fault = c.in_err-to_boundary.field-0.0 in
    let same : IfErr c.from_residual.result (λ e. e ≡ fault) = search rules in
    let new = c.to_boundary.new.machine in
    let t0 = g.D.Devices.told c.args.device.now in
    let t1 = g.D.Devices.told c.to_boundary.new.device in
    let P : Result Boundary DeviceFault → Type 0 = λ r. StepsTo setting s c.args.machine.now new t0 t1 r in
    subst P (sym (err_is c.from_residual.result fault c.from_residual.ensures.0 same))
    (call_failed c.stages_advance.ensures c.stages_agree.ensures c.runs_add_up.ensures c.entries_are_reached_by_dispatch.ensures.apart c.args.machine.now c.requires.stands setting s is st fault new t0 t1 c.in_err-to_boundary.ensures.went)

pub returns-in-Next-clause-steps : goal.returns-in-Next-clause-steps
returns-in-Next-clause-steps g c = λ setting s is st.
    let went = c.in_ok-to_boundary.ensures.went in
    let stands = subst (λ (b : Stepped). StandsAs c.to_boundary.new.machine b) c.in-Next.is went.1 in
    next_reached c.stages_advance.ensures c.stages_agree.ensures c.runs_add_up.ensures c.entries_are_reached_by_dispatch.ensures.apart c.args.machine.now c.requires.stands setting s is st
    c.to_boundary.new.machine (g.D.Devices.told c.args.device.now) (g.D.Devices.told c.to_boundary.new.device) went.0 stands.0 stands.2

pub returns-in-Raise-clause-steps : goal.returns-in-Raise-clause-steps
returns-in-Raise-clause-steps g c = λ setting s is st.
    let went = c.in_ok-to_boundary.ensures.went in
    let stands = subst (λ (b : Stepped). StandsAs c.to_boundary.new.machine b) c.in-Raise.is went.1 in
    raise_reached c.stages_advance.ensures c.stages_agree.ensures c.runs_add_up.ensures c.entries_are_reached_by_dispatch.ensures.apart c.args.machine.now c.requires.stands setting s is st
    c.to_boundary.new.machine (g.D.Devices.told c.args.device.now) (g.D.Devices.told c.to_boundary.new.device) went.0 stands.0 stands.1

pub class_uncaught-requires : goal.class_uncaught-requires
class_uncaught-requires g c =
    let here = c.requires.stands in
    let went = c.in_ok-to_boundary.ensures.went in
    let halted = subst (λ (b : Stepped). StandsAs c.to_boundary.new.machine b) c.in-Halted.is went.1 in (
      lit< tt,
      has_ended c.stages_advance.ensures c.stages_agree.ensures c.runs_add_up.ensures c.entries_are_reached_by_dispatch.ensures.apart c.args.machine.now c.requires.stands here.setting here.state here.is_setting here.stands
          c.to_boundary.new.machine (g.D.Devices.told c.args.device.now) (g.D.Devices.told c.to_boundary.new.device) went.0 halted,
    )

pub returns-in-None-clause-steps : goal.returns-in-None-clause-steps
returns-in-None-clause-steps g c = λ setting s is st.
    end_reached c.stages_advance.ensures c.stages_agree.ensures c.runs_add_up.ensures c.entries_are_reached_by_dispatch.ensures.apart c.args.machine.now c.requires.stands setting s is st
    c.to_boundary.new.machine (g.D.Devices.told c.args.device.now) (g.D.Devices.told c.to_boundary.new.device) None c.in_ok-to_boundary.ensures.went.0 c.in-None.ensures

pub returns-in-Some-clause-steps : goal.returns-in-Some-clause-steps
returns-in-Some-clause-steps g c = λ setting s is st.
    end_reached c.stages_advance.ensures c.stages_agree.ensures c.runs_add_up.ensures c.entries_are_reached_by_dispatch.ensures.apart c.args.machine.now c.requires.stands setting s is st
    c.to_boundary.new.machine (g.D.Devices.told c.args.device.now) (g.D.Devices.told c.to_boundary.new.device) (Some c.in-Some.class) c.in_ok-to_boundary.ensures.went.0 c.in-Some.ensures
