use Rattle.std.proofs.Common.{◌≡◌, Ok, IfErr, refl, sym, subst, ap, ◌∙◌, lit<, rules, arith}
use Rattle.std.specs.declared.result.Result.{Result}
use Rattle.device_traits.specs.declared.fault.DeviceFault.{DeviceFault}
use Rattle.jop_core.specs.declared.tick.Tick.{Tick}
use Rattle.jop_core.proofs.Failing.{err_is}
use Rattle.micro_sketch.specs.declared.step.Stepped.{Stepped}
use Rattle.micro_sketch.specs.Step.{Went}
use Rattle.micro_sketch.proofs.Stepping.{underway_none, underway_on, arrived, broke, same_after, clock_below, was_done, done_so}
use Rattle.micro_sketch.proofs.step.to_boundary.Goals as goal

pub loop-machine-init : goal.loop-machine-init
loop-machine-init g c = record { names = refl; far = underway_none _ _ c.requires.running }

pub cycle-requires : goal.cycle-requires
cycle-requires g c = (lit< tt, omega (arith, clock_below _ _ _ _ c.loop-machine.invariant.far c.requires.ends c.requires.clock))

pub returns-in_err-cycle-clause-went : goal.returns-in_err-cycle-clause-went
returns-in_err-cycle-clause-went g c =
    let old = c.args.machine.now in
    let mid = c.loop-machine.machine in
    let new = c.cycle.new.self in
    let t0 = g.D.Devices.told c.args.device.now in
    let t1 = g.D.Devices.told c.loop-machine.device in
    let t2 = g.D.Devices.told c.cycle.new.device in
    let fault = c.in_err-cycle.field-0.0 in
    let ticked = c.in_err-cycle.ensures.ticked in
    let same : IfErr c.from_residual.result (λ e. e ≡ fault) = search rules in
    let P : Result Stepped DeviceFault → Type 0 = λ r. Went old new t0 t2 r in
    subst P (sym (err_is c.from_residual.result fault c.from_residual.ensures.0 same))
    (broke old mid new t0 t1 t2 fault c.loop-machine.invariant.far (same_after mid new t1 t2 fault ticked) ticked)

pub returns-then-at_boundary-clause-went : goal.returns-then-at_boundary-clause-went
returns-then-at_boundary-clause-went g c =
    let far = c.loop-machine.invariant.far in
    let mid = c.loop-machine.machine in
    let new = c.cycle.new.self in
    let t1 = g.D.Devices.told c.loop-machine.device in
    let t2 = g.D.Devices.told c.cycle.new.device in
    let boundary = sym c.at_boundary.ensures ∙ c.if-at_boundary.true in
    (arrived c.args.machine.now mid new (g.D.Devices.told c.args.device.now) t1 t2 far (done_so mid new t1 t2 c.in_ok-cycle.field-0 far.running c.in_ok-cycle.ensures.ticked) boundary, c.boundary_of.ensures)

pub loop-machine-smaller : goal.loop-machine-smaller
loop-machine-smaller g c =
    let far = c.loop-machine.invariant.far in
    let below = clock_below _ _ _ _ far c.requires.ends c.requires.clock in
    let done = was_done c.loop-machine.machine c.cycle.new.self (g.D.Devices.told c.loop-machine.device) (g.D.Devices.told c.cycle.new.device) c.in_ok-cycle.field-0 far.running c.in_ok-cycle.ensures.ticked in
    let ok : Tick → Result Tick DeviceFault = λ tick. Ok tick in
    let later = c.in_ok-cycle.ensures.clock (ap ok done) in
    omega (arith, below, later)

pub loop-machine-preserved : goal.loop-machine-preserved
loop-machine-preserved g c =
    let far = c.loop-machine.invariant.far in
    let mid = c.loop-machine.machine in
    let new = c.cycle.new.self in
    let t1 = g.D.Devices.told c.loop-machine.device in
    let t2 = g.D.Devices.told c.cycle.new.device in
    let none = sym c.at_boundary.ensures ∙ c.if-at_boundary.false in
    let done = was_done mid new t1 t2 c.in_ok-cycle.field-0 far.running c.in_ok-cycle.ensures.ticked in
    let ok : Tick → Result Tick DeviceFault = λ tick. Ok tick in
    record {
      names = c.in_ok-cycle.ensures.names ∙ c.loop-machine.invariant.names;
      far = underway_on c.args.machine.now mid new (g.D.Devices.told c.args.device.now) t1 t2 far (done_so mid new t1 t2 c.in_ok-cycle.field-0 far.running c.in_ok-cycle.ensures.ticked) (c.in_ok-cycle.ensures.clock (ap ok done)) none;
    }
