use Rattle.std.proofs.Common.{lit<, arith, sym, ap, ◌∙◌, subst}
use Rattle.boundary.specs.Meaning.{methods_of}
use Rattle.boundary.specs.Session.{Session}
use Rattle.boundary.specs.Advances.{StepsAll, PassesTime}
use Rattle.boundary.proofs.Keeping.{going_step, at_step, keeps_on}
use Rattle.boundary.proofs.Lasting.{passes_time}
use Rattle.boundary.proofs.running.Running.bytecode.Goals as goal

pub go_on-answer-requires : goal.go_on-answer-requires
go_on-answer-requires g c =
    let r : Session = record { machine = c.self.inside.machine; methods = methods_of c.self.inside.methods; mode = c.self.inside.mode } in
    let going = sym c.goes_on.ensures ∙ c.if-goes_on.true in
    let here = going_step g.row.N r r.mode going c.self.invariant in (
      lit< tt,
      (
        at_step g.row.N r going here,
        omega (arith, c.requires.clock, ap (λ (r : Session). r.machine.clock) c.self.view_is),
      ),
    )

pub invariant_of-self : goal.invariant_of-self
invariant_of-self g c =
    let r : Session = record { machine = c.self.inside.machine; methods = methods_of c.self.inside.methods; mode = c.self.inside.mode } in
    let here = going_step g.row.N r r.mode (sym c.goes_on.ensures ∙ c.if-goes_on.true) c.self.invariant in
    let steps = c.go_on-answer.ensures.steps here.setting here.state here.is_setting here.stands in
    keeps_on c.cycles_keep.ensures g.row.N r here c.go_on-answer.new.machine (g.D.Devices.told c.args.device.now) (g.D.Devices.told c.go_on-answer.new.device) c.go_on-answer.result steps

pub returns-then-goes_on-clause-steps : goal.returns-then-goes_on-clause-steps
returns-then-goes_on-clause-steps g c = λ going.
    let S : Session → Type 0 = λ r. StepsAll r.machine c.go_on-answer.new.machine (g.D.Devices.told c.args.device.now) (g.D.Devices.told c.go_on-answer.new.device) c.go_on-answer.result in
    subst S c.self.view_is c.go_on-answer.ensures.steps

pub returns-then-goes_on-clause-time : goal.returns-then-goes_on-clause-time
returns-then-goes_on-clause-time g c = λ going.
    let r : Session = record { machine = c.self.inside.machine; methods = methods_of c.self.inside.methods; mode = c.self.inside.mode } in
    let here = going_step g.row.N r r.mode (sym c.goes_on.ensures ∙ c.if-goes_on.true) c.self.invariant in
    let steps = c.go_on-answer.ensures.steps here.setting here.state here.is_setting here.stands in
    let T : Session → Type 0 = λ r. PassesTime r.machine c.go_on-answer.new.machine c.go_on-answer.result in
    subst T c.self.view_is (passes_time c.cycles_keep.ensures here.setting here.state r.machine c.go_on-answer.new.machine (g.D.Devices.told c.args.device.now) (g.D.Devices.told c.go_on-answer.new.device) c.go_on-answer.result steps)
