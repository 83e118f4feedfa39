use Rattle.std.proofs.Common.{refl, ap, sym, ◌∙◌, ℕ, Some}
use Rattle.boundary.specs.Meaning.{methods_of}
use Rattle.boundary.specs.Session.{Session}
use Rattle.boundary.proofs.Reading.{opcode_read, no_opcode, raise_so, not_raise}
use Rattle.boundary.proofs.running.Running.opcode.Goals as goal

pub returns-then-is_raise : goal.returns-then-is_raise
returns-then-is_raise g c =
    let r : Session = record { machine = c.self.inside.machine; methods = methods_of c.self.inside.methods; mode = c.self.inside.mode } in
    no_opcode c.fitting_states_are_well_formed.ensures c.stages_agree.ensures g.row.N r c.args.self.now c.self.view_is c.requires c.self.invariant r.methods refl (raise_so c.self.inside.mode c.is_raise.result c.is_raise.ensures c.if-is_raise.true)

pub returns : goal.returns
returns g c = λ h s is.
    let r : Session = record { machine = c.self.inside.machine; methods = methods_of c.self.inside.methods; mode = c.self.inside.mode } in
    opcode_read c.fitting_states_are_well_formed.ensures c.stages_agree.ensures g.row.N r c.args.self.now c.self.view_is c.requires c.self.invariant r.methods refl (not_raise c.self.inside.mode c.is_raise.result c.is_raise.ensures c.if-is_raise.false) h s is
    ∙ ap (λ (k : ℕ). Some k) (sym c.opcode.ensures)
