use Rattle.std.proofs.Common.{lit<, ◌≡◌}
use Rattle.bytecode_model.specs.State.{Frame}
use Rattle.boundary.specs.Meaning.{methods_of}
use Rattle.boundary.specs.Session.{Session}
use Rattle.boundary.proofs.Reading.{running_state, each_running, raising_state, each_raising, raise_so, not_raise}
use Rattle.boundary.proofs.running.Running.pc.Goals as goal

pub raised_pc-requires : goal.raised_pc-requires
raised_pc-requires g c =
    let r : Session = record { machine = c.self.inside.machine; methods = methods_of c.self.inside.methods; mode = c.self.inside.mode } in
    (lit< tt, raising_state c.fitting_states_are_well_formed.ensures c.stages_agree.ensures g.row.N r c.args.self.now c.self.view_is c.requires c.self.invariant c.as_slice.result.now c.as_slice.ensures (raise_so c.self.inside.mode c.is_raise.result c.is_raise.ensures c.if-is_raise.true))

pub running_pc-requires : goal.running_pc-requires
running_pc-requires g c =
    let r : Session = record { machine = c.self.inside.machine; methods = methods_of c.self.inside.methods; mode = c.self.inside.mode } in
    (lit< tt, running_state c.fitting_states_are_well_formed.ensures c.stages_agree.ensures g.row.N r c.args.self.now c.self.view_is c.requires c.self.invariant c.as_slice-2.result.now c.as_slice-2.ensures (not_raise c.self.inside.mode c.is_raise.result c.is_raise.ensures c.if-is_raise.false))

pub returns-then-is_raise : goal.returns-then-is_raise
returns-then-is_raise g c =
    let r : Session = record { machine = c.self.inside.machine; methods = methods_of c.self.inside.methods; mode = c.self.inside.mode } in
    each_raising c.fitting_states_are_well_formed.ensures c.stages_agree.ensures g.row.N r c.args.self.now c.self.view_is c.requires c.self.invariant c.as_slice.result.now c.as_slice.ensures (raise_so c.self.inside.mode c.is_raise.result c.is_raise.ensures c.if-is_raise.true) (λ (f : Frame). f.pc ≡ c.raised_pc.result) c.raised_pc.ensures

pub returns : goal.returns
returns g c =
    let r : Session = record { machine = c.self.inside.machine; methods = methods_of c.self.inside.methods; mode = c.self.inside.mode } in
    each_running c.fitting_states_are_well_formed.ensures c.stages_agree.ensures g.row.N r c.args.self.now c.self.view_is c.requires c.self.invariant c.as_slice-2.result.now c.as_slice-2.ensures (not_raise c.self.inside.mode c.is_raise.result c.is_raise.ensures c.if-is_raise.false) (λ (f : Frame). f.pc ≡ c.running_pc.result) c.running_pc.ensures
