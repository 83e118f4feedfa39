use Rattle.std.proofs.Common.{lit<, ◌≡◌}
use Rattle.std.specs.Prelude.{IsSomeAnd}
use Rattle.bytecode_model.specs.State.{Frame, State}
use Rattle.machine_stands.specs.ShownFrames.Shows.{top_frame}
use Rattle.boundary.specs.Meaning.{methods_of}
use Rattle.boundary.specs.Session.{Session}
use Rattle.boundary.proofs.Reading.{is_shown, each_state}
use Rattle.boundary.proofs.running.Running.method.Goals as goal

pub top_method-requires : goal.top_method-requires
top_method-requires g c =
    let r : Session = record { machine = c.self.inside.machine; methods = methods_of c.self.inside.methods; mode = c.self.inside.mode } in
    (lit< tt, is_shown c.fitting_states_are_well_formed.ensures c.stages_agree.ensures g.row.N r c.args.self.now c.self.view_is c.requires c.self.invariant c.as_slice.result.now c.as_slice.ensures)

pub returns-clause-method : goal.returns-clause-method
returns-clause-method g c =
    let r : Session = record { machine = c.self.inside.machine; methods = methods_of c.self.inside.methods; mode = c.self.inside.mode } in
    each_state c.fitting_states_are_well_formed.ensures c.stages_agree.ensures g.row.N r c.args.self.now c.self.view_is c.requires c.self.invariant c.as_slice.result.now c.as_slice.ensures (λ (s : State). IsSomeAnd (top_frame s.frames) (λ (f : Frame). f.method ≡ c.top_method.result)) c.top_method.ensures.method
