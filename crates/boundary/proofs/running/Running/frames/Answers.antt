use Rattle.std.proofs.Common.{lit<, ◌≡◌}
use Rattle.std.specs.Prelude.{length}
use Rattle.bytecode_model.specs.State.{State}
use Rattle.boundary.specs.Meaning.{methods_of}
use Rattle.boundary.specs.Session.{Session}
use Rattle.boundary.proofs.Reading.{is_shown, each_state}
use Rattle.boundary.proofs.running.Running.frames.Goals as goal

pub frame_count-requires : goal.frame_count-requires
frame_count-requires g c =
    let r : Session = record { machine = c.self.inside.machine; methods = methods_of c.self.inside.methods; mode = c.self.inside.mode } in
    (lit< tt, is_shown c.fitting_states_are_well_formed.ensures c.stages_agree.ensures g.row.N r c.args.self.now c.self.view_is c.requires c.self.invariant c.as_slice.result.now c.as_slice.ensures)

pub returns : goal.returns
returns g c =
    let r : Session = record { machine = c.self.inside.machine; methods = methods_of c.self.inside.methods; mode = c.self.inside.mode } in
    each_state c.fitting_states_are_well_formed.ensures c.stages_agree.ensures g.row.N r c.args.self.now c.self.view_is c.requires c.self.invariant c.as_slice.result.now c.as_slice.ensures (λ (s : State). length s.frames ≡ c.frame_count.result) c.frame_count.ensures
