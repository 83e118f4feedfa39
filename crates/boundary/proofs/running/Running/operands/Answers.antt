use Rattle.std.proofs.Common.{lit<, ◌≡◌, refl}
use Rattle.std.specs.Prelude.{sum_by}
use Rattle.bytecode_model.specs.Sizes.{value_words}
use Rattle.bytecode_model.specs.State.{Frame}
use Rattle.boundary.specs.Meaning.{methods_of}
use Rattle.boundary.specs.Session.{Session}
use Rattle.boundary.proofs.Reading.{running_state, each_running, none_left, raise_so, not_raise}
use Rattle.boundary.proofs.running.Running.operands.Goals as goal

pub operand_words-requires : goal.operand_words-requires
operand_words-requires g c =
    let r : Session = record { machine = c.self.inside.machine; methods = methods_of c.self.inside.methods; mode = c.self.inside.mode } in
    (lit< tt, running_state c.fitting_states_are_well_formed.ensures c.stages_agree.ensures g.row.N r c.args.self.now c.self.view_is c.requires c.self.invariant c.as_slice.result.now c.as_slice.ensures (not_raise c.self.inside.mode c.is_raise.result c.is_raise.ensures c.if-is_raise.false))

pub returns-then-is_raise : goal.returns-then-is_raise
returns-then-is_raise g c =
    let r : Session = record { machine = c.self.inside.machine; methods = methods_of c.self.inside.methods; mode = c.self.inside.mode } in
    none_left c.fitting_states_are_well_formed.ensures c.stages_agree.ensures g.row.N r c.args.self.now c.self.view_is c.requires c.self.invariant r.methods refl (raise_so c.self.inside.mode c.is_raise.result c.is_raise.ensures c.if-is_raise.true)

pub returns : goal.returns
returns g c =
    let r : Session = record { machine = c.self.inside.machine; methods = methods_of c.self.inside.methods; mode = c.self.inside.mode } in
    each_running c.fitting_states_are_well_formed.ensures c.stages_agree.ensures g.row.N r c.args.self.now c.self.view_is c.requires c.self.invariant c.as_slice.result.now c.as_slice.ensures (not_raise c.self.inside.mode c.is_raise.result c.is_raise.ensures c.if-is_raise.false) (λ (f : Frame). sum_by value_words f.operands ≡ c.operand_words.result) c.operand_words.ensures
