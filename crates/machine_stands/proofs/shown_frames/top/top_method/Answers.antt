use Rattle.std.proofs.Common.{lit<, ◌≡◌, ◌∙◌}
use Rattle.machine_stands.proofs.ShownFramesLemmas.Known.{lies, there, within_list}
use Rattle.machine_stands.proofs.ShownFramesLemmas.Standing.{FrameLaws, method_place, of_top}
use Rattle.machine_stands.proofs.shown_frames.top.top_method.Goals as goal

pub on_chip-requires : goal.on_chip-requires
on_chip-requires g c =
    let laws : FrameLaws = record { room = c.frames_have_room.ensures.room; saved = c.frames_have_room.ensures.saved } in
    let r = c.requires in
    (lit< tt, method_place laws c.args.methods.now c.args.machine.now r.program r.places g.row.N r.memory r.state r.shows)

pub number_of-requires : goal.number_of-requires
number_of-requires g c =
    let r = c.requires in
    let st = r.shows.stands in
    there r.program r.places c.args.methods.now r.shows.methods_are st.top.method st.body st.is_body c.on_chip.result (c.on_chip.ensures ∙ st.registers.method)

pub returns-clause-method : goal.returns-clause-method
returns-clause-method g c = λ P pl n size s h.
    let laws : FrameLaws = record { room = c.frames_have_room.ensures.room; saved = c.frames_have_room.ensures.saved } in
    let st = h.stands in
    of_top laws c.args.methods.now c.args.machine.now P pl n size s h (λ f. f.method ≡ c.number_of.result)
    (c.number_of.ensures.alone st.top.method (lies P pl c.args.methods.now h.methods_are st.top.method st.body st.is_body c.on_chip.result (c.on_chip.ensures ∙ st.registers.method)))

pub returns-clause-known : goal.returns-clause-known
returns-clause-known g c = within_list c.args.methods.now c.number_of.result c.on_chip.result c.number_of.ensures.lies
