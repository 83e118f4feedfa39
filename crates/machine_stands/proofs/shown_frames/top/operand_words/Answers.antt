use Rattle.std.proofs.Common.{lit<, ◌≡◌, ◌-◌, ◌∙◌, arith}
use Rattle.std.specs.Prelude.{sum_by}
use Rattle.bytecode_model.specs.Sizes.{value_words}
use Rattle.machine_stands.proofs.ShownFramesLemmas.Known.{of_method, there}
use Rattle.machine_stands.proofs.ShownFramesLemmas.Standing.{FrameLaws, method_place, operands_over, of_top}
use Rattle.machine_stands.proofs.shown_frames.top.operand_words.Goals as goal

pub on_chip-requires : goal.on_chip-requires
on_chip-requires g c =
    let laws : FrameLaws = record { room = c.frames_have_room.ensures.room; saved = c.frames_have_room.ensures.saved } in
    let r = c.requires.0 in
    (lit< tt, method_place laws c.args.methods.now c.args.machine.now r.program r.places g.row.N r.memory r.state r.shows)

pub method_at-method-requires : goal.method_at-method-requires
method_at-method-requires g c =
    let r = c.requires.0 in
    let st = r.shows.stands in
    there r.program r.places c.args.methods.now r.shows.methods_are st.top.method st.body st.is_body c.on_chip.result (c.on_chip.ensures ∙ st.registers.method)

pub overflow_sub-result : goal.overflow_sub-result
overflow_sub-result g c =
    let laws : FrameLaws = record { room = c.frames_have_room.ensures.room; saved = c.frames_have_room.ensures.saved } in
    let r = c.requires.0 in
    let st = r.shows.stands in
    let known = of_method r.program r.places c.args.methods.now r.shows.methods_are st.top.method st.body st.is_body c.on_chip.result (c.on_chip.ensures ∙ st.registers.method) c.method_at-method.result c.method_at-method.ensures in
    let over = operands_over laws c.args.methods.now c.args.machine.now r.program r.places g.row.N r.memory r.state r.shows (c.requires.1) in
    omega (arith, over, known.0, c.sp.ensures, c.vp.ensures)

pub overflow_sub-result-2 : goal.overflow_sub-result-2
overflow_sub-result-2 g c =
    let laws : FrameLaws = record { room = c.frames_have_room.ensures.room; saved = c.frames_have_room.ensures.saved } in
    let r = c.requires.0 in
    let st = r.shows.stands in
    let known = of_method r.program r.places c.args.methods.now r.shows.methods_are st.top.method st.body st.is_body c.on_chip.result (c.on_chip.ensures ∙ st.registers.method) c.method_at-method.result c.method_at-method.ensures in
    let over = operands_over laws c.args.methods.now c.args.machine.now r.program r.places g.row.N r.memory r.state r.shows (c.requires.1) in
    omega (arith, over, known.0, c.sp.ensures, c.vp.ensures)

pub overflow_sub-result-3 : goal.overflow_sub-result-3
overflow_sub-result-3 g c =
    let laws : FrameLaws = record { room = c.frames_have_room.ensures.room; saved = c.frames_have_room.ensures.saved } in
    let r = c.requires.0 in
    let st = r.shows.stands in
    let known = of_method r.program r.places c.args.methods.now r.shows.methods_are st.top.method st.body st.is_body c.on_chip.result (c.on_chip.ensures ∙ st.registers.method) c.method_at-method.result c.method_at-method.ensures in
    let over = operands_over laws c.args.methods.now c.args.machine.now r.program r.places g.row.N r.memory r.state r.shows (c.requires.1) in
    omega (arith, over, known.0, c.sp.ensures, c.vp.ensures)

pub returns : goal.returns
returns g c = λ P pl n size s h running.
    let laws : FrameLaws = record { room = c.frames_have_room.ensures.room; saved = c.frames_have_room.ensures.saved } in
    let st = h.stands in
    let known = of_method P pl c.args.methods.now h.methods_are st.top.method st.body st.is_body c.on_chip.result (c.on_chip.ensures ∙ st.registers.method) c.method_at-method.result c.method_at-method.ensures in
    let over = operands_over laws c.args.methods.now c.args.machine.now P pl n size s h running in
    of_top laws c.args.methods.now c.args.machine.now P pl n size s h (λ f. sum_by value_words f.operands ≡ c.sp.result - c.vp.result - c.method_at-method.result.max_locals - 2)
    (omega (arith, over, known.0, c.sp.ensures, c.vp.ensures))
