use Rattle.std.proofs.Common.{lit<, ◌≡◌, ℕ, ◌∙◌, length, sym, ap, arith, Some, None}
use Rattle.std.specs.declared.option.Option.{Option}
use Rattle.machine_stands.proofs.ShownFramesLemmas.Known.{of_method, there}
use Rattle.machine_stands.proofs.ShownFramesLemmas.Standing.{FrameLaws, method_place, code_is, pc_raising, byte_at, of_top}
use Rattle.machine_stands.proofs.shown_frames.top.raising_pc.Goals as goal

pub on_chip-requires : goal.on_chip-requires
on_chip-requires g c =
    let laws : FrameLaws = record { room = c.frames_have_room.ensures.room; saved = c.frames_have_room.ensures.saved } in
    let r = c.requires.0 in
    (lit< tt, method_place laws c.args.methods.now c.args.machine.now r.program r.places g.row.N r.memory r.state r.shows)

pub method_at-method-requires : goal.method_at-method-requires
method_at-method-requires g c =
    let r = c.requires.0 in
    let st = r.shows.stands in
    there r.program r.places c.args.methods.now r.shows.methods_are st.top.method st.body st.is_body c.on_chip.result (c.on_chip.ensures ∙ st.registers.method)

pub overflow_sub-jpc : goal.overflow_sub-jpc
overflow_sub-jpc g c =
    let laws : FrameLaws = record { room = c.frames_have_room.ensures.room; saved = c.frames_have_room.ensures.saved } in
    let r = c.requires.0 in
    omega (arith, c.jpc.ensures, (pc_raising laws c.args.methods.now c.args.machine.now r.program r.places g.row.N r.memory r.state r.shows c.requires.1 c.requires.2).0)

pub instruction_with-requires : goal.instruction_with-requires
instruction_with-requires g c =
    let laws : FrameLaws = record { room = c.frames_have_room.ensures.room; saved = c.frames_have_room.ensures.saved } in
    let r = c.requires.0 in
    let st = r.shows.stands in
    let known = of_method r.program r.places c.args.methods.now r.shows.methods_are st.top.method st.body st.is_body c.on_chip.result (c.on_chip.ensures ∙ st.registers.method) c.method_at-method.result c.method_at-method.ensures in
    let short = (code_is laws c.args.methods.now c.args.machine.now r.program r.places g.row.N r.memory r.state r.shows).short in
    omega (arith, short, ap length known.1)

pub unreachable-requires : goal.unreachable-requires
unreachable-requires g c =
    let laws : FrameLaws = record { room = c.frames_have_room.ensures.room; saved = c.frames_have_room.ensures.saved } in
    let r = c.requires.0 in
    let st = r.shows.stands in
    let known = of_method r.program r.places c.args.methods.now r.shows.methods_are st.top.method st.body st.is_body c.on_chip.result (c.on_chip.ensures ∙ st.registers.method) c.method_at-method.result c.method_at-method.ensures in
    let byte = byte_at laws c.args.methods.now c.args.machine.now r.program r.places g.row.N r.memory r.state r.shows c.jpc.result c.jpc.ensures c.method_at-method.result.code.now known.1 c.requires.1 c.requires.2 in
    let clash : ◌≡◌ {A = Option ℕ} None (Some st.top.pc) = sym c.in-None.is ∙ (c.instruction_with.ensures st.top.pc).1 byte in
    cc

pub returns : goal.returns
returns g c = λ P pl n size s h p raising.
    let laws : FrameLaws = record { room = c.frames_have_room.ensures.room; saved = c.frames_have_room.ensures.saved } in
    let st = h.stands in
    let known = of_method P pl c.args.methods.now h.methods_are st.top.method st.body st.is_body c.on_chip.result (c.on_chip.ensures ∙ st.registers.method) c.method_at-method.result c.method_at-method.ensures in
    let byte = byte_at laws c.args.methods.now c.args.machine.now P pl n size s h c.jpc.result c.jpc.ensures c.method_at-method.result.code.now known.1 p raising in
    let found : ◌≡◌ {A = Option ℕ} (Some c.in-Some.pc) (Some st.top.pc) = sym c.in-Some.is ∙ (c.instruction_with.ensures st.top.pc).1 byte in
    of_top laws c.args.methods.now c.args.machine.now P pl n size s h (λ f. f.pc ≡ c.in-Some.pc) (let e : st.top.pc ≡ c.in-Some.pc = cc in e)
