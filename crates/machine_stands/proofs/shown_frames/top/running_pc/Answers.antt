use Rattle.std.proofs.Common.{◌≡◌, ◌-◌, arith}
use Rattle.machine_stands.proofs.ShownFramesLemmas.Standing.{FrameLaws, pc_running, of_top}
use Rattle.machine_stands.proofs.shown_frames.top.running_pc.Goals as goal

pub overflow_sub-result : goal.overflow_sub-result
overflow_sub-result g c =
    let laws : FrameLaws = record { room = c.frames_have_room.ensures.room; saved = c.frames_have_room.ensures.saved } in
    let r = c.requires.0 in
    let running = c.requires.1 in
    omega (arith, c.jpc.ensures, pc_running laws c.args.methods.now c.args.machine.now r.program r.places g.row.N r.memory r.state r.shows running)

pub returns : goal.returns
returns g c = λ P pl n size s h running.
    let laws : FrameLaws = record { room = c.frames_have_room.ensures.room; saved = c.frames_have_room.ensures.saved } in
    of_top laws c.args.methods.now c.args.machine.now P pl n size s h (λ f. f.pc ≡ c.jpc.result - 1)
    (omega (arith, c.jpc.ensures, pc_running laws c.args.methods.now c.args.machine.now P pl n size s h running))
