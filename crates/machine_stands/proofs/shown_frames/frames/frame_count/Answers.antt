use Rattle.std.proofs.Common.{lit<, arith}
use Rattle.machine_stands.proofs.ShownFramesLemmas.Standing.{FrameLaws, has_stack, method_place}
use Rattle.machine_stands.proofs.ShownFramesLemmas.Walking.{few, ends, top_at, frames_few, few_words}
use Rattle.machine_stands.proofs.shown_frames.frames.frame_count.Goals as goal

pub on_chip-requires : goal.on_chip-requires
on_chip-requires g c =
    let laws : FrameLaws = record { room = c.frames_have_room.ensures.room; saved = c.frames_have_room.ensures.saved } in
    let r = c.requires in
    (lit< tt, method_place laws c.args.methods.now c.args.machine.now r.program r.places g.row.N r.memory r.state r.shows)

pub loop-at-init : goal.loop-at-init
loop-at-init g c = λ P pl n size s h.
    let laws : FrameLaws = record { room = c.frames_have_room.ensures.room; saved = c.frames_have_room.ensures.saved } in
    top_at laws c.args.methods.now c.args.machine.now P pl n size s h (record { locals = c.vp.result; method = c.on_chip.result }) c.vp.ensures c.on_chip.ensures

pub caller_of-at-requires : goal.caller_of-at-requires
caller_of-at-requires g c = (lit< tt, (c.requires, ((c.loop-at.count, c.loop-at.invariant), c.loop-at-test.true)))

pub overflow_add-count : goal.overflow_add-count
overflow_add-count g c =
    let laws : FrameLaws = record { room = c.frames_have_room.ensures.room; saved = c.frames_have_room.ensures.saved } in
    let r = c.requires in
    let m = c.args.machine.now in
    let has = has_stack laws c.args.methods.now m r.program r.places g.row.N r.memory r.state r.shows in
    let f = c.loop-at.invariant r.program r.places g.row.N r.memory r.state r.shows in
    omega (arith, few laws r.program r.places m r.state c.loop-at.at c.loop-at.count f g.row.N has, frames_few laws c.args.methods.now m r.program r.places g.row.N r.memory r.state r.shows, few_words laws c.args.methods.now m r.program r.places g.row.N r.memory r.state r.shows)

pub returns : goal.returns
returns g c = λ P pl n size s h.
    let laws : FrameLaws = record { room = c.frames_have_room.ensures.room; saved = c.frames_have_room.ensures.saved } in
    ends laws P pl c.args.machine.now s c.loop-at.at c.loop-at.count (c.loop-at.invariant P pl n size s h) c.loop-at-test.false

pub loop-at-preserved : goal.loop-at-preserved
loop-at-preserved g c = c.caller_of-at.ensures.caller c.loop-at.count c.loop-at.invariant
