use Rattle.std.proofs.Common.{lit<, ◌+◌, arith}
use Rattle.machine_stands.proofs.ShownFramesLemmas.Known.{there}
use Rattle.machine_stands.proofs.ShownFramesLemmas.Standing.{FrameLaws, has_stack}
use Rattle.machine_stands.proofs.ShownFramesLemmas.Walking.{body_at, saved_within, is_called, saved_is, few_words}
use Rattle.machine_stands.proofs.shown_frames.frames.caller_of.Goals as goal

pub method_at-requires : goal.method_at-requires
method_at-requires g c =
    let laws : FrameLaws = record { room = c.frames_have_room.ensures.room; saved = c.frames_have_room.ensures.saved } in
    let r = c.requires.state in
    let (number, each) = c.requires.frame in
    let f = each r.program r.places g.row.N r.memory r.state r.shows in
    let (b, is, locals) = body_at laws r.program r.places c.args.machine.now r.state c.args.at number f in
    there r.program r.places c.args.methods.now r.shows.methods_are f.frame.method b is c.args.at.method f.method_at

pub overflow_add-saved : goal.overflow_add-saved
overflow_add-saved g c =
    let laws : FrameLaws = record { room = c.frames_have_room.ensures.room; saved = c.frames_have_room.ensures.saved } in
    let r = c.requires.state in
    let (number, each) = c.requires.frame in
    let f = each r.program r.places g.row.N r.memory r.state r.shows in
    let m = c.args.machine.now in
    let has = has_stack laws c.args.methods.now m r.program r.places g.row.N r.memory r.state r.shows in
    let is = saved_is laws c.args.methods.now m r.program r.places g.row.N r.memory r.state r.shows c.args.at number f c.method_at.result c.method_at.ensures in
    let within = saved_within laws r.program r.places m r.state c.args.at number f g.row.N has (c.args.at.locals + c.method_at.result.max_locals) is in
    omega (arith, within.1, has.high, few_words laws c.args.methods.now m r.program r.places g.row.N r.memory r.state r.shows)

pub overflow_add-saved-2 : goal.overflow_add-saved-2
overflow_add-saved-2 g c =
    let laws : FrameLaws = record { room = c.frames_have_room.ensures.room; saved = c.frames_have_room.ensures.saved } in
    let r = c.requires.state in
    let (number, each) = c.requires.frame in
    let f = each r.program r.places g.row.N r.memory r.state r.shows in
    let m = c.args.machine.now in
    let has = has_stack laws c.args.methods.now m r.program r.places g.row.N r.memory r.state r.shows in
    let is = saved_is laws c.args.methods.now m r.program r.places g.row.N r.memory r.state r.shows c.args.at number f c.method_at.result c.method_at.ensures in
    let within = saved_within laws r.program r.places m r.state c.args.at number f g.row.N has (c.args.at.locals + c.method_at.result.max_locals) is in
    omega (arith, within.1, has.high, few_words laws c.args.methods.now m r.program r.places g.row.N r.memory r.state r.shows)

pub overflow_add-saved-3 : goal.overflow_add-saved-3
overflow_add-saved-3 g c =
    let laws : FrameLaws = record { room = c.frames_have_room.ensures.room; saved = c.frames_have_room.ensures.saved } in
    let r = c.requires.state in
    let (number, each) = c.requires.frame in
    let f = each r.program r.places g.row.N r.memory r.state r.shows in
    let m = c.args.machine.now in
    let has = has_stack laws c.args.methods.now m r.program r.places g.row.N r.memory r.state r.shows in
    let is = saved_is laws c.args.methods.now m r.program r.places g.row.N r.memory r.state r.shows c.args.at number f c.method_at.result c.method_at.ensures in
    let within = saved_within laws r.program r.places m r.state c.args.at number f g.row.N has (c.args.at.locals + c.method_at.result.max_locals) is in
    omega (arith, within.1, has.high, few_words laws c.args.methods.now m r.program r.places g.row.N r.memory r.state r.shows)

pub stack_word-requires : goal.stack_word-requires
stack_word-requires g c =
    let laws : FrameLaws = record { room = c.frames_have_room.ensures.room; saved = c.frames_have_room.ensures.saved } in
    let r = c.requires.state in
    let (number, each) = c.requires.frame in
    let f = each r.program r.places g.row.N r.memory r.state r.shows in
    let m = c.args.machine.now in
    let has = has_stack laws c.args.methods.now m r.program r.places g.row.N r.memory r.state r.shows in
    let is = saved_is laws c.args.methods.now m r.program r.places g.row.N r.memory r.state r.shows c.args.at number f c.method_at.result c.method_at.ensures in
    let within = saved_within laws r.program r.places m r.state c.args.at number f g.row.N has (c.args.at.locals + c.method_at.result.max_locals) is in
    (lit< tt, (omega (arith, within.0), (omega (arith, within.1), has)))

pub stack_word-requires-2 : goal.stack_word-requires-2
stack_word-requires-2 g c =
    let laws : FrameLaws = record { room = c.frames_have_room.ensures.room; saved = c.frames_have_room.ensures.saved } in
    let r = c.requires.state in
    let (number, each) = c.requires.frame in
    let f = each r.program r.places g.row.N r.memory r.state r.shows in
    let m = c.args.machine.now in
    let has = has_stack laws c.args.methods.now m r.program r.places g.row.N r.memory r.state r.shows in
    let is = saved_is laws c.args.methods.now m r.program r.places g.row.N r.memory r.state r.shows c.args.at number f c.method_at.result c.method_at.ensures in
    let within = saved_within laws r.program r.places m r.state c.args.at number f g.row.N has (c.args.at.locals + c.method_at.result.max_locals) is in
    (lit< tt, (omega (arith, within.0), (omega (arith, within.1), has)))

pub returns-clause-caller : goal.returns-clause-caller
returns-clause-caller g c = λ number each P pl n size s h.
    let laws : FrameLaws = record { room = c.frames_have_room.ensures.room; saved = c.frames_have_room.ensures.saved } in
    let m = c.args.machine.now in
    let f = each P pl n size s h in
    let is = saved_is laws c.args.methods.now m P pl n size s h c.args.at number f c.method_at.result c.method_at.ensures in
    ((is_called laws P pl m s c.args.at number f c.requires.called (c.args.at.locals + c.method_at.result.max_locals) is).next (record { locals = c.stack_word.result; method = c.stack_word-2.result }) c.stack_word.ensures c.stack_word-2.ensures).0

pub returns-clause-lower : goal.returns-clause-lower
returns-clause-lower g c =
    let laws : FrameLaws = record { room = c.frames_have_room.ensures.room; saved = c.frames_have_room.ensures.saved } in
    let r = c.requires.state in
    let (number, each) = c.requires.frame in
    let f = each r.program r.places g.row.N r.memory r.state r.shows in
    let m = c.args.machine.now in
    let has = has_stack laws c.args.methods.now m r.program r.places g.row.N r.memory r.state r.shows in
    let is = saved_is laws c.args.methods.now m r.program r.places g.row.N r.memory r.state r.shows c.args.at number f c.method_at.result c.method_at.ensures in
    ((is_called laws r.program r.places m r.state c.args.at number f c.requires.called (c.args.at.locals + c.method_at.result.max_locals) is).next (record { locals = c.stack_word.result; method = c.stack_word-2.result }) c.stack_word.ensures c.stack_word-2.ensures).1
