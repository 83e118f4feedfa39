use Rattle.std.proofs.Common.{List, None, sym, ◌∙◌, ap, subst, inr}
use Rattle.class_pool.specs.declared.class.ClassFile.{ClassFile}
use Rattle.jop_core.specs.Reset.{linked_reset}
use Rattle.run_devices.specs.Lent.{Lent, lent}
use Rattle.run_follower.specs.declared.watch.slots.Slots.{Slots}
use Rattle.endings.specs.Leaving.{Leaves}
use Rattle.run_commands.specs.LinkedRun.{HasClass}
use Rattle.run_commands.specs.LinkedFile.{SaysEnd}
use Rattle.run_commands.proofs.Followed.{class_of}
use Rattle.run_commands.proofs.Said.{said_done}
use Rattle.run_commands.specs.Cycling.{with_slots}
use Rattle.run_commands.proofs.Cycled.{cycles_so, leaves_with}
use Rattle.run_commands.proofs.cycling.cycle_held.Goals as goal

pub said-requires-clause-class : goal.said-requires-clause-class
said-requires-clause-class g c =
    let f = c.in-Ok-follow_lent.followed in
    let h = c.in-Ok-follow_lent.ensures.follows in
    let H : List ClassFile → Type 0 = λ cs. HasClass cs f.end in
    subst H (sym (c.program-program.ensures.program ∙ c.program.ensures.program))
    (class_of c.uncaught_classes_are_there.ensures c.args.linked.now.classes c.args.settings.now.stack h.config.memory (linked_reset c.args.settings.now.stack c.args.linked.now.laid.words h.config) c.args.settings.now.cycles _ _ f h.follows.ran)

pub returns-in-Ok-follow_lent-clause-cycles : goal.returns-in-Ok-follow_lent-clause-cycles
returns-in-Ok-follow_lent-clause-cycles g c = λ slots counter.
    let f = c.in-Ok-follow_lent.followed in
    let old : Lent = lent (g.S.Source.left c.args.input.now) (g.S.Source.faults c.args.input.now) (g.O.Sink.held c.args.out.now) (g.O.Sink.faults c.args.out.now) None in
    let new : Lent = lent (g.S.Source.left c.follow_lent.new.input) (g.S.Source.faults c.follow_lent.new.input) (g.O.Sink.held c.follow_lent.new.out) (g.O.Sink.faults c.follow_lent.new.out) None in
    let P : List ClassFile → Type 0 = λ cs. SaysEnd cs f.end f.counts c.said.result in
    inr (record {
      codes = c.requires.codes;
      memory = c.requires.memory;
      numbers = c.follow_lent.new.follower.slots;
      followed = f;
      ran = cycles_so c.runs_are_in_a_row.ensures c.seen_are_within.ensures c.slots_are_exact.ensures c.args.settings.now c.args.linked.now slots old new c.args.counter c.follow_lent.new.follower counter f c.in-Ok-follow_lent.ensures.follows;
      end = c.said.result;
      says = subst P (c.program-program.ensures.program ∙ c.program.ensures.program) c.said.ensures;
      ending_is = c.with_slots.ensures ∙ ap (λ (n : Slots). with_slots n c.said.result) c.slots.ensures;
    })

pub returns-in-Ok-follow_lent-clause-leaves : goal.returns-in-Ok-follow_lent-clause-leaves
returns-in-Ok-follow_lent-clause-leaves g c = λ leaves.
    let f = c.in-Ok-follow_lent.followed in
    absurd (said_done c.program-program.result.now f.end f.counts c.said.result c.said.ensures (leaves_with c.slots.result c.said.result (subst Leaves c.with_slots.ensures leaves)))
