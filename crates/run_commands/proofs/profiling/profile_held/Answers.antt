use Rattle.std.proofs.Common.{List, length, None, sym, ◌∙◌, subst, inr}
use Rattle.class_pool.specs.declared.class.ClassFile.{ClassFile}
use Rattle.jop_core.specs.Reset.{linked_reset}
use Rattle.std.specs.declared.result.Result.{Result}
use Rattle.device_traits.specs.declared.fault.DeviceFault.{DeviceFault}
use Rattle.boundary.specs.declared.runs.RunEnd.{RunEnd}
use Rattle.run_devices.specs.Lent.{Lent, lent}
use Rattle.run_commands.specs.Run.{HasRisen}
use Rattle.run_commands.specs.LinkedRun.{HasClass}
use Rattle.endings.specs.Settings.{linked_setting}
use Rattle.run_commands.proofs.Followed.{class_of, rose}
use Rattle.run_commands.proofs.Profiled.{ran_profile}
use Rattle.run_commands.proofs.profiling.profile_held.Goals as goal

pub conclude-requires-clause-class : goal.conclude-requires-clause-class
conclude-requires-clause-class g c =
    let p = c.in-Ok-run_totals.ensures.profiles (length c.args.prepared.flow.methods) c.requires.fresh in
    let H : List ClassFile → Type 0 = λ cs. HasClass cs c.in-Ok-run_totals.followed.end in
    subst H (sym (c.program-program.ensures.program ∙ c.program.ensures.program))
    (class_of c.uncaught_classes_are_there.ensures c.args.linked.now.classes c.args.settings.now.stack p.config.memory (linked_reset c.args.settings.now.stack c.args.linked.now.laid.words p.config) c.args.settings.now.cycles _ _
    c.in-Ok-run_totals.followed p.profiles.ran)

pub conclude-requires-clause-rows : goal.conclude-requires-clause-rows
conclude-requires-clause-rows g c = (c.in-Ok-run_totals.ensures.profiles (length c.args.prepared.flow.methods) c.requires.fresh).profiles.rows_are.long

pub returns-in-Ok-run_totals-clause-profiles : goal.returns-in-Ok-run_totals-clause-profiles
returns-in-Ok-run_totals-clause-profiles g c = λ bounds_text is.
    inr
    (ran_profile c.args.settings.now c.args.linked.now bounds_text
    (lent (g.S.Source.left c.args.input.now) (g.S.Source.faults c.args.input.now) (g.O.Sink.held c.args.out.now) (g.O.Sink.faults c.args.out.now) None)
    (lent (g.S.Source.left c.run_totals.new.input) (g.S.Source.faults c.run_totals.new.input) (g.O.Sink.held c.conclude.new.out) (g.O.Sink.faults c.conclude.new.out) None)
    c.args.prepared c.program-program.result.now c.run_totals.new.totals.rows c.in-Ok-run_totals.followed c.conclude.result (c.program-program.ensures.program ∙ c.program.ensures.program) c.requires.codes c.requires.memory is
    (c.in-Ok-run_totals.ensures.profiles (length c.args.prepared.flow.methods) c.requires.fresh) c.conclude.ensures.puts)

pub returns-in-Ok-run_totals-clause-rose : goal.returns-in-Ok-run_totals-clause-rose
returns-in-Ok-run_totals-clause-rose g c =
    let p = c.in-Ok-run_totals.ensures.profiles (length c.args.prepared.flow.methods) c.requires.fresh in
    let old : Lent = lent (g.S.Source.left c.args.input.now) (g.S.Source.faults c.args.input.now) None 0 None in
    let new : Lent = lent (g.S.Source.left c.run_totals.new.input) (g.S.Source.faults c.run_totals.new.input) None 0 None in
    let risen =
    rose (linked_setting c.args.linked.now.classes c.args.settings.now.stack p.config.memory) (linked_reset c.args.settings.now.stack c.args.linked.now.laid.words p.config) c.args.settings.now.cycles old new c.in-Ok-run_totals.followed p.profiles.ran in
    let R : Result RunEnd DeviceFault → Type 0 = λ end. HasRisen end old new in
    c.conclude.ensures.rose (g.S.Source.faults c.args.input.now) (g.S.Source.faults c.run_totals.new.input) (λ is. subst R is risen)
