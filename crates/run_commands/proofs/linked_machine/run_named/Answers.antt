use Rattle.std.proofs.Common.{List, IfOk, sym, subst}
use Rattle.class_pool.specs.declared.class.ClassFile.{ClassFile}
use Rattle.image_facts.specs.declared.method.CodedMethod.{CodedMethod}
use Rattle.jopizer.specs.Methods.Placed.{AreOnly}
use Rattle.jop_core.specs.Reset.{linked_reset}
use Rattle.run_devices.specs.Lent.{lent}
use Rattle.endings.specs.Settings.{linked_setting}
use Rattle.run_commands.specs.Run.{Ran}
use Rattle.endings.specs.Show.{Shown, HaveNamesToShow}
use Rattle.endings.proofs.Named.{named}
use Rattle.run_commands.proofs.Watched.{linked_is_traced}
use Rattle.run_commands.proofs.linked_machine.run_named.Goals as goal

pub run_methods-requires-clause-named : goal.run_methods-requires-clause-named
run_methods-requires-clause-named g c =
    let only = subst (λ (cs : List ClassFile). AreOnly cs c.in-Ok.methods.items) c.program.ensures.program c.in-Ok.ensures.no_others in
    let all = subst (λ (ms : List CodedMethod). AreOnly c.args.program.now ms) (sym c.deref.ensures.value) only in
    subst (λ (x : Shown). HaveNamesToShow x c.deref.result.now) (sym c.requires.shown) (named c.methods_stand_by_number.ensures c.args.program.now c.args.plan.show c.deref.result.now all)

pub returns-in-Ok-clause-ran : goal.returns-in-Ok-clause-ran
returns-in-Ok-clause-ran g c =
    subst
    (λ (x : Shown). IfOk c.run_methods.result (Ran x (linked_setting c.args.program.now g.row.N c.args.plan.config.memory) (linked_reset g.row.N c.args.layout.now.words c.args.plan.config) c.args.plan.limit
    (lent (g.S.Source.left c.args.input.now) (g.S.Source.faults c.args.input.now) (g.O.Sink.held c.args.out.now) (g.O.Sink.faults c.args.out.now) (g.V.Watch.held c.args.watch.now))
    (lent (g.S.Source.left c.run_methods.new.input) (g.S.Source.faults c.run_methods.new.input) (g.O.Sink.held c.run_methods.new.out) (g.O.Sink.faults c.run_methods.new.out) (g.V.Watch.held c.run_methods.new.watch))))
    c.requires.shown c.run_methods.ensures.ran

pub returns-in-Ok-clause-watch : goal.returns-in-Ok-clause-watch
returns-in-Ok-clause-watch g c = λ trace. c.run_methods.ensures.watch (linked_is_traced _ _ _ c.requires.shown trace)
