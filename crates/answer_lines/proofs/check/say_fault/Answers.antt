use Rattle.std.proofs.Common.{false, sym, subst}
use Rattle.std.specs.List.{concat}
use Rattle.answer_lines.specs.Said.{Said}
use Rattle.bound_rules.specs.declared.faults.CheckFault.{CheckFault}
use Rattle.answer_lines.specs.AnalysisLines.{fault_parts}
use Rattle.answer_lines.proofs.check.say_fault.Goals as goal

pub returns-in-Missing-clause-said : goal.returns-in-Missing-clause-said
returns-in-Missing-clause-said g c =
    let P : CheckFault → Type 0 = λ f. Said false (concat (fault_parts f c.args.name.now)) (g.O.Sink.held c.args.sink.now) (g.O.Sink.held c.say_method.new.sink) (g.O.Sink.faults c.args.sink.now) (g.O.Sink.faults c.say_method.new.sink) c.say_method.result in
    subst P (sym c.in-Missing.is) c.say_method.ensures.said

pub returns-in-Member-clause-said : goal.returns-in-Member-clause-said
returns-in-Member-clause-said g c =
    let P : CheckFault → Type 0 = λ f. Said false (concat (fault_parts f c.args.name.now)) (g.O.Sink.held c.args.sink.now) (g.O.Sink.held c.say_node.new.sink) (g.O.Sink.faults c.args.sink.now) (g.O.Sink.faults c.say_node.new.sink) c.say_node.result in
    subst P (sym c.in-Member.is) c.say_node.ensures.said

pub returns-in-Exit-clause-said : goal.returns-in-Exit-clause-said
returns-in-Exit-clause-said g c =
    let P : CheckFault → Type 0 = λ f. Said false (concat (fault_parts f c.args.name.now)) (g.O.Sink.held c.args.sink.now) (g.O.Sink.held c.say_node-in-Exit.new.sink) (g.O.Sink.faults c.args.sink.now) (g.O.Sink.faults c.say_node-in-Exit.new.sink) c.say_node-in-Exit.result in
    subst P (sym c.in-Exit.is) c.say_node-in-Exit.ensures.said

pub returns-in-Region-clause-said : goal.returns-in-Region-clause-said
returns-in-Region-clause-said g c =
    let P : CheckFault → Type 0 = λ f. Said false (concat (fault_parts f c.args.name.now)) (g.O.Sink.held c.args.sink.now) (g.O.Sink.held c.say_method-in-Region.new.sink) (g.O.Sink.faults c.args.sink.now) (g.O.Sink.faults c.say_method-in-Region.new.sink) c.say_method-in-Region.result in
    subst P (sym c.in-Region.is) c.say_method-in-Region.ensures.said
