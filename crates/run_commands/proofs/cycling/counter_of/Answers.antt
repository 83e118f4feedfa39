use Rattle.std.proofs.Common.{◌≡◌, ℕ, List, subst}
use Rattle.std.specs.Prelude.{IfOk}
use Rattle.class_pool.specs.declared.class.ClassFile.{ClassFile}
use Rattle.run_follower.specs.Watch.Counting.{no_slots}
use Rattle.analysis_commands.specs.ExecutiveAnswers.{IsFlowWithNames}
use Rattle.run_commands.proofs.Cycled.{counter_ok}
use Rattle.run_commands.proofs.cycling.counter_of.Goals as goal

pub returns : goal.returns
returns c =
    let cs = c.args.linked.now.classes in
    let F : List ClassFile → Type 0 = λ cs. IsFlowWithNames cs c.in_ok-flow.flow in
    let flow = subst F c.program.ensures.program (record { flow = c.in_ok-flow.ensures.flow; names = c.in_ok-flow.ensures.names }) in
    let N : ℕ → Type 0 = λ number. IfOk c.new.result (λ s. s ≡ no_slots number c.in_ok-lengths.lengths.items c.args.settings.now.stack) in
    counter_ok cs c.args.table.now c.args.settings.now.stack c.slots.ensures.table c.executive_method.result (c.executive_method.ensures.program cs flow) _ c.in_ok-lengths.lengths.items c.new.result c.in_ok-lengths.ensures
    (subst N c.unwrap_or-executive.ensures c.new.ensures)
