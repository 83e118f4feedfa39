use Rattle.std.proofs.Common.{◌≡◌, ℕ, List, Some, sym, subst}
use Rattle.std.specs.Prelude.{IfOk, slice_get}
use Rattle.class_pool.specs.declared.class.ClassFile.{ClassFile}
use Rattle.program_tables.specs.Resolved.{resolved}
use Rattle.name_laws.specs.Written.{written_name}
use Rattle.bytecode_typing.specs.Lawful.{Lawful}
use Rattle.bytecode_typing.specs.WellPlaced.{WellPlaced}
use Rattle.method_flow.specs.Flow.{Coded, IsFlowOf}
use Rattle.analysis_commands.proofs.analysis.table_of.Goals as goal

pub flow_of-requires-clause-placed : goal.flow_of-requires-clause-placed
flow_of-requires-clause-placed c = let P : List ClassFile → Type 0 = λ cs. WellPlaced (resolved cs) in subst P (sym c.program.ensures.program) c.program.ensures.placed

pub flow_of-requires-clause-lawful : goal.flow_of-requires-clause-lawful
flow_of-requires-clause-lawful c = let P : List ClassFile → Type 0 = λ cs. Lawful (resolved cs) in subst P (sym c.program.ensures.program) c.is_typed.ensures.lawful

pub returns-clause-flow : goal.returns-clause-flow
returns-clause-flow c = let P : List ClassFile → Type 0 = λ cs. IfOk c.flow_of.result (IsFlowOf (resolved cs)) in subst P c.program.ensures.program c.flow_of.ensures.flow

pub returns-clause-names : goal.returns-clause-names
returns-clause-names c =
    let P : List ClassFile → Type 0 = λ cs. IfOk c.flow_of.result (λ f. (m : ℕ) (k : Coded) → slice_get f.methods m ≡ Some k → k.name ≡ written_name cs m) in
    subst P c.program.ensures.program c.flow_of.ensures.names
