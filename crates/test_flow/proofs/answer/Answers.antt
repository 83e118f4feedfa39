use Rattle.std.proofs.Common.{◌≡◌, ℕ, List, subst, sym}
use Rattle.program_tables.specs.Resolved.{resolved}
use Rattle.bytecode_typing.specs.WellPlaced.{WellPlaced}
use Rattle.bytecode_typing.specs.Lawful.{Lawful}
use Rattle.test_flow.proofs.answer.Goals as goal

pub flow_of-requires-clause-placed : goal.flow_of-requires-clause-placed
flow_of-requires-clause-placed c = subst (λ cs. WellPlaced (resolved cs)) (sym c.program.ensures.program) c.program.ensures.placed

pub flow_of-requires-clause-lawful : goal.flow_of-requires-clause-lawful
flow_of-requires-clause-lawful c = subst (λ cs. Lawful (resolved cs)) (sym c.program.ensures.program) c.is_typed.ensures.lawful
