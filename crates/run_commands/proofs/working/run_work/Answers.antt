use Rattle.std.proofs.Common.{arith}
use Rattle.run_commands.proofs.Said.{input_failed}
use Rattle.run_commands.proofs.working.run_work.Goals as goal

pub unreachable-requires : goal.unreachable-requires
unreachable-requires c = let rose = input_failed _ _ _ _ _ c.in-InputFault.ensures.ends in omega (arith, rose)
