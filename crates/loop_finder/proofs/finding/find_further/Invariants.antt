use Rattle.bytecode_model.specs.Program.{Program}
use Rattle.method_flow.specs.Flow.{IsFlowOf}
use Rattle.loop_rules.specs.Further.Arrays.{AreTables}
use Rattle.loop_rules.specs.Further.Known.{Known}
use Rattle.loop_acts.specs.Rules.{further}
use Rattle.loop_finder.proofs.Programs.{AreFoundBelow}
use Rattle.loop_finder.proofs.finding.find_further.Given as goal

abbrev pub invariant-loop-number : goal.invariant-loop-number
invariant-loop-number l = (P : Program) (known : Known) → IsFlowOf P l.f → AreTables P known l.tables → AreFoundBelow P (further P known) l.number l.counted.items
