use Rattle.bytecode_model.specs.Program.{Program}
use Rattle.method_flow.specs.Flow.{IsFlowOf}
use Rattle.loop_rules.specs.Sites.{AreIntSites, constants_in}
use Rattle.loop_finder.specs.Headers.{AreMethodHeaders}
use Rattle.loop_acts.specs.Rules.{plain}
use Rattle.loop_finder.proofs.Programs.{AreFoundBelow}
use Rattle.loop_finder.proofs.finding.find_all.Given as goal

abbrev pub invariant-loop-number : goal.invariant-loop-number
invariant-loop-number l = record {
  headers : (P : Program) → IsFlowOf P l.f → AreIntSites P l.s → AreMethodHeaders P l.number l.headers.items;
  counted : (P : Program) → IsFlowOf P l.f → AreIntSites P l.s → AreFoundBelow P (plain P (constants_in l.s)) l.number l.counted.items;
}
