-- What a profile is told with: the table of a program, what is answered of its methods' bounds, and totals that have been handed nothing.
use Rattle.std.specs.Prelude.{◌≡◌, ℕ, List, length, Some, slice_get}
use Rattle.class_pool.specs.declared.class.ClassFile.{ClassFile}
use Rattle.program_tables.specs.Resolved.{resolved}
use Rattle.name_laws.specs.Written.{written_name}
use Rattle.bytecode_model.specs.Program.{Program}
use Rattle.method_flow.specs.Flow.{Coded, IsFlowOf}
use Rattle.node_costs.specs.Costs as table
use Rattle.bound_texts.specs.Loops.Bounds.{LoopBound}
use Rattle.bound_texts.specs.Loops.Grammar.{IsRead}
use Rattle.method_bounds.specs.declared.answer.BoundAnswer.{BoundAnswer}
use Rattle.method_bounds.specs.Answers.{IsBoundAnswer}
use Rattle.run_follower.specs.Watch.Counting.{no_totals}
use Rattle.command_line.specs.declared.command.Settings.{Settings}
use Rattle.answer_lines.specs.declared.analysis.AnalysisFault.{AnalysisFault}
use Rattle.analysis_commands.specs.Analysis.{timing_of}
use Rattle.answer_lines.specs.BoundsFaults.{IsBoundsFault}
use Rattle.run_commands.specs.declared.profiling.Prepared.{Prepared}
use Rattle.endings.specs.declared.outcome.Ending.{Ending}
use Rattle.endings.specs.AnalysisFaults.{fault_ending}

pub record IsPrepared (s : Settings) (cs : List ClassFile) (bounds : List LoopBound) (p : Prepared) : Type 0 where
  pub flow : IsFlowOf (resolved cs) p.flow
  pub names : (m : ℕ) (k : Coded) → slice_get p.flow.methods m ≡ Some k → k.name ≡ written_name cs m
  pub long : length p.answers.items ≡ length p.flow.methods
  pub each : (P : Program) → IsFlowOf P p.flow → (m : ℕ) (x : BoundAnswer) → slice_get p.answers.items m ≡ Some x
      → IsBoundAnswer P (timing_of s) (table.bounds_of p.flow bounds) m x
  pub totals : p.totals ≡ no_totals (length p.flow.methods) s.stack

-- so it is by the bounds that are read of a text
pub record IsPreparedBy (s : Settings) (cs : List ClassFile) (bounds_text : List ℕ) (p : Prepared) : Type 0 where
  pub bounds : List LoopBound
  pub read : IsRead bounds_text bounds
  pub is : IsPrepared s cs bounds p

-- this refuses the bounds, or there was no memory, and the ending says it
pub record IsUnprepared (s : Settings) (bounds_text : List ℕ) (ending : Ending) : Type 0 where
  pub fault : AnalysisFault
  pub is : IsBoundsFault bounds_text fault
  pub says : ending ≡ fault_ending s fault
