-- The lines of bounds by the table of a program are those of the program.
use Rattle.std.proofs.Common.{ℕ, List, sym, subst}
use Rattle.std.specs.Prelude.{Result, Ok, Err, IfOk, Vec}
use Rattle.std.specs.declared.alloc.Global.{Global}
use Rattle.std.proofs.Math.Path.{fun_ext}
use Rattle.base.specs.declared.no_memory.NoMemory.{NoMemory as Lacking}
use Rattle.class_pool.specs.declared.class.ClassFile.{ClassFile}
use Rattle.program_tables.specs.Resolved.{resolved}
use Rattle.bytecode_model.specs.Program.{Program}
use Rattle.method_flow.specs.Flow.{IsFlowOf}
use Rattle.node_costs.specs.Costs as table
use Rattle.command_line.specs.declared.command.Settings.{Settings}
use Rattle.method_bounds.specs.Lines.{AreBoundLines, name_in}
use Rattle.analysis_commands.specs.declared.analysis.Analysis.{Analysis}
use Rattle.answer_lines.specs.declared.analysis.AnalysisFault.TheVariants as faults
use Rattle.analysis_commands.specs.Analysis.{timing_of, bounds_of, named_or_number, IsAnalysisOf}
use Rattle.analysis_commands.proofs.Lifting.{moved, named}
use Rattle.endings.specs.declared.outcome.Answer.{Answer}
use Rattle.endings.specs.declared.outcome.Answer.TheVariants.{Text, Ends}
use Rattle.ask_commands.specs.Needs.{IsLineAnswer}
use Rattle.ask_commands.specs.AllBounds.{AnswersBounds}

module _ (cs : List ClassFile) (s : Settings) (bounds_text : List ℕ) (a : Analysis) (is : IsAnalysisOf cs s bounds_text a) where
  pub bounds_say : (lines : Result (Vec ℕ Global) Lacking) (answer : Answer)
      → IfOk lines (λ text. (P : Program) → IsFlowOf P a.flow → AreBoundLines P a.timing (table.bounds_of a.flow a.bounds) (name_in a.flow) text.items)
      → IsLineAnswer lines answer → AnswersBounds cs s bounds_text answer
  bounds_say (Ok line) (Text text) says answers =
      let by_table = says (resolved cs) is.flow in
      let by_name = subst (λ (name : ℕ → List ℕ). AreBoundLines (resolved cs) a.timing (table.bounds_of a.flow a.bounds) name line.items) (fun_ext (named cs a.flow is.flow is.names)) by_table in
      let lines = moved cs s bounds_text a is (λ t b. AreBoundLines (resolved cs) t b (named_or_number cs) line.items) by_name in
      record {
        codes_fit = is.codes_fit;
        bounds = a.bounds;
        read = is.bounds;
        lines = subst (λ (x : List ℕ). AreBoundLines (resolved cs) (timing_of s) (bounds_of cs a.bounds) (named_or_number cs) x) (sym answers) lines;
      }
  bounds_say (Ok line) (Ends ending) says answers = absurd answers
  bounds_say (Err lacking) (Text text) says answers = absurd answers
  bounds_say (Err lacking) (Ends ending) says answers = record { fault = faults.NoMemory; is = tt; says = answers }
