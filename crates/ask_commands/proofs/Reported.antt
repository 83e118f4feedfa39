-- The report on a method that is asked for, by the table, holds of the program.
use Rattle.std.proofs.Common.{ℕ, List, Option, Some, None}
use Rattle.std.specs.Prelude.{Vec, Result, Ok, Err, IfOk, IfSome, IfNone}
use Rattle.std.specs.declared.alloc.Global.{Global}
use Rattle.class_pool.specs.declared.class.ClassFile.{ClassFile}
use Rattle.program_tables.specs.Resolved.{resolved}
use Rattle.bytecode_model.specs.Program.{Program}
use Rattle.method_flow.specs.Flow.{IsFlowOf}
use Rattle.node_costs.specs.Costs as table
use Rattle.bound_rules.specs.declared.faults.BoundRefusal.{BoundRefusal}
use Rattle.bound_causes.specs.declared.causes.Asked.{Asked}
use Rattle.bound_finder.specs.declared.ending.MethodBound.TheVariants.{Printed}
use Rattle.bound_finder.specs.Ending.{IsMethodBound}
use Rattle.bound_report.specs.declared.reports.Report.{Report}
use Rattle.bound_report.specs.Report.{IsReportOf}
use Rattle.command_line.specs.declared.command.Settings.{Settings}
use Rattle.analysis_commands.specs.declared.analysis.Analysis.{Analysis}
use Rattle.analysis_commands.specs.declared.bound.NotBounded.{NotBounded}
use Rattle.analysis_commands.specs.Analysis.{IsAnalysisOf}
use Rattle.analysis_commands.specs.Bounding.{MethodHasName}
use Rattle.analysis_commands.specs.BoundAnswers.{IsAskedOf}
use Rattle.analysis_commands.proofs.Bounding.{asked_out}
use Rattle.analysis_commands.proofs.Lifting.{moved}
use Rattle.ask_commands.specs.Reporting.{IsReported, IsReportFor, IsReportBy, AreLinesBy, SaysReport, HasParts}

-- of what is printed, and its parts
pub report_for : (a : Analysis) (root : ℕ) (r : Result (Option Report) BoundRefusal)
    → IfOk r (λ o. IfNone o ((P : Program) → IsFlowOf P a.flow → IsMethodBound P a.timing (table.bounds_of a.flow a.bounds) root (Printed None)))
    → IfOk r (λ o. IfSome o (λ x. (P : Program) → IsFlowOf P a.flow → IsMethodBound P a.timing (table.bounds_of a.flow a.bounds) root (Printed (Some x.totals.bound))))
    → IfOk r (λ o. IfSome o (λ x. (P : Program) → IsFlowOf P a.flow → IsReportOf P a.timing (table.bounds_of a.flow a.bounds) root x))
    → IfOk r (IsReportFor a root)
report_for a root (Err refusal) never printed parts = tt
report_for a root (Ok None) never printed parts = record { bound = never; parts = λ P of. tt }
report_for a root (Ok (Some x)) never printed parts = record { bound = printed; parts = parts }

-- the method is asked for, and nothing but its size forbids its bound
pub reported : (a : Analysis) (named : ℕ → Type 0) (found : Asked) (r : Result (Option Report) BoundRefusal) → IsAskedOf a named found → IfOk r (IsReportFor a found.root) → IfOk r (IsReportBy a named)
reported a named found (Err refusal) is h = tt
reported a named found (Ok o) is h = record {
  root = found.root;
  is = λ P of.
      let ready = is.ready P of in
      let bound = h.bound P of in
      record {
        asked = is.asked P of;
        no_cause = record { calls = ready.calls; reducible = ready.reducible; lines = ready.lines; size = bound.1 };
        printed = bound.0;
        certified = bound.2;
        parts = h.parts P of;
      };
}

-- of the program of the table
pub has_parts : (P : Program) (a : Analysis) (named : ℕ → Type 0) (o : Option Report) → IsFlowOf P a.flow → IsReportBy a named o → HasParts P o
has_parts P a named None of by = tt
has_parts P a named (Some r) of by = (a.timing, table.bounds_of a.flow a.bounds, by.root, (by.is P of).parts)

module _ (cs : List ClassFile) (s : Settings) (bounds_text : List ℕ) (a : Analysis) (is : IsAnalysisOf cs s bounds_text a) (name : List ℕ) where
  pub says : (text : List ℕ) → AreLinesBy cs a name text → SaysReport cs s bounds_text name text
  says text h =
      let by = h.is.is (resolved cs) is.flow in
      record {
        codes_fit = is.codes_fit;
        bounds = a.bounds;
        read = is.bounds;
        root = h.is.root;
        report = h.report;
        is =
            moved cs s bounds_text a is (λ t b. IsReported (resolved cs) t b (MethodHasName cs name) h.is.root h.report)
            (record { asked = asked_out cs a.flow is.flow is.names name h.is.root by.asked; no_cause = by.no_cause; printed = by.printed; certified = by.certified; parts = by.parts });
        lines = h.lines;
      }

  pub says_ok : (r : Result (Vec ℕ Global) NotBounded) → IfOk r (λ text. AreLinesBy cs a name text.items) → IfOk r (λ text. SaysReport cs s bounds_text name text.items)
  says_ok (Ok text) h = says text.items h
  says_ok (Err refusal) h = tt
