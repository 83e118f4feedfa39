-- What `report` finds of an image: where the bound of a method comes from, by the lines of the source.
use Rattle.std.specs.Prelude.{◌≡◌, ℕ, List, Option, Some, None, IfSome, option_map, codes}
use Rattle.class_pool.specs.declared.class.ClassFile.{ClassFile}
use Rattle.bytecode_model.specs.Program.{Program}
use Rattle.program_tables.specs.Resolved.{resolved}
use Rattle.bound_texts.specs.Loops.Bounds.{LoopBound}
use Rattle.bound_texts.specs.Loops.Grammar.{IsRead}
use Rattle.method_flow.specs.Flow.{IsFlowOf}
use Rattle.method_flow.specs.Keeping.{BoundOf}
use Rattle.method_flow.specs.declared.timing.Timing.{Timing}
use Rattle.node_costs.specs.Costs as table
use Rattle.bound_rules.specs.Bounding.{IsAsked, HasNoCause}
use Rattle.bound_rules.specs.Numbers.{IsPrinted}
use Rattle.bound_causes.specs.Naming.{IsNamedBy}
use Rattle.bound_finder.specs.Certified.{IsCertified}
use Rattle.bound_finder.specs.declared.ending.MethodBound.TheVariants.{Printed}
use Rattle.bound_finder.specs.Ending.{IsMethodBound}
use Rattle.bound_report.specs.declared.reports.Report.{Report}
use Rattle.bound_report.specs.Report.{IsReportOf}
use Rattle.report_lines.specs.Report.{IsReportText}
use Rattle.command_line.specs.declared.command.Settings.{Settings}
use Rattle.analysis_commands.specs.declared.analysis.Analysis.{Analysis}
use Rattle.analysis_commands.specs.Analysis.{timing_of, bounds_of, EachFits}
use Rattle.analysis_commands.specs.Bounding.{MethodHasName}
use Rattle.endings.specs.declared.outcome.Answer.{Answer}
use Rattle.endings.specs.declared.outcome.Answer.TheVariants.{Text, Ends}
use Rattle.ask_commands.specs.Bounding.{EndsNotBounded}

-- ---- the report

abbrev pub reported_bound : Option Report → Option ℕ
reported_bound o = option_map (λ r. r.totals.bound) o

-- The method is asked for, and nothing forbids its bound, which is printed, and which a certificate says. The report has its parts; of a method that never
-- ends there is none.
pub record IsReported (P : Program) (t : Timing) (bound_of : BoundOf) (named : ℕ → Type 0) (root : ℕ) (report : Option Report) : Type 0 where
  pub asked : IsAsked P named root
  pub no_cause : HasNoCause P t bound_of root
  pub printed : IsPrinted P t bound_of root (reported_bound report)
  pub certified : IsCertified P t bound_of root (reported_bound report)
  pub parts : IfSome report (IsReportOf P t bound_of root)

-- what is printed of the method of this number, whose size forbids no bound, and the parts of that, in each program of the table
pub record IsReportFor (a : Analysis) (root : ℕ) (report : Option Report) : Type 0 where
  pub bound : (P : Program) → IsFlowOf P a.flow → IsMethodBound P a.timing (table.bounds_of a.flow a.bounds) root (Printed (reported_bound report))
  pub parts : (P : Program) → IsFlowOf P a.flow → IfSome report (IsReportOf P a.timing (table.bounds_of a.flow a.bounds) root)

-- so it is in each program of the table
pub record IsReportBy (a : Analysis) (named : ℕ → Type 0) (report : Option Report) : Type 0 where
  pub root : ℕ
  pub is : (P : Program) → IsFlowOf P a.flow → IsReported P a.timing (table.bounds_of a.flow a.bounds) named root report

-- the parts of a report are those of some method
abbrev pub HasParts : Program → Option Report → Type 0
HasParts P report = IfSome report (λ r. (t : Timing) × (bound_of : BoundOf) × (root : ℕ) × IsReportOf P t bound_of root r)

-- ---- the lines

abbrev pub AreReportLines : List ClassFile → Option Report → (text : List ℕ) → Type 0
AreReportLines cs None text = text ≡ codes "bound=never\n"
AreReportLines cs (Some r) text = IsReportText cs r.rows.items r.totals text

-- the lines of the report on the method of this name, by the table
pub record AreLinesBy (cs : List ClassFile) (a : Analysis) (name text : List ℕ) : Type 0 where
  pub report : Option Report
  pub is : IsReportBy a (IsNamedBy a.flow name) report
  pub lines : AreReportLines cs report text

-- each code fits the method cache, and the text has the lines of the report on the method of this name by the bounds that are read
pub record SaysReport (cs : List ClassFile) (s : Settings) (bounds_text name text : List ℕ) : Type 0 where
  pub codes_fit : EachFits s cs
  pub bounds : List LoopBound
  pub read : IsRead bounds_text bounds
  pub root : ℕ
  pub report : Option Report
  pub is : IsReported (resolved cs) (timing_of s) (bounds_of cs bounds) (MethodHasName cs name) root report
  pub lines : AreReportLines cs report text

-- such a text answers, or the ending that says why no bound is given
abbrev pub AnswersReport : List ClassFile → Settings → (bounds_text name : List ℕ) → Answer → Type 0
AnswersReport cs s bounds_text name (Text text) = SaysReport cs s bounds_text name text.items
AnswersReport cs s bounds_text name (Ends ending) = EndsNotBounded cs s bounds_text name ending
