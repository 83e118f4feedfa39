-- What an analysis of a program stands on: the timing that the settings give, the names of the methods, and the bounds of their loops.
use Rattle.std.specs.Prelude.{◌≡◌, ℕ, ◌++◌, List, Some, None, codes, decimal, slice_get}
use Rattle.class_pool.specs.declared.class.ClassFile.{ClassFile}
use Rattle.program_tables.specs.Resolved.{resolved}
use Rattle.name_laws.specs.Written.{written_name}
use Rattle.jopizer.specs.Methods.Fitting.{MethodFits, IsFirst}
use Rattle.command_line.specs.declared.command.Settings.{Settings}
use Rattle.bound_texts.specs.Loops.Bounds.{LoopBound, bound_in}
use Rattle.bound_texts.specs.Loops.Grammar.{IsRead}
use Rattle.bytecode_model.specs.Lists.{onto}
use Rattle.bytecode_model.specs.Program.{body_of}
use Rattle.method_flow.specs.declared.timing.Timing.{Timing}
use Rattle.method_flow.specs.Flow.{Coded, IsFlowOf}
use Rattle.method_flow.specs.Keeping.{BoundOf}
use Rattle.analysis_commands.specs.declared.analysis.Analysis.{Analysis}
use Rattle.answer_lines.specs.declared.analysis.AnalysisFault.{AnalysisFault}
use Rattle.answer_lines.specs.declared.analysis.AnalysisFault.TheVariants.{MethodTooLong, BadBounds, TwiceBound, NoMemory}
use Rattle.answer_lines.specs.BoundsFaults.{IsBoundsFault}

-- ---- the program, by what the words say of the machine

abbrev pub timing_of : Settings → Timing
timing_of s = record { read = s.read; write = s.write; blocks = s.blocks; block_words = s.block_words }

-- each code fits the method cache
abbrev pub EachFits : Settings → List ClassFile → Type 0
EachFits s cs = (m : ℕ) → MethodFits (resolved cs) s.blocks s.block_words m

-- what stands in a line for a method whose code the program lacks
abbrev pub number_text : (method : ℕ) → List ℕ
number_text m = codes "#" ++ decimal m

abbrev pub named_or_number : List ClassFile → (method : ℕ) → List ℕ
named_or_number cs m = elim (body_of (resolved cs) m) [ None ↦ number_text m | Some b ↦ written_name cs m ]

-- the bounds that lines give for the loops of methods with code, by the methods' names
abbrev pub bounds_of : List ClassFile → List LoopBound → BoundOf
bounds_of cs lines m p = onto (body_of (resolved cs) m) (λ b. bound_in (written_name cs m) p lines)

-- ---- what is made of them

-- each code fits the method cache, the table is that of the program, with the names of its methods, the bounds are those of the text, and the timing
-- is that of the settings
pub record IsAnalysisOf (cs : List ClassFile) (s : Settings) (bounds_text : List ℕ) (a : Analysis) : Type 0 where
  pub codes_fit : EachFits s cs
  pub flow : IsFlowOf (resolved cs) a.flow
  pub names : (m : ℕ) (k : Coded) → slice_get a.flow.methods m ≡ Some k → k.name ≡ written_name cs m
  pub bounds : IsRead bounds_text a.bounds
  pub timing : a.timing ≡ timing_of s

-- why there is no analysis: the first method whose code doesn't fit, with its name, or else what refuses the bounds
abbrev pub IsAnalysisFault : List ClassFile → Settings → (bounds_text : List ℕ) → AnalysisFault → Type 0
IsAnalysisFault cs s text (MethodTooLong m name blocks) = IsFirst (resolved cs) s.blocks s.block_words (record { method = m; blocks = blocks })
    × (name.items ≡ written_name cs m)
IsAnalysisFault cs s text (BadBounds line) = EachFits s cs × IsBoundsFault text (BadBounds line)
IsAnalysisFault cs s text (TwiceBound line) = EachFits s cs × IsBoundsFault text (TwiceBound line)
IsAnalysisFault cs s text NoMemory = Unit {0}
