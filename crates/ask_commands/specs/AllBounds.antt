-- What `bound --all` finds of an image: a line for each method, with its bound or why none is given.
use Rattle.std.specs.Prelude.{◌≡◌, ℕ, ◌≤◌, ◌⊎◌, List, []}
use Rattle.class_pool.specs.declared.class.ClassFile.{ClassFile}
use Rattle.image_file.specs.Bare.{BareContent}
use Rattle.program_tables.specs.Resolved.{resolved}
use Rattle.bound_texts.specs.Loops.Bounds.{LoopBound}
use Rattle.bound_texts.specs.Loops.Grammar.{IsRead}
use Rattle.command_line.specs.declared.command.Settings.{Settings}
use Rattle.method_bounds.specs.Lines.{AreBoundLines}
use Rattle.answer_lines.specs.declared.analysis.AnalysisFault.{AnalysisFault}
use Rattle.analysis_commands.specs.Analysis.{timing_of, bounds_of, named_or_number, EachFits, IsAnalysisFault}
use Rattle.endings.specs.declared.outcome.Answer.{Answer}
use Rattle.endings.specs.declared.outcome.Answer.TheVariants.{Text, Ends}
use Rattle.endings.specs.declared.outcome.Ending.{Ending}
use Rattle.endings.specs.Fitting.{blocks_of_code, EndsTooLong}
use Rattle.endings.specs.AnalysisFaults.{fault_ending, EndsUnread}

-- each code fits the method cache, and the text has the line of each method by the bounds that are read
pub record SaysBounds (cs : List ClassFile) (s : Settings) (bounds_text text : List ℕ) : Type 0 where
  pub codes_fit : EachFits s cs
  pub bounds : List LoopBound
  pub read : IsRead bounds_text bounds
  pub lines : AreBoundLines (resolved cs) (timing_of s) (bounds_of cs bounds) (named_or_number cs) text

-- this refuses a method or the bounds, and the ending says it
pub record EndsUnanalysed (cs : List ClassFile) (s : Settings) (bounds_text : List ℕ) (ending : Ending) : Type 0 where
  pub fault : AnalysisFault
  pub is : IsAnalysisFault cs s bounds_text fault
  pub says : ending ≡ fault_ending s fault

abbrev pub AnswersBounds : List ClassFile → Settings → (bounds_text : List ℕ) → Answer → Type 0
AnswersBounds cs s bounds_text (Text text) = SaysBounds cs s bounds_text text.items
AnswersBounds cs s bounds_text (Ends ending) = EndsUnanalysed cs s bounds_text ending

-- ---- a bare image, which has no methods with names

-- its code fits, bounds are read, and there is no line
pub record SaysNoBound (s : Settings) (image : BareContent) (bounds_text text : List ℕ) : Type 0 where
  pub fits : blocks_of_code s image ≤ s.blocks
  pub bounds : List LoopBound
  pub read : IsRead bounds_text bounds
  pub says : text ≡ []

abbrev pub AnswersBareBounds : Settings → BareContent → (bounds_text : List ℕ) → Answer → Type 0
AnswersBareBounds s image bounds_text (Text text) = SaysNoBound s image bounds_text text.items
AnswersBareBounds s image bounds_text (Ends ending) = EndsTooLong s image ending ⊎ EndsUnread s image bounds_text ending
