-- Why a text gives no bounds, as an analysis answers it.
use Rattle.std.specs.Prelude.{ℕ, List}
use Rattle.bound_texts.specs.Loops.Grammar.{IsReadTo, IsMalformed, IsTwice}
use Rattle.answer_lines.specs.declared.analysis.AnalysisFault.{AnalysisFault}
use Rattle.answer_lines.specs.declared.analysis.AnalysisFault.TheVariants.{MethodTooLong, BadBounds, TwiceBound, NoMemory}

-- why a text gives no bounds: its first line that is none of the grammar, or bounds a loop once more
abbrev pub IsBoundsFault : (bounds_text : List ℕ) → AnalysisFault → Type 0
IsBoundsFault text (MethodTooLong m name blocks) = ⊥
IsBoundsFault text (BadBounds line) = (r : IsReadTo text line) × IsMalformed r.line
IsBoundsFault text (TwiceBound line) = IsTwice text line
IsBoundsFault text NoMemory = Unit {0}
