-- What follows for each program.
use Rattle.std.specs.Prelude.{◌≡◌, ℕ, List, length, ◌↔◌, slice_get, Some}
use Rattle.base.specs.Packed.{words_for}
use Rattle.bytecode_model.specs.Program.{Program}
use Rattle.method_flow.specs.Flow.{Flow, Coded, IsFlowOf}
use Rattle.method_flow.specs.Regions.{code_words}
use Rattle.call_regions.specs.Calling.{MayCallAt, IsTargetsFirst, IsCallCause}
use Rattle.call_regions.specs.Tables.{IsOfTable, RunsFrom}
use Rattle.call_regions.specs.declared.answers.CallFault.TheVariants.{Recursion}

-- the calls in the table of a program are those of the program
abbrev pub RunsAreCalls : Type 0
RunsAreCalls = (P : Program) (f : Flow) (m place t : ℕ) → IsFlowOf P f → IsOfTable f m → RunsFrom f m place t ↔ MayCallAt P m place t

-- a method's code takes the words in the table that it takes in the program
abbrev pub WordsAreOfTheTable : Type 0
WordsAreOfTheTable = (P : Program) (f : Flow) (m : ℕ) (k : Coded) → IsFlowOf P f → slice_get f.methods m ≡ Some k → code_words P m ≡ words_for (length k.code)

-- where methods stand behind their targets, no cycle of methods may run
abbrev pub OrderExcludesCycles : Type 0
OrderExcludesCycles = (P : Program) (root : ℕ) (order cycle : List ℕ) → IsTargetsFirst P root order → IsCallCause P root (Recursion cycle) → ⊥
