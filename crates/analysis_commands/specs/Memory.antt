-- What `memory` finds of a program, of the bounds of its loops and of the lengths of its arrays.
use Rattle.std.specs.Prelude.{◌≡◌, ℕ, List, [], ◌++◌, Option, Some, None, map}
use Rattle.class_pool.specs.declared.class.ClassFile.{ClassFile}
use Rattle.program_tables.specs.Resolved.{resolved}
use Rattle.bytecode_model.specs.Program.{Program}
use Rattle.bound_texts.specs.declared.loops.BoundsFault.TheVariants.{Line, Twice}
use Rattle.bound_texts.specs.Loops.Bounds.{LoopBound}
use Rattle.bound_texts.specs.Loops.Grammar.{IsRead, AreBoundsRefused, IsReadLengths, IsRefusedLengths}
use Rattle.method_flow.specs.Keeping.{BoundOf}
use Rattle.memory_rules.specs.declared.needs.Need.{Need}
use Rattle.memory_rules.specs.declared.causes.NeedCause.{NeedCause}
use Rattle.memory_rules.specs.declared.causes.NeedCause.TheVariants as causes
use Rattle.memory_rules.specs.declared.causes.NeedFault.{NeedFault}
use Rattle.memory_rules.specs.declared.causes.NeedFault.TheVariants as faults
use Rattle.memory_bound.specs.Causes.{IsNeedFault, IsNeedOf}
use Rattle.answer_lines.specs.AnalysisLines.{names_text, nodes_text}
use Rattle.analysis_commands.specs.declared.memory.Given.{Given}
use Rattle.analysis_commands.specs.declared.memory.MemoryRefusal.{MemoryRefusal}
use Rattle.analysis_commands.specs.declared.memory.MemoryRefusal.TheVariants.{BadBounds, TwiceBound, BadSizes, TwiceSize, NoNeed, NoMemory}
use Rattle.analysis_commands.specs.Analysis.{bounds_of, named_or_number}

-- ---- the texts

-- these are the bounds and the lengths of two texts
pub record IsGivenBy (bounds_text sizes_text : List ℕ) (g : Given) : Type 0 where
  pub bounds : IsRead bounds_text g.bounds
  pub lengths : IsReadLengths sizes_text g.lengths

-- why a text gives no lengths
abbrev pub IsBadSizes : (sizes_text : List ℕ) → MemoryRefusal → Type 0
IsBadSizes sizes_text (BadSizes line) = IsRefusedLengths sizes_text (Line line)
IsBadSizes sizes_text (TwiceSize line) = IsRefusedLengths sizes_text (Twice line)
IsBadSizes sizes_text NoMemory = Unit {0}
IsBadSizes sizes_text refusal = ⊥

-- these are bounds of the text
abbrev pub AreGiven : (bounds_text : List ℕ) → Type 0
AreGiven bounds_text = (bounds : List LoopBound) × IsRead bounds_text bounds

-- why two texts give none: what refuses the bounds, or else the lengths
abbrev pub IsBadText : (bounds_text sizes_text : List ℕ) → MemoryRefusal → Type 0
IsBadText bounds_text sizes_text (BadBounds line) = AreBoundsRefused bounds_text (Line line)
IsBadText bounds_text sizes_text (TwiceBound line) = AreBoundsRefused bounds_text (Twice line)
IsBadText bounds_text sizes_text (BadSizes line) = AreGiven bounds_text × IsBadSizes sizes_text (BadSizes line)
IsBadText bounds_text sizes_text (TwiceSize line) = AreGiven bounds_text × IsBadSizes sizes_text (TwiceSize line)
IsBadText bounds_text sizes_text (NoNeed cause subject) = ⊥
IsBadText bounds_text sizes_text NoMemory = Unit {0}

-- ---- the need

-- the texts give bounds and lengths, and with them a run needs so much
pub record IsNeed (cs : List ClassFile) (bounds_text sizes_text : List ℕ) (need : Need) : Type 0 where
  pub given : Given
  pub is_given : IsGivenBy bounds_text sizes_text given
  pub is : IsNeedOf (resolved cs) (bounds_of cs given.bounds) (bounds_of cs given.lengths) need

-- ---- the refusals

-- the cause of a fault in numbers; want of memory is none
abbrev pub cause_of : NeedFault → Option NeedCause
cause_of (faults.Recursion cycle) = Some causes.Recursion
cause_of (faults.Irreducible m nodes) = Some (causes.Irreducible m)
cause_of (faults.MissingBound m p) = Some (causes.MissingBound m p)
cause_of (faults.MissingSize m p) = Some (causes.MissingSize m p)
cause_of (faults.TooLarge m) = Some (causes.TooLarge m)
cause_of faults.NoMemory = None

-- what its line names, where these are the names of the methods
abbrev pub subject_of : (name : ℕ → List ℕ) → NeedFault → List ℕ
subject_of name (faults.Recursion cycle) = names_text (map name cycle)
subject_of name (faults.Irreducible m nodes) = name m ++ nodes_text nodes
subject_of name (faults.MissingBound m p) = name m
subject_of name (faults.MissingSize m p) = name m
subject_of name (faults.TooLarge m) = name m
subject_of name faults.NoMemory = []

-- the refusal by a fault
abbrev pub IsNoNeedBy : (name : ℕ → List ℕ) → NeedFault → MemoryRefusal → Type 0
IsNoNeedBy name fault (NoNeed cause subject) = (cause_of fault ≡ Some cause) × (subject.items ≡ subject_of name fault)
IsNoNeedBy name fault NoMemory = Unit {0}
IsNoNeedBy name fault refusal = ⊥

-- this is why the program has no need with these bounds and lengths, and what the line names
pub record IsForbiddenNeed (P : Program) (bounds lengths : BoundOf) (name : ℕ → List ℕ) (cause : NeedCause) (subject : List ℕ) : Type 0 where
  pub fault : NeedFault
  pub is : IsNeedFault P bounds lengths fault
  pub cause_is : cause_of fault ≡ Some cause
  pub subject_is : subject ≡ subject_of name fault

abbrev pub IsNotMetBy : Program → (bounds lengths : BoundOf) → (name : ℕ → List ℕ) → MemoryRefusal → Type 0
IsNotMetBy P bounds lengths name (NoNeed cause subject) = IsForbiddenNeed P bounds lengths name cause subject.items
IsNotMetBy P bounds lengths name NoMemory = Unit {0}
IsNotMetBy P bounds lengths name refusal = ⊥

-- the texts give bounds and lengths, and with them the program has no need
pub record IsNotMet (cs : List ClassFile) (bounds_text sizes_text : List ℕ) (refusal : MemoryRefusal) : Type 0 where
  pub given : Given
  pub is_given : IsGivenBy bounds_text sizes_text given
  pub is : IsNotMetBy (resolved cs) (bounds_of cs given.bounds) (bounds_of cs given.lengths) (named_or_number cs) refusal

-- why no need is given, in this order: the bounds, the lengths, the causes
abbrev pub IsMemoryRefusal : List ClassFile → (bounds_text sizes_text : List ℕ) → MemoryRefusal → Type 0
IsMemoryRefusal cs bounds_text sizes_text (NoNeed cause subject) = IsNotMet cs bounds_text sizes_text (NoNeed cause subject)
IsMemoryRefusal cs bounds_text sizes_text refusal = IsBadText bounds_text sizes_text refusal
