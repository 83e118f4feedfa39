-- What is answered of them by the table of a program.
use Rattle.std.specs.Prelude.{◌≡◌, ℕ, List, [], ◌∷◌, Option, Some, None, slice_get}
use Rattle.class_pool.specs.declared.class.ClassFile.{ClassFile}
use Rattle.program_tables.specs.Resolved.{resolved}
use Rattle.name_laws.specs.Written.{written_name}
use Rattle.section_check.specs.Least.{IsLeast}
use Rattle.bytecode_model.specs.Program.{Program}
use Rattle.method_flow.specs.Flow.{Coded, Flow, IsFlowOf}
use Rattle.bound_causes.specs.Naming.{IsNamedBy}
use Rattle.analysis_commands.specs.Answers.{table_name}
use Rattle.analysis_commands.specs.Executive.{executive_name, CallsOnly, IsSlotMethod}

-- it is the table of the program, with the names of its methods
pub record IsFlowWithNames (cs : List ClassFile) (f : Flow) : Type 0 where
  pub flow : IsFlowOf (resolved cs) f
  pub names : (m : ℕ) (k : Coded) → slice_get f.methods m ≡ Some k → k.name ≡ written_name cs m

-- the first method of the table that has the executive's name
abbrev pub IsExecutiveIn : Flow → (executive : Option ℕ) → Type 0
IsExecutiveIn f executive = IsLeast (IsNamedBy f executive_name) executive

-- the method is the slot's in each program of the table
abbrev pub IsSlotMethodIn : Flow → (slot method : ℕ) → Type 0
IsSlotMethodIn f i m = (P : Program) → IsFlowOf P f → IsSlotMethod P (table_name f) i m

-- in none of them is a method the slot's
abbrev pub HasNoMethodIn : Flow → (slot : ℕ) → Type 0
HasNoMethodIn f i = (P : Program) → IsFlowOf P f → (m : ℕ) → ¬ IsSlotMethod P (table_name f) i m

-- the one number of a list
abbrev pub only_of : List ℕ → Option ℕ
only_of [] = None
only_of (x ∷ []) = Some x
only_of (x ∷ y ∷ xs) = None

-- the executive's code calls this method and no other at the place, in each program of the table
abbrev pub CallsOnlyIn : Flow → (caller place method : ℕ) → Type 0
CallsOnlyIn f e p m = (P : Program) → IsFlowOf P f → CallsOnly P e p m

-- in none of them one method
abbrev pub CallsNoneIn : Flow → (caller place : ℕ) → Type 0
CallsNoneIn f e p = (P : Program) → IsFlowOf P f → (m : ℕ) → ¬ CallsOnly P e p m
