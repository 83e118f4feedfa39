-- In what order to take the methods that may run while one does: each behind all that it may run, where none comes back to itself
-- (JVM Specification SE 8, 6.5.invokestatic, 6.5.invokespecial, 6.5.invokevirtual, 6.5.invokeinterface).
use Rattle.std.specs.Prelude.{◌≡◌, ℕ, List, take, Contains, slice_get, Some}
use Rattle.bytecode_model.specs.Program.{Program}
use Rattle.method_flow.specs.Calls.{IsCall, IsStartOf, IsTarget}
use Rattle.method_flow.specs.Recursion.{MayCall, IsRecursion}
use Rattle.method_flow.specs.Regions.{IsWithin, AreMethodsOf}
use Rattle.call_regions.specs.declared.answers.CallFault.{CallFault}
use Rattle.call_regions.specs.declared.answers.CallFault.TheVariants.{NoMemory, Recursion}

-- the invoke at the place of a method's code may run the target
pub record MayCallAt (P : Program) (m place target : ℕ) : Type 0 where
  pub start : IsStartOf P m place
  pub call : IsCall P m place
  pub is_target : IsTarget P m place target

-- These are exactly the methods that may run while the root does, each once, and each behind all that it may run.
pub record IsTargetsFirst (P : Program) (root : ℕ) (order : List ℕ) : Type 0 where
  pub methods : AreMethodsOf (IsWithin P root) order
  pub first : (i m t : ℕ) → slice_get order i ≡ Some m → MayCall P m t → Contains (take i order) t

-- Why there is no such order: some of these methods call each other in a cycle. Of want of memory nothing is said.
abbrev pub IsCallCause : Program → (root : ℕ) → CallFault → Type 0
IsCallCause P root NoMemory = Unit {0}
IsCallCause P root (Recursion cycle) = IsRecursion P root cycle
