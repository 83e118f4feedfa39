-- The need, and why none is given: cause by cause, each over all methods that may run, the least method first.
use Rattle.std.specs.Prelude.{ℕ, List, Some}
use Rattle.section_check.specs.Least.{IsLeast}
use Rattle.bytecode_model.specs.Program.{Program}
use Rattle.method_flow.specs.Keeping.{BoundOf}
use Rattle.method_flow.specs.Recursion.{IsRecursion}
use Rattle.method_flow.specs.Regions.{IsWithin}
use Rattle.bound_rules.specs.Bounding.{HasNoRecursion, IsFirstIrreducible, AreReducible}
use Rattle.memory_rules.specs.declared.causes.NeedCause.{NeedCause}
use Rattle.memory_rules.specs.declared.causes.NeedCause.TheVariants as causes
use Rattle.memory_rules.specs.declared.causes.NeedFault.{NeedFault}
use Rattle.memory_rules.specs.declared.causes.NeedFault.TheVariants.{Recursion, Irreducible, MissingBound, MissingSize, TooLarge, NoMemory}
use Rattle.memory_rules.specs.declared.needs.Need.{Need}
use Rattle.memory_rules.specs.Stack.{IsStackNeed}
use Rattle.memory_rules.specs.Heap.{OfMethod, IsHeapNeed}
use Rattle.memory_rules.specs.Given.{IsFirstLackingLine, IsFirstLackingLength, HaveLengths, HaveMakingLines}
use Rattle.memory_bound.specs.Found.{Exceeds}

-- a method that may run may make more words than 64 bits tell
abbrev pub NeedIsTooLarge : Program → (bounds lengths : BoundOf) → (method : ℕ) → Type 0
NeedIsTooLarge P bounds lengths m = IsWithin P P.boot m × Exceeds P bounds lengths (OfMethod m)

-- What a run needs, where no cause stands: no methods call one another in a cycle, each loop has one entry, the loops that make objects have bounds
-- and the arrays lengths, and the words of no method pass 64 bits.
pub record IsNeedOf (P : Program) (bounds lengths : BoundOf) (n : Need) : Type 0 where
  pub stack : IsStackNeed P n.stack
  pub heap : IsHeapNeed P bounds lengths P.boot n.heap
  pub calls : HasNoRecursion P P.boot
  pub reducible : AreReducible P P.boot
  pub lines : HaveMakingLines P bounds
  pub lengths_are : HaveLengths P lengths
  pub small : (m : ℕ) → ¬ NeedIsTooLarge P bounds lengths m

-- What is right to answer: a cause stands only where those above it don't.
abbrev pub IsNeedCause : Program → (bounds lengths : BoundOf) → NeedCause → Type 0
IsNeedCause P bounds lengths causes.Recursion = (cycle : List ℕ) × IsRecursion P P.boot cycle
IsNeedCause P bounds lengths (causes.Irreducible m) = HasNoRecursion P P.boot × ((nodes : List ℕ) × IsFirstIrreducible P P.boot m nodes)
IsNeedCause P bounds lengths (causes.MissingBound m p) = HasNoRecursion P P.boot × AreReducible P P.boot × IsFirstLackingLine P bounds m p
IsNeedCause P bounds lengths (causes.MissingSize m p) =
    HasNoRecursion P P.boot × AreReducible P P.boot × HaveMakingLines P bounds × IsFirstLackingLength P lengths m p
IsNeedCause P bounds lengths (causes.TooLarge m) =
    HasNoRecursion P P.boot × AreReducible P P.boot × HaveMakingLines P bounds × HaveLengths P lengths × IsLeast (NeedIsTooLarge P bounds lengths) (Some m)

-- methods call one another in this cycle; of want of memory nothing is said
abbrev pub IsCallFault : Program → NeedFault → Type 0
IsCallFault P (Recursion cycle) = IsRecursion P P.boot cycle
IsCallFault P NoMemory = Unit {0}
IsCallFault P fault = ⊥

-- The fault names the cause, the methods of a cycle and the nodes that the reduction leaves. Of want of memory nothing is said.
abbrev pub IsNeedFault : Program → (bounds lengths : BoundOf) → NeedFault → Type 0
IsNeedFault P bounds lengths (Recursion cycle) = IsRecursion P P.boot cycle
IsNeedFault P bounds lengths (Irreducible m nodes) = HasNoRecursion P P.boot × IsFirstIrreducible P P.boot m nodes
IsNeedFault P bounds lengths (MissingBound m p) = IsNeedCause P bounds lengths (causes.MissingBound m p)
IsNeedFault P bounds lengths (MissingSize m p) = IsNeedCause P bounds lengths (causes.MissingSize m p)
IsNeedFault P bounds lengths (TooLarge m) = IsNeedCause P bounds lengths (causes.TooLarge m)
IsNeedFault P bounds lengths NoMemory = Unit {0}
