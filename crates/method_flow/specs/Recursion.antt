-- Cycles of calls among the methods that may run while one does.
use Rattle.std.specs.Prelude.{ℕ, List, [], ◌∷◌, All}
use Rattle.bytecode_model.specs.Program.{Program}
use Rattle.method_cache.specs.Regions.Region.{AreDistinct}
use Rattle.method_flow.specs.Calls.{IsCall, IsStartOf, IsTarget}
use Rattle.method_flow.specs.Regions.{IsWithin}

-- some invoke of a method's code may run another method
pub record MayCall (P : Program) (caller target : ℕ) : Type 0 where
  pub place : ℕ
  pub start : IsStartOf P caller place
  pub call : IsCall P caller place
  pub is_target : IsTarget P caller place target

-- each of these methods may call the next, and the last one a first
abbrev pub IsCallChain : Program → (first : ℕ) → List ℕ → Type 0
IsCallChain P first [] = ⊥
IsCallChain P first (m ∷ []) = MayCall P m first
IsCallChain P first (m ∷ n ∷ ms) = MayCall P m n × IsCallChain P first (n ∷ ms)

-- each may call the next, and the last one the first of them
abbrev pub IsCallCycle : Program → List ℕ → Type 0
IsCallCycle P [] = ⊥
IsCallCycle P (m ∷ ms) = IsCallChain P m (m ∷ ms)

-- a cycle of calls among all that may run while the method does, each method once
pub record IsRecursion (P : Program) (root : ℕ) (cycle : List ℕ) : Type 0 where
  pub calls : IsCallCycle P cycle
  pub within : All (IsWithin P root) cycle
  pub distinct : AreDistinct cycle
