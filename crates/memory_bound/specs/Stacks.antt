-- The words of the frames of chains of calls.
use Rattle.std.specs.Prelude.{◌≡◌, ◌⊎◌, ℕ, ◌≤◌, List, Contains, slice_index}
use Rattle.bytecode_model.specs.Program.{Program}
use Rattle.method_flow.specs.declared.flow.Call.{Call}
use Rattle.method_flow.specs.Flow.{Flow, targets_of_call}
use Rattle.method_flow.specs.Recursion.{MayCall}
use Rattle.memory_rules.specs.Stack.{IsStackNeedOf}

-- the greatest value of these numbers, or 0 where there is none
pub record IsGreatestAmong (Among : ℕ → Type 0) (value : ℕ → ℕ) (n : ℕ) : Type 0 where
  pub attained : (n ≡ 0) ⊎ ((t : ℕ) × Among t × (value t ≡ n))
  pub greatest : (t : ℕ) → Among t → value t ≤ n

-- one of these calls may run the method
abbrev pub IsCalled : Flow → List Call → (target : ℕ) → Type 0
IsCalled f calls t = (c : Call) × Contains calls c × Contains (targets_of_call f c) t

-- the words are known of all that the method may call
abbrev pub AreStacks : Program → (stacks : List ℕ) → (method : ℕ) → Type 0
AreStacks P stacks m = (t : ℕ) → MayCall P m t → IsStackNeedOf P t (slice_index stacks t)
