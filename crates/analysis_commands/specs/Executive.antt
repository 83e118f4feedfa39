-- The executive of a program that was linked with one, and the methods that its slots call.
use Rattle.std.specs.Prelude.{◌≡◌, ◌↔◌, ℕ, List, Some, IsSome, IsSomeAnd, codes}
use Rattle.section_check.specs.Least.{IsLeast}
use Rattle.slot_table.specs.Executive.{call_place}
use Rattle.bytecode_model.specs.Program.{Program, body_of}
use Rattle.method_flow.specs.Calls.{IsTarget}
use Rattle.method_flow.specs.Flow.{IsInvokeStart}

abbrev pub executive_name : List ℕ
executive_name = codes "Cyclic.main([Ljava/lang/String;)V"

-- a method with code that has its name
pub record IsCyclicMain (P : Program) (name : ℕ → List ℕ) (m : ℕ) : Type 0 where
  pub coded : IsSome (body_of P m)
  pub is_named : name m ≡ executive_name

-- the executive is the first of them
abbrev pub IsExecutive : Program → (name : ℕ → List ℕ) → (method : ℕ) → Type 0
IsExecutive P name e = IsLeast (IsCyclicMain P name) (Some e)

-- an invoke of the caller's code begins at the place, and it runs this method and no other
pub record CallsOnly (P : Program) (caller place method : ℕ) : Type 0 where
  pub begins : IsSomeAnd (body_of P caller) (λ b. IsInvokeStart b.code place)
  pub runs : (m : ℕ) → IsTarget P caller place m ↔ (m ≡ method)

-- the method of a slot: the executive calls it where the call of the slot stands
pub record IsSlotMethod (P : Program) (name : ℕ → List ℕ) (slot method : ℕ) : Type 0 where
  pub executive : ℕ
  pub is_executive : IsExecutive P name executive
  pub calls : CallsOnly P executive (call_place slot) method
