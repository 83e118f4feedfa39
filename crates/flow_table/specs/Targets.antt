-- The lists of what invokes may run.
use Rattle.std.specs.Prelude.{◌≡◌, ◌↔◌, ℕ, ◌+◌, ◌<◌, Bool, true, false, List, [], ◌∷◌, length, Contains, IsSome, Some, slice_get, slice_index_or}
use Rattle.std.specs.List.Sorted.{IsStrictlyIncreasing}
use Rattle.std.specs.Option.{IsSomeAnd}
use Rattle.class_pool.specs.declared.class.ClassFile.{ClassFile}
use Rattle.bytecode_model.specs.Program.{Program, body_of}
use Rattle.method_flow.specs.declared.flow.Call.{Call}
use Rattle.method_flow.specs.Calls.{selected_for}
use Rattle.method_flow.specs.Flow.{Coded}
use Rattle.program_tables.specs.Numbers.{methods_by_number}
use Rattle.program_tables.specs.Resolved.{resolved}
use Rattle.flow_table.specs.Receivers.{IsReceiver}

-- an instance method that isn't an instance initialization method: for such methods are selected (6.5.invokevirtual, 6.5.invokeinterface)
abbrev pub IsVirtual : Program → (method : ℕ) → Type 0
IsVirtual P m = IsSomeAnd (slice_get P.methods m) (λ k. (k.has_this ≡ true) × (k.is_init ≡ false))

-- an invoke of one of these methods names this one as a method for which others are selected, in a program of so many methods with code
pub record IsNamedByInvoke (coded : ℕ) (ks : List Coded) (m : ℕ) : Type 0 where
  pub caller : ℕ
  pub method : Coded
  pub at : slice_get ks caller ≡ Some method
  pub call : Call
  pub among : Contains method.calls call
  pub number : call.targets ≡ coded + m

-- a list that rises, of methods with code; where it is wanted, they are those that are selected for the method
pub record IsSelectedList (P : Program) (m : ℕ) (Wanted : Type 0) (ts : List ℕ) : Type 0 where
  pub rising : IsStrictlyIncreasing ts
  pub coded : (t : ℕ) → Contains ts t → IsSome (body_of P t)
  pub selected : Wanted → IsVirtual P m → (t : ℕ) → Contains ts t ↔ Contains (selected_for P m) t

-- the lists of the first so many methods; those of marked ones are wanted
pub record AreSelected (P : Program) (marks : List Bool) (count : ℕ) (lists : List (List ℕ)) : Type 0 where
  pub long : length lists ≡ count
  pub each : (m : ℕ) → m < count → IsSelectedList P m (slice_index_or marks m false ≡ true) (slice_index_or lists m [])

-- each method with code alone, then what is selected for each method that an invoke of these methods names
pub record AreTargets (cs : List ClassFile) (coded : ℕ) (ks : List Coded) (lists : List (List ℕ)) : Type 0 where
  pub long : length lists ≡ coded + length (methods_by_number cs)
  pub alone : (t : ℕ) → t < coded → slice_index_or lists t [] ≡ t ∷ []
  pub selected : (m : ℕ) → m < length (methods_by_number cs) → IsSelectedList (resolved cs) m (IsNamedByInvoke coded ks m) (slice_index_or lists (coded + m) [])

-- the classes of objects for which methods are selected, by the class that declares the method
abbrev pub AreReceivers : List ClassFile → (method : ℕ) → List ℕ → Type 0
AreReceivers cs m rs = IsSomeAnd (slice_get (methods_by_number cs) m) (λ p. (c : ℕ) → Contains rs c ↔ ((c < length cs) × IsReceiver cs p.0 c))
