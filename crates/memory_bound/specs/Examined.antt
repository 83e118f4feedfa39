-- What is found of each of some methods.
use Rattle.std.specs.Prelude.{ℕ, List, [], Contains, IsTrue}
use Rattle.bytecode_model.specs.Program.{Program}
use Rattle.method_flow.specs.Flow.{Flow, IsFlowOf}
use Rattle.bound_rules.specs.Bounding.{IsLeftWith}
use Rattle.call_regions.specs.Calling.{IsTargetsFirst}
use Rattle.memory_bound.specs.declared.found.Found.{Found}
use Rattle.memory_bound.specs.Setting.{NeedSetting, ForEach, bounds_in, lengths_in}
use Rattle.memory_bound.specs.Found.{IsMemoryFoundOf, found_at}

-- it is said of a method alone whose graph's reduction leaves no nodes that it is reducible
abbrev pub TellsReducible : Program → (method : ℕ) → Found → Type 0
TellsReducible P m x = IsTrue x.reducible → IsLeftWith P m []

abbrev pub AreToldReducible : Flow → (methods : List ℕ) → List Found → Type 0
AreToldReducible f ms table = (P : Program) → IsFlowOf P f → (m : ℕ) → Contains ms m → TellsReducible P m (found_at table m)

-- of each of these methods, which stand behind what they may run, it is found what it makes, where no graph's reduction leaves nodes
abbrev pub AreFoundIn : NeedSetting → (order : List ℕ) → List Found → Type 0
AreFoundIn s order table = ForEach s (λ P. IsTargetsFirst P P.boot order → ((m : ℕ) → Contains order m → IsLeftWith P m [])
    → (m : ℕ) → Contains order m → IsMemoryFoundOf P (bounds_in s) (lengths_in s) m (found_at table m))
