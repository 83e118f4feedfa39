-- Instructions among the nodes of a method that make arrays of no length.
use Rattle.std.specs.Prelude.{◌≡◌, ℕ, ◌*◌, ◌<◌, List, Contains, Option, MatchBool, MatchOption, Bool, true, false, Some, None}
use Rattle.loop_nest.specs.Digraph.{Digraph}
use Rattle.bytecode_model.specs.Program.{Program}
use Rattle.method_flow.specs.Keeping.{BoundOf}
use Rattle.memory_rules.specs.declared.sites.Makes.{Makes}
use Rattle.memory_rules.specs.declared.sites.Makes.TheVariants.{Array}
use Rattle.memory_rules.specs.Heap.{IsOn}
use Rattle.memory_bound.specs.Found.{IsUnlimited, HasArrayLength}

-- control reaches the instruction at the place
abbrev pub IsReachedIn : Program → (method place : ℕ) → Type 0
IsReachedIn P m p = (g : Digraph) × IsOn P m g p

-- control reaches the instructions among these nodes
abbrev pub AreOn : Program → (method : ℕ) → (nodes : List ℕ) → Type 0
AreOn P m nodes = (p : ℕ) → Contains nodes (2 * p) → IsReachedIn P m p

-- it is told that arrays are made of no constant length
abbrev pub lacks_constant : Option Makes → Bool
lacks_constant (Some (Array element None)) = true
lacks_constant makes = false

-- whether the instruction at the place makes arrays without a length
abbrev pub TellsLength : Program → BoundOf → (method place : ℕ) → Bool → Type 0
TellsLength P lengths m p lacks = MatchBool lacks (IsUnlimited P lengths m p) (HasArrayLength P lengths m p)

-- whether the node is such an instruction
abbrev pub TellsNode : Program → BoundOf → (method node : ℕ) → Bool → Type 0
TellsNode P lengths m u lacks = MatchBool lacks ((p : ℕ) × (2 * p ≡ u) × IsUnlimited P lengths m p) ((p : ℕ) → 2 * p ≡ u → HasArrayLength P lengths m p)

-- the place of the first of these nodes, which rise, that is such an instruction; or none is
abbrev pub IsFirstAmong : Program → BoundOf → (method : ℕ) → (nodes : List ℕ) → Option ℕ → Type 0
IsFirstAmong P lengths m nodes o = MatchOption o ((p : ℕ) → Contains nodes (2 * p) → HasArrayLength P lengths m p)
    (λ p. Contains nodes (2 * p) × IsUnlimited P lengths m p × ((q : ℕ) → q < p → Contains nodes (2 * q) → HasArrayLength P lengths m q))
