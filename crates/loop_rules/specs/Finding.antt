-- The loops of a program that count.
use Rattle.std.specs.Prelude.{◌↔◌, ℕ, List, length, map, Contains}
use Rattle.std.specs.List.{AllAdjacentBelow}
use Rattle.bytecode_model.specs.Program.{Program}
use Rattle.loop_nest.specs.Digraph.{Digraph, IsBefore}
use Rattle.loop_nest.specs.Reduction.{IsReducible}
use Rattle.method_flow.specs.Compact.{IsCompact}
use Rattle.method_flow.specs.Graphs.{IsGraphOf}
use Rattle.loop_rules.specs.declared.found.FoundLoop.{FoundLoop}
use Rattle.loop_rules.specs.Tests.{Constants}
use Rattle.loop_rules.specs.Counted.{IsCounted}

-- the reduction of the graph's compact graph leaves its entry alone
pub record IsReducibleWhenCompact (g : Digraph) : Type 0 where
  pub compact : Digraph
  pub node : ℕ → ℕ
  pub is_compact : IsCompact g compact node
  pub reducible : IsReducible compact

-- the loop of the method with the header at this place counts to this number, and the method's graph is reducible
pub record IsCountedLoop (P : Program) (constants : Constants) (x : FoundLoop) : Type 0 where
  pub graph : Digraph
  pub is_graph : IsGraphOf P x.method graph
  pub reducible : IsReducibleWhenCompact graph
  pub counted : IsCounted P constants x.method graph x.place x.bound

-- loops by method and place
abbrev pub places_of : List FoundLoop → List (ℕ × ℕ)
places_of xs = map (λ x. (x.method, x.place)) xs

-- these are just the loops of the program that count, methods and places rising
pub record AreCountedLoops (P : Program) (constants : Constants) (xs : List FoundLoop) : Type 0 where
  pub rising : AllAdjacentBelow IsBefore (places_of xs) (length xs)
  pub each : (x : FoundLoop) → Contains xs x ↔ IsCountedLoop P constants x
