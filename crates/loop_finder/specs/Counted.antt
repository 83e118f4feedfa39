-- The loops that count by some rules, each to the least number.
use Rattle.std.specs.Prelude.{◌↔◌, ℕ, ◌≤◌, List, length, Contains}
use Rattle.std.specs.List.{AllAdjacentBelow}
use Rattle.bytecode_model.specs.Program.{Program}
use Rattle.loop_nest.specs.Digraph.{Digraph, IsBefore}
use Rattle.method_flow.specs.Graphs.{IsGraphOf}
use Rattle.loop_rules.specs.declared.found.FoundLoop.{FoundLoop}
use Rattle.loop_rules.specs.Counted.{CountsBy}
use Rattle.loop_rules.specs.Finding.{IsReducibleWhenCompact, places_of}
use Rattle.loop_acts.specs.Rules.{Rules}

-- the loop with the header at this place counts to this number by the rules
abbrev pub CountsWith : Program → Rules → (method : ℕ) → Digraph → (header n : ℕ) → Type 0
CountsWith P rules m g h n = CountsBy P (rules.limit m) (rules.begins m g h) m g h n

-- it counts to this number and to no lesser one, and the method's graph is reducible
pub record IsCountedWith (P : Program) (rules : Rules) (x : FoundLoop) : Type 0 where
  pub graph : Digraph
  pub is_graph : IsGraphOf P x.method graph
  pub reducible : IsReducibleWhenCompact graph
  pub counts : CountsWith P rules x.method graph x.place x.bound
  pub least : (other : ℕ) → CountsWith P rules x.method graph x.place other → x.bound ≤ other

-- these are just the loops of the program that count by the rules, methods and places rising
pub record AreCountedWith (P : Program) (rules : Rules) (xs : List FoundLoop) : Type 0 where
  pub rising : AllAdjacentBelow IsBefore (places_of xs) (length xs)
  pub each : (x : FoundLoop) → Contains xs x ↔ IsCountedWith P rules x
