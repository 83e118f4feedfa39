-- Loops that count by what is known further.
use Rattle.std.specs.Prelude.{◌≡◌, ◌↔◌, ℕ, ◌≤◌, ℤ, List, length, Contains}
use Rattle.std.specs.List.{AllAdjacentBelow}
use Rattle.bytecode_model.specs.Program.{Program}
use Rattle.loop_nest.specs.Digraph.{Digraph, IsBefore}
use Rattle.loop_nest.specs.Walks.{IsHeader}
use Rattle.method_flow.specs.Graphs.{IsGraphOf}
use Rattle.loop_rules.specs.declared.found.FoundLoop.{FoundLoop}
use Rattle.loop_rules.specs.Finding.{IsReducibleWhenCompact, places_of}
use Rattle.loop_rules.specs.Further.Known.{Known}
use Rattle.loop_rules.specs.Further.Beginning.{BeginsAt}
use Rattle.loop_rules.specs.Further.Laws.{StaysAtStarts}
use Rattle.counted_laws.specs.Counting.{CountsFurther}
use Rattle.loop_acts.specs.Rules.{further}
use Rattle.loop_finder.specs.Counted.{CountsWith}

-- the loop of the method with the header at this place counts to this number with what is known further, and to no lesser one, and the method's graph is
-- reducible
pub record IsCountedFurther (P : Program) (known : Known) (x : FoundLoop) : Type 0 where
  pub graph : Digraph
  pub is_graph : IsGraphOf P x.method graph
  pub reducible : IsReducibleWhenCompact graph
  pub counts : CountsFurther P known x.method graph x.place x.bound
  pub least : (other : ℕ) → CountsFurther P known x.method graph x.place other → x.bound ≤ other

-- these are just the loops of the program that so count, methods and places rising
pub record AreCountedFurther (P : Program) (known : Known) (xs : List FoundLoop) : Type 0 where
  pub rising : AllAdjacentBelow IsBefore (places_of xs) (length xs)
  pub each : (x : FoundLoop) → Contains xs x ↔ IsCountedFurther P known x

-- a loop counts by the further rules just where it so counts
abbrev pub FurtherRulesAreRight : Type 0
FurtherRulesAreRight =
    (P : Program) (known : Known) (m : ℕ) (g : Digraph) (h n : ℕ) → IsGraphOf P m g → CountsWith P (further P known) m g h n ↔ CountsFurther P known m g h n

-- in a loop of a method's graph a local variable begins with one int at most
abbrev pub BeginningsAreOne : Type 0
BeginningsAreOne =
    (P : Program) (known : Known) (m : ℕ) (g : Digraph) (h local : ℕ) (c d : ℤ) → IsGraphOf P m g → StaysAtStarts P m → IsHeader g h
    → BeginsAt P known m g h local c → BeginsAt P known m g h local d → c ≡ d
