-- The code of a method as it is searched.
use Rattle.std.specs.Prelude.{◌≡◌, ℕ, ◌*◌, ◌/◌, ◌<◌, Bool, true, List, length, Contains}
use Rattle.loop_nest.specs.Digraph.{Digraph, AreSources, sources_of}
use Rattle.bytecode_model.specs.Program.{Program}
use Rattle.method_flow.specs.Graphs.{IsGraphOf}
use Rattle.code_scan.specs.Scans.{Scanned, IsScanOf}
use Rattle.loop_rules.specs.Further.Search.{AreBacks, flag_at}
use Rattle.loop_rules.specs.Further.Known.{Known}
use Rattle.loop_rules.specs.Sites.{AreNeverPut}
use Rattle.loop_rules.specs.Further.Arrays.{AreApart}
use Rattle.loop_rules.specs.Further.Laws.{StaysAtStarts}
use Rattle.known_ints.specs.declared.parts.Part.{Part}
use Rattle.known_ints.specs.declared.parts.Part.TheVariants as does
use Rattle.known_ints.specs.Parts.{AreParts, part_at}

-- what its instructions do, by place, which places are named and where instructions end, and its graph
pub record CodeOf : Type 0 where
  pub parts : List Part
  pub scan : Scanned
  pub graph : Digraph

-- it neither loads what a local variable holds nor writes one
abbrev pub IsIdle : Part → Type 0
IsIdle (does.Load k) = ⊥
IsIdle (does.LoadReference k) = ⊥
IsIdle (does.Store k) = ⊥
IsIdle (does.StoreReference k) = ⊥
IsIdle (does.StoreLong k) = ⊥
IsIdle (does.Increment k) = ⊥
IsIdle part = Unit {0}

-- only nodes that are such instructions are flagged
pub record AreIdle (parts : List Part) (nodes : ℕ) (flags : List Bool) : Type 0 where
  pub long : length flags ≡ nodes
  pub each : (x : ℕ) → flag_at flags x ≡ true → (p : ℕ) × (x ≡ 2 * p) × IsIdle (part_at parts p)

-- it doesn't stop at such an instruction
abbrev pub StopsAtLocals : List Part → (Stop : ℕ → Type 0) → Type 0
StopsAtLocals parts Stop = (p : ℕ) → IsIdle (part_at parts p) → ¬ Stop (2 * p)

-- a graph with two nodes for each place, and for each node the sources of the edges to it, and to which it may be skipped back from it past such instructions
pub record AreRoutes (c : CodeOf) (ss : List (List ℕ)) (backs : List ℕ) : Type 0 where
  pub nodes : c.graph.nodes ≡ 2 * length c.parts
  pub sources : AreSources c.graph.edges c.graph.nodes ss
  pub flags : List Bool
  pub idle : AreIdle c.parts c.graph.nodes flags
  pub skips : AreBacks c.graph flags backs

-- an edge leads to the instruction at the place
pub record IsEntered (g : Digraph) (place : ℕ) : Type 0 where
  pub within : place < g.nodes / 2
  pub source : ℕ
  pub edge : Contains (sources_of g.edges (2 * place)) source

-- it is the method's
pub record IsCodeOf (P : Program) (known : Known) (m : ℕ) (c : CodeOf) : Type 0 where
  pub parts : AreParts P known m c.parts
  pub scan : IsScanOf P m c.scan
  pub graph : IsGraphOf P m c.graph
  pub stays : StaysAtStarts P m
  pub never_put : AreNeverPut P known.constants
  pub apart : AreApart known
