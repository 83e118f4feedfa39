-- The loops of a method, and of methods one after another.
use Rattle.std.specs.Prelude.{◌≡◌, ◌↔◌, ℕ, ◌*◌, ℤ, List, [], ◌∷◌, ◌++◌, length, map, Contains, Some, None, slice_index}
use Rattle.std.specs.declared.option.Option.{Option}
use Rattle.std.specs.List.Sorted.{IsStrictlyIncreasing}
use Rattle.section_check.specs.Least.{IsLeast}
use Rattle.bytecode_model.specs.Program.{Program}
use Rattle.loop_nest.specs.Digraph.{Digraph}
use Rattle.loop_nest.specs.Nest.{NaturalLoop, IsNest, header_at}
use Rattle.method_flow.specs.Compact.{IsCompact}
use Rattle.loop_rules.specs.declared.found.FoundLoop.{FoundLoop}
use Rattle.loop_acts.specs.declared.effects.Act.{Act}
use Rattle.loop_acts.specs.Acts.{AreActs}
use Rattle.loop_acts.specs.Rules.{Rules}
use Rattle.loop_finder.specs.Counted.{IsCountedWith}
use Rattle.loop_finder.specs.declared.body.Beginnings.{Beginnings}
use Rattle.loop_finder.specs.Counting.{AreBounds, BeginsIn, Body, Counts}
use Rattle.loop_finder.specs.Beginning.{IsSteppedAt}

-- these are the loops of the compact graph of g, whose nodes have these numbers in g
pub record IsNestBy (g : Digraph) (nodes : List ℕ) (ls : List NaturalLoop) : Type 0 where
  pub compact : Digraph
  pub is : IsCompact g compact (slice_index nodes)
  pub long : length nodes ≡ compact.nodes
  pub nest : IsNest compact ls

-- the place of the header of loop i and the least of the loop's numbers; or none, where it has no such number or its header is no instruction
pub record IsBoundOfLoop (b : Body) (node : ℕ → ℕ) (ls : List NaturalLoop) (i : ℕ) (found : Option (ℕ × ℕ)) : Type 0 where
  pub each : (p n : ℕ) → (found ≡ Some (p, n)) ↔ ((node (header_at ls i) ≡ 2 * p) × IsLeast (Counts b (2 * p)) (Some n))

-- behind others the bound of a loop, if it has one
abbrev pub with_bound : List (ℕ × ℕ) → Option (ℕ × ℕ) → List (ℕ × ℕ)
with_bound bounds None = bounds
with_bound bounds (Some x) = bounds ++ x ∷ []

-- by the body a local variable that has its only step in a loop, on each iteration, begins there with what it does by the rules
abbrev pub AreBeginsBy : Rules → (method : ℕ) → Body → Type 0
AreBeginsBy rules m b = (h k u : ℕ) (c : ℤ) → IsSteppedAt b (2 * h) k u → rules.begins m b.graph h k c ↔ BeginsIn b (2 * h) k c

-- by what the method's instructions do, and with what local variables begin, these are the bounds of the loops of a graph
pub record AreBoundsBy (P : Program) (rules : Rules) (m : ℕ) (g : Digraph) (bounds : List (ℕ × ℕ)) : Type 0 where
  pub acts : List Act
  pub begins : Beginnings
  pub are_acts : AreActs P rules m acts
  pub are_begins : AreBeginsBy rules m (record { acts = acts; graph = g; begins = begins })
  pub are_bounds : AreBounds (record { acts = acts; graph = g; begins = begins }) bounds

-- just the loops of the method that count by the rules, by the places of their headers, with their bounds
pub record AreMethodBounds (P : Program) (rules : Rules) (m : ℕ) (bounds : List (ℕ × ℕ)) : Type 0 where
  pub rising : IsStrictlyIncreasing (map (λ x. x.0) bounds)
  pub each : (p n : ℕ) → Contains bounds (p, n) ↔ IsCountedWith P rules (record { method = m; place = p; bound = n })

abbrev pub found_in : (method : ℕ) → ℕ × ℕ → FoundLoop
found_in m x = record { method = m; place = x.0; bound = x.1 }

-- the loops of the method stand behind the old ones
abbrev pub IsAppended : (method : ℕ) → List (ℕ × ℕ) → List FoundLoop → List FoundLoop → Type 0
IsAppended m bounds old new = new ≡ old ++ map (found_in m) bounds
