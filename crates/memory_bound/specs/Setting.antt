-- What the needs are told of.
use Rattle.std.specs.Prelude.{◌≡◌, ℕ, List, [], length, Some, None, slice_get}
use Rattle.bound_texts.specs.Loops.Bounds.{LoopBound}
use Rattle.bytecode_model.specs.Program.{Program}
use Rattle.method_flow.specs.Flow.{Flow, IsFlowOf}
use Rattle.method_flow.specs.Keeping.{BoundOf}
use Rattle.node_costs.specs.Costs.{bounds_of}
use Rattle.memory_rules.specs.declared.sites.Site.{Site}
use Rattle.memory_rules.specs.Sites.{MethodNeeds, AreSitesOf}

-- a program's table, what its instructions make, the bounds of its loops and the lengths of its arrays
pub record NeedSetting : Type 0 where
  pub flow : Flow
  pub sites : List MethodNeeds
  pub bounds : List LoopBound
  pub lengths : List LoopBound

-- the tables have as many methods
abbrev pub IsNeedSetting : NeedSetting → Type 0
IsNeedSetting s = length s.sites ≡ length s.flow.methods

abbrev pub bounds_in : NeedSetting → BoundOf
bounds_in s = bounds_of s.flow s.bounds

abbrev pub lengths_in : NeedSetting → BoundOf
lengths_in s = bounds_of s.flow s.lengths

-- the sites of a method, and the words of its frame
abbrev pub sites_of : NeedSetting → (method : ℕ) → List Site
sites_of s m = elim (slice_get s.sites m) [ None ↦ [] | Some k ↦ k.sites ]

abbrev pub words_of : NeedSetting → (method : ℕ) → ℕ
words_of s m = elim (slice_get s.sites m) [ None ↦ 0 | Some k ↦ k.words ]

-- this holds for each program of the tables
abbrev pub ForEach : NeedSetting → (Program → Type 0) → Type 0
ForEach s Holds = (P : Program) → IsFlowOf P s.flow → AreSitesOf P s.sites → Holds P
