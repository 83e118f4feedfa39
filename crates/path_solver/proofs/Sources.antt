-- The sources of the edges to a node, and flags that fall in number.
use Rattle.std.proofs.Common.{◌≡◌, ℕ, ◌<◌, Bool, true, false, not, List, length, get_or, set, filter, All, Contains, refl, ap, subst}
use Rattle.std.proofs.lemmas.List.Elements.{All-weaker}
use Rattle.loop_nest.specs.Digraph.{Digraph, IsDigraph, sources_of, turned}
use Rattle.loop_nest.proofs.Elements.{from_map}
use Rattle.loop_nest.proofs.Searching.{from_sources, fewer-set}

-- how many flags are not set
pub unset : List Bool → ℕ
unset flags = length (filter not flags)

pub unset-set : (u : ℕ) (flags : List Bool) → u < length flags → get_or flags u false ≡ false → unset (set flags u true) < unset flags
unfolding unset
unset-set u flags lt at = fewer-set not flags u true false lt (ap not at) refl

pub targets_within : (g : Digraph) → IsDigraph g → All (λ (e : ℕ × ℕ). e.1 < g.nodes) g.edges
targets_within g wf = All-weaker (λ (e : ℕ × ℕ). (e.0 < g.nodes) × (e.1 < g.nodes)) (λ (e : ℕ × ℕ). e.1 < g.nodes) (λ e h. h.1) g.edges wf.edges.ends

-- the targets of the edges from u
pub turned_edge : (es : List (ℕ × ℕ)) (u v : ℕ) → Contains (sources_of (turned es) u) v → Contains es (u, v)
turned_edge es u v has =
    let r = from_map (λ (e : ℕ × ℕ). (e.1, e.0)) es (v, u) (from_sources (turned es) v u has) in
    let P : ℕ × ℕ → Type 0 = λ z. Contains es (z.1, z.0) in
    subst P r.2 r.1
