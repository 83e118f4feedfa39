use Rattle.std.proofs.Common.{ℕ, ◌<◌, List, Contains, sym, ap, subst}
use Rattle.std.specs.Prelude.{◌↔◌}
use Rattle.loop_nest.specs.Digraph.{Digraph}
use Rattle.flow_graph.proofs.Rising.{all_of}
use Rattle.flow_graph.proofs.sorting.graph_from.Goals as goal

pub new-requires : goal.new-requires
new-requires c =
    let n = c.args.nodes in
    record {
      entry = c.requires.entry;
      edges = record {
        ends = all_of (λ (e : ℕ × ℕ). (e.0 < n) × (e.1 < n)) c.args.edges.items c.rising_edges.result.items (λ e has. (c.rising_edges.ensures.same e).0 has) c.requires.edges;
        rising = c.rising_edges.ensures.rising;
      };
      exits = record {
        within = all_of (λ (u : ℕ). u < n) c.args.exits.items c.rising_nodes.result.items (λ u has. (c.rising_nodes.ensures.same u).0 has) c.requires.exits;
        rising = c.rising_nodes.ensures.rising;
      };
    }

pub returns-clause-edges : goal.returns-clause-edges
returns-clause-edges c = λ e.
    let P : List (ℕ × ℕ) → Type 0 = λ es. Contains es e ↔ Contains c.args.edges.items e in
    subst P (sym (ap (λ (g : Digraph). g.edges) c.new.ensures)) (c.rising_edges.ensures.same e)

pub returns-clause-exits : goal.returns-clause-exits
returns-clause-exits c = λ u.
    let P : List ℕ → Type 0 = λ us. Contains us u ↔ Contains c.args.exits.items u in
    subst P (sym (ap (λ (g : Digraph). g.exits) c.new.ensures)) (c.rising_nodes.ensures.same u)
