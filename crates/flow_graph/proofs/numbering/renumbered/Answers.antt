use Rattle.std.proofs.Common.{◌≡◌, ℕ, ◌<◌, List, length, Contains, All, sym, ap, ◌∙◌, subst, arith}
use Rattle.std.specs.Prelude.{◌↔◌}
use Rattle.flow_graph.specs.Numbering.{IsCompactOf, renumbered_edges, renumbered_nodes}
use Rattle.flow_graph.specs.Reach.{AreWithin}
use Rattle.flow_graph.proofs.Renumbering.{some_nodes, new_edges_within, new_exits_within, is_compact}
use Rattle.flow_graph.proofs.numbering.renumbered.Goals as goal

pub overflow_cast-len : goal.overflow_cast-len
overflow_cast-len c =
    let few = c.requires.numbered.few in
    let ok = c.args.nodes.ok in
    let small = c.requires.few in
    omega (arith, c.len.ensures, ok.0)

pub graph_from-graph-requires-clause-entry : goal.graph_from-graph-requires-clause-entry
graph_from-graph-requires-clause-entry c =
    let some = some_nodes c.args.g.now c.args.flags.now c.args.nodes.items c.args.numbers.now c.requires.flags c.requires.numbered c.requires.valid.entry in
    let ok = c.args.nodes.ok in
    omega (arith, c.len.ensures, ok.0)

pub graph_from-graph-requires-clause-edges : goal.graph_from-graph-requires-clause-edges
graph_from-graph-requires-clause-edges c =
    let g = c.args.g.now in
    let flags = c.args.flags.now in
    let numbers = c.args.numbers.now in
    let nodes = c.args.nodes.items in
    let ok = c.args.nodes.ok in
    let count : length nodes ≡ c.len.result = omega (arith, c.len.ensures, ok.0) in
    let es : c.in_ok-edges.edges.items ≡ renumbered_edges flags numbers g.edges = c.in_ok-edges.ensures ∙ ap (renumbered_edges flags numbers) c.edges.ensures.edges in
    let P : ℕ → Type 0 = λ n. AreWithin n c.in_ok-edges.edges.items in
    let Q : List (ℕ × ℕ) → Type 0 = λ xs. AreWithin (length nodes) xs in
    subst P count (subst Q (sym es) (new_edges_within g flags nodes numbers c.requires.flags c.requires.numbered c.requires.valid.entry))

pub graph_from-graph-requires-clause-exits : goal.graph_from-graph-requires-clause-exits
graph_from-graph-requires-clause-exits c =
    let g = c.args.g.now in
    let flags = c.args.flags.now in
    let numbers = c.args.numbers.now in
    let nodes = c.args.nodes.items in
    let ok = c.args.nodes.ok in
    let count : length nodes ≡ c.len.result = omega (arith, c.len.ensures, ok.0) in
    let us : c.in_ok-exits.exits.items ≡ renumbered_nodes flags numbers g.exits = c.in_ok-exits.ensures ∙ ap (renumbered_nodes flags numbers) c.exits.ensures.exits in
    let P : ℕ → Type 0 = λ n. All (λ (u : ℕ). u < n) c.in_ok-exits.exits.items in
    let Q : List ℕ → Type 0 = λ xs. All (λ (u : ℕ). u < length nodes) xs in
    subst P count (subst Q (sym us) (new_exits_within g flags nodes numbers c.requires.flags c.requires.numbered c.requires.valid.entry c.requires.valid))

pub returns : goal.returns
returns c =
    let g = c.args.g.now in
    let flags = c.args.flags.now in
    let numbers = c.args.numbers.now in
    let nodes = c.args.nodes.items in
    let d = c.graph_from-graph.result in
    let made = c.graph_from-graph.ensures in
    let ok = c.args.nodes.ok in
    let size : d.nodes ≡ length nodes = omega (arith, c.len.ensures, ok.0, made.nodes) in
    let es : c.in_ok-edges.edges.items ≡ renumbered_edges flags numbers g.edges = c.in_ok-edges.ensures ∙ ap (renumbered_edges flags numbers) c.edges.ensures.edges in
    let us : c.in_ok-exits.exits.items ≡ renumbered_nodes flags numbers g.exits = c.in_ok-exits.ensures ∙ ap (renumbered_nodes flags numbers) c.exits.ensures.exits in
    let P : List (ℕ × ℕ) → Type 0 = λ xs. (e : ℕ × ℕ) → Contains d.edges e ↔ Contains xs e in
    let Q : List ℕ → Type 0 = λ xs. (u : ℕ) → Contains d.exits u ↔ Contains xs u in
    let is = is_compact g flags nodes numbers c.requires.flags c.requires.numbered c.requires.valid.entry d size (subst P es made.edges) (subst Q us made.exits) c.requires.valid made.digraph in
    let R : List ℕ → Type 0 = λ ns. IsCompactOf g (record { graph = d; nodes = ns }) in
    subst R (sym c.new.ensures) (record { compact = is; long = sym size })
