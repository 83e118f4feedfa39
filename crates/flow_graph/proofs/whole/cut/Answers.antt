use Rattle.std.proofs.Common.{◌≡◌, ℕ, ◌*◌, ◌<◌, Bool, true, List, length, All, Contains, sym, ap, ◌∙◌, subst, arith}
use Rattle.std.specs.Prelude.{◌↔◌}
use Rattle.flow_graph.specs.Edges.{exits_at}
use Rattle.flow_graph.specs.Numbering.{edges_from}
use Rattle.flow_graph.specs.Reach.{AreReached, AreWithin}
use Rattle.flow_graph.proofs.Cutting.{edges_within, kept_within, exits_within, is_code_graph}
use Rattle.flow_graph.proofs.whole.cut.Goals as goal

reached_in : (es : List (ℕ × ℕ)) (code other : List ℕ) (flags : List Bool) → other ≡ code → AreReached es (2 * length other) flags → AreReached es (2 * length code) flags
reached_in es code other flags same r = let P : List ℕ → Type 0 = λ c. AreReached es (2 * length c) flags in subst P same r

leaves_in : (us code other : List ℕ) (flags fs : List Bool) → other ≡ code → fs ≡ flags → ((u : ℕ) → Contains us u ↔ (exits_at other fs u ≡ true)) → (u : ℕ) → Contains us u ↔ (exits_at code flags u ≡ true)
leaves_in us code other flags fs same is h =
    let P : List ℕ → Type 0 = λ c. (u : ℕ) → Contains us u ↔ (exits_at c fs u ≡ true) in
    let Q : List Bool → Type 0 = λ gs. (u : ℕ) → Contains us u ↔ (exits_at code gs u ≡ true) in
    subst Q is (subst P same h)

pub reached-requires-clause-within : goal.reached-requires-clause-within
reached-requires-clause-within c =
    let k = c.args.m.now in
    let es = c.args.edges.now in
    let P : List ℕ → Type 0 = λ code. AreWithin (2 * length code) es in
    subst P (sym c.code-code.ensures.code) (edges_within c.starts_follow_one_another.ensures k c.args.goes.now c.code-code.ensures.whole es c.requires)

pub edges_from-requires : goal.edges_from-requires
edges_from-requires c =
    let k = c.args.m.now in
    let es = c.args.edges.now in
    let long = c.in_ok-flags.ensures.long in
    let code = ap length c.code-code.ensures.code in
    let flags = ap length c.deref-2.ensures.value in
    let size : 2 * length k.code ≡ length c.deref-2.result.now = omega arith in
    let P : ℕ → Type 0 = λ n. AreWithin n es in
    subst P size (edges_within c.starts_follow_one_another.ensures k c.args.goes.now c.code-code.ensures.whole es c.requires)

pub graph_from-requires-clause-edges : goal.graph_from-requires-clause-edges
graph_from-requires-clause-edges c =
    let k = c.args.m.now in
    let es = c.args.edges.now in
    let flags = c.in_ok-flags.flags.items in
    let r = reached_in es k.code c.code-code.result.now flags c.code-code.ensures.code c.in_ok-flags.ensures in
    let kept : c.in_ok-kept.kept.items ≡ edges_from flags es = c.in_ok-kept.ensures ∙ ap (λ (fs : List Bool). edges_from fs es) c.deref-2.ensures.value in
    let P : List ℕ → Type 0 = λ code. AreWithin (2 * length code) c.in_ok-kept.kept.items in
    let Q : List (ℕ × ℕ) → Type 0 = λ xs. AreWithin (2 * length k.code) xs in
    subst P (sym c.code-code.ensures.code) (subst Q (sym kept) (kept_within c.starts_follow_one_another.ensures k c.args.goes.now c.code-code.ensures.whole es c.requires flags r))

pub graph_from-requires-clause-exits : goal.graph_from-requires-clause-exits
graph_from-requires-clause-exits c =
    let k = c.args.m.now in
    let es = c.args.edges.now in
    let flags = c.in_ok-flags.flags.items in
    let us = c.in_ok-exits.exits.items in
    let r = reached_in es k.code c.code-code.result.now flags c.code-code.ensures.code c.in_ok-flags.ensures in
    let leaves = leaves_in us k.code c.code-code.result.now flags c.deref.result.now c.code-code.ensures.code c.deref.ensures.value c.in_ok-exits.ensures in
    let P : List ℕ → Type 0 = λ code. All (λ (u : ℕ). u < 2 * length code) us in
    subst P (sym c.code-code.ensures.code) (exits_within c.starts_follow_one_another.ensures k c.args.goes.now c.code-code.ensures.whole es c.requires flags r us leaves)

pub returns-clause-graph : goal.returns-clause-graph
returns-clause-graph c =
    let k = c.args.m.now in
    let es = c.args.edges.now in
    let flags = c.in_ok-flags.flags.items in
    let us = c.in_ok-exits.exits.items in
    let r = reached_in es k.code c.code-code.result.now flags c.code-code.ensures.code c.in_ok-flags.ensures in
    let leaves = leaves_in us k.code c.code-code.result.now flags c.deref.result.now c.code-code.ensures.code c.deref.ensures.value c.in_ok-exits.ensures in
    let kept : c.in_ok-kept.kept.items ≡ edges_from flags es = c.in_ok-kept.ensures ∙ ap (λ (fs : List Bool). edges_from fs es) c.deref-2.ensures.value in
    let made = c.graph_from.ensures in
    let size = made.nodes ∙ ap (λ (code : List ℕ). 2 * length code) c.code-code.ensures.code in
    let is = is_code_graph c.starts_follow_one_another.ensures k c.args.goes.now c.code-code.ensures.whole es c.requires flags r c.graph_from.result c.in_ok-kept.kept.items us made.digraph size kept made.edges leaves made.exits in
    λ P n of. c.code_graphs_are_graphs.ensures P n k c.args.goes.now c.graph_from.result c.code-code.ensures.whole of is

pub returns-clause-nodes : goal.returns-clause-nodes
returns-clause-nodes c = c.graph_from.ensures.nodes ∙ ap (λ (code : List ℕ). 2 * length code) c.code-code.ensures.code
