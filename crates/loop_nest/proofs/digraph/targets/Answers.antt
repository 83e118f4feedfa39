use Rattle.std.proofs.Common.{◌≡◌, ℕ, ◌<◌, List, map, All, sym, ap, ◌∙◌, subst}
use Rattle.loop_nest.proofs.Linked.{turned_within}
use Rattle.loop_nest.proofs.digraph.targets.Goals as goal

pub by_target-requires : goal.by_target-requires
by_target-requires c =
    let g = c.args.g.now in
    let is : c.deref.result.now ≡ map (λ (e : ℕ × ℕ). (e.1, e.0)) g.edges =
    c.deref.ensures.value ∙ c.in_ok-turned.ensures ∙ ap (map (λ (e : ℕ × ℕ). (e.1, e.0))) c.edges.ensures.edges in
    let P : List (ℕ × ℕ) → Type 0 = λ es. All (λ (e : ℕ × ℕ). e.1 < g.nodes) es in
    let Q : ℕ → Type 0 = λ n. All (λ (e : ℕ × ℕ). e.1 < n) c.deref.result.now in
    subst Q (sym c.nodes.ensures.nodes) (subst P (sym is) (turned_within g c.nodes.ensures.valid))
