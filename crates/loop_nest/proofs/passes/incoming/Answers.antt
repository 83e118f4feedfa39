use Rattle.std.proofs.Common.{ℕ, ◌<◌, List, All, sym, subst}
use Rattle.loop_nest.specs.Digraph.{AreSources}
use Rattle.loop_nest.specs.Pointers.{AreNumbered}
use Rattle.loop_nest.proofs.Pointing.{numbered_within, incoming_of}
use Rattle.loop_nest.proofs.passes.incoming.Goals as goal

pub by_target-requires : goal.by_target-requires
by_target-requires c =
    let g = c.args.g.now in
    let P : ℕ → Type 0 = λ n. All (λ (e : ℕ × ℕ). e.1 < n) c.deref.result.now in
    let Q : List (ℕ × ℕ) → Type 0 = λ ls. All (λ (e : ℕ × ℕ). e.1 < g.nodes) ls in
    let R : List (ℕ × ℕ) → Type 0 = λ es. AreNumbered es c.in_ok-numbered.numbered.items in
    subst P (sym c.nodes.ensures.nodes) (subst Q (sym c.deref.ensures.value) (numbered_within g c.in_ok-numbered.numbered.items c.nodes.ensures.valid (subst R c.edges-edges.ensures.edges c.in_ok-numbered.ensures)))

pub returns : goal.returns
returns c =
    let g = c.args.g.now in
    let R : List (ℕ × ℕ) → Type 0 = λ es. AreNumbered es c.in_ok-numbered.numbered.items in
    let P : ℕ → Type 0 = λ n. AreSources c.deref.result.now n c.in_ok-numbers.numbers in
    let Q : List (ℕ × ℕ) → Type 0 = λ ls. AreSources ls g.nodes c.in_ok-numbers.numbers in
    incoming_of g c.in_ok-numbered.numbered.items c.in_ok-numbers.numbers (subst Q c.deref.ensures.value (subst P c.nodes.ensures.nodes c.in_ok-numbers.ensures)) (subst R c.edges-edges.ensures.edges c.in_ok-numbered.ensures)
