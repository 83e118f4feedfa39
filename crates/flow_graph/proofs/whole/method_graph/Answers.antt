use Rattle.std.proofs.Common.{ℕ, List, sym, subst}
use Rattle.flow_graph.specs.Edges.{AreCodeEdges}
use Rattle.flow_graph.proofs.whole.method_graph.Goals as goal

pub cut-requires : goal.cut-requires
cut-requires c =
    let P : List (ℕ × ℕ) → Type 0 = λ es. AreCodeEdges c.args.m.now c.args.goes.now es in
    subst P (sym c.deref.ensures.value) c.in_ok-edges.ensures
