use Rattle.std.proofs.Common.{◌≡◌, ℕ, ◌+◌, List, [], ◌∷◌, ◌++◌, length, sym, ap, ◌∙◌, subst, inl, inr}
use Rattle.std.proofs.lemmas.List.{length_push}
use Rattle.bound_texts.specs.Loops.Bounds.{LoopBound}
use Rattle.bytecode_model.specs.Program.{Program}
use Rattle.method_flow.specs.Flow.{Flow, IsFlowOf}
use Rattle.node_costs.specs.Costs.{bounds_of}
use Rattle.bound_finder.proofs.Pushed.{push_cases}
use Rattle.method_bounds.specs.declared.loops.Loops.{Loops}
use Rattle.method_bounds.specs.Loops.{AreLoops, AreLoopsOf}
use Rattle.method_bounds.proofs.loops.all_loops.Goals as goal

module _ (f : Flow) (bounds : List LoopBound) (loops : List Loops) (m : ℕ) (found : Loops) where
  loops_more : length loops ≡ m → AreLoopsOf f bounds loops → ((P : Program) → IsFlowOf P f → AreLoops P (bounds_of f bounds) m found) → AreLoopsOf f bounds (loops ++ found ∷ [])
  loops_more long before last k x at P is =
      elim (push_cases loops found x k at) [
        | inl old ↦ before k x old P is
        | inr new' ↦
            let same : m ≡ k = sym long ∙ sym new'.0 in
            let K : ℕ → Type 0 = λ n. AreLoops P (bounds_of f bounds) n x in
            let X : Loops → Type 0 = λ y. AreLoops P (bounds_of f bounds) m y in
            subst K same (subst X new'.1 (last P is))
      ]

pub loop-m-preserved : goal.loop-m-preserved
loop-m-preserved c =
    let f = c.args.f.now in
    let b = c.args.b.now in
    let loops = c.loop-m.loops.items in
    let found = c.in_ok-found.found in
    let L : List Loops → Type 0 = λ xs. AreLoopsOf f b xs in
    record {
      long = ap length c.in_ok-push.ensures.items ∙ (length_push loops found ∙ ap (λ (k : ℕ). k + 1) c.loop-m.invariant.long);
      each = subst L (sym c.in_ok-push.ensures.items) (loops_more f b loops c.loop-m.m found c.loop-m.invariant.long c.loop-m.invariant.each c.in_ok-found.ensures);
    }
