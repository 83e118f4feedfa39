use Rattle.std.proofs.Common.{List, sym, subst}
use Rattle.method_bounds.specs.declared.loops.Loops.{Loops}
use Rattle.method_bounds.specs.Loops.{AreLoopsOf}
use Rattle.method_bounds.proofs.method_bounds.Goals as goal

pub answers_of-requires-clause-sorted : goal.answers_of-requires-clause-sorted
answers_of-requires-clause-sorted c =
    let b = c.args.b.now in
    let L : List Loops → Type 0 = λ xs. AreLoopsOf c.args.f.now b xs in
    c.in_ok-sorted.ensures.sorted b (subst L (sym c.deref.ensures.value) c.in_ok-loops.ensures.each)
