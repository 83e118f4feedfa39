use Rattle.std.proofs.Common.{ℕ, List, ◌∷◌, [], ◌++◌, get_or, take, sym, subst}
use Rattle.std.proofs.lemmas.List.{take_more}
use Rattle.bound_finder.specs.declared.ending.MethodBound.{MethodBound}
use Rattle.bound_finder.specs.Sharing.{AreMethodBounds}
use Rattle.bound_finder.proofs.Bounded.{bounds_more}
use Rattle.bound_finder.proofs.sharing.bounds.Goals as goal

pub method_bound-requires-clause-known : goal.method_bound-requires-clause-known
method_bound-requires-clause-known c = c.requires.within c.loop-m.m-index 0 c.loop-m-test.true

pub loop-m-preserved : goal.loop-m-preserved
loop-m-preserved c =
    let set = c.args.task.now in
    let order = c.args.order.now in
    let i = c.loop-m.m-index in
    let m = get_or order i 0 in
    let A : List ℕ → Type 0 = λ ms. AreMethodBounds set ms c.push.new.self.items in
    let B : List MethodBound → Type 0 = λ bs. AreMethodBounds set (take i order ++ m ∷ []) bs in
    subst A (sym (take_more order i 0 c.loop-m-test.true))
    (subst B (sym c.in_ok-push.ensures.items) (bounds_more set (take i order) c.loop-m.bounds.items m c.method_bound.result c.loop-m.invariant c.method_bound.ensures.bound))
