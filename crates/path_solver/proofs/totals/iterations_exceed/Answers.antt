use Rattle.std.proofs.Common.{◌≡◌, ℕ, ◌+◌, ◌^◌, ◌<◌, ◌≤◌, List, [], ◌∷◌, ◌++◌, length, get_or, take, sym, ap, ◌∙◌, subst, arith, rules, tests}
use Rattle.std.proofs.lemmas.List.{length-take-le, take_more, take_all, with_items_is}
use Rattle.std.proofs.lemmas.Iterator.{cases_from_any, YieldsList-from_slice}
use Rattle.loop_nest.specs.Nest.{NaturalLoop}
use Rattle.path_solver.specs.Totals.{AreIterationsAdded}
use Rattle.path_solver.proofs.AddingUp.{AreTotals, totals_push, some_exceed}
use Rattle.path_solver.proofs.totals.iterations_exceed.Goals as goal

pub loop-i-preserved : goal.loop-i-preserved
loop-i-preserved c =
    let ls = c.args.loops.now in
    let ws = c.args.iteration_costs.now in
    let n = c.args.nodes in
    let i = c.loop-i.i in
    let lt = c.loop-i-test.true in
    let same = c.requires.iteration_costs in
    let l = c.index-loops-i.result in
    let w = get_or ws i 0 in
    let old = c.loop-i.totals.items in
    let now = c.add_iteration_cost.new.totals in
    let first : length (take i ws) ≡ length (take i ls) = length-take-le i ws (omega arith) ∙ sym (length-take-le i ls (omega arith)) in
    let P : List ℕ → Type 0 = λ ms. AreIterationsAdded ms w c.deref_mut.result.now now in
    let Q : List ℕ → Type 0 = λ ds. AreIterationsAdded l.members w ds now in
    let added : AreIterationsAdded l.members w old now = subst Q c.deref_mut.ensures.value (subst P c.members.ensures c.add_iteration_cost.ensures) in
    let here : take (i + 1) ls ≡ take i ls ++ l ∷ [] = take_more ls i l lt ∙ ap (λ (z : NaturalLoop). take i ls ++ z ∷ []) (sym c.index-loops-i.is) in
    let there : take (i + 1) ws ≡ take i ws ++ w ∷ [] = take_more ws i 0 (omega arith) in
    let ok = c.loop-i.totals.ok in
    let long = added.long in
    let R : List ℕ → Type 0 = λ ds. AreTotals (take (i + 1) ls) (take (i + 1) ws) n ds in
    let S : List NaturalLoop → Type 0 = λ zs. AreTotals zs (take (i + 1) ws) n now in
    let T : List ℕ → Type 0 = λ zs. AreTotals (take i ls ++ l ∷ []) zs n now in
    subst R (sym (with_items_is c.loop-i.totals now (omega (arith, ok.0)))) (subst S (sym here) (subst T (sym there) (totals_push (take i ls) (take i ws) n old now l w first c.loop-i.invariant added)))

pub returns : goal.returns
returns c =
    let ls = c.args.loops.now in
    let ws = c.args.iteration_costs.now in
    let n = c.args.nodes in
    let i = c.loop-i.i in
    let ds = c.loop-i.totals.items in
    let same = c.requires.iteration_costs in
    let end = c.loop-i-test.false in
    let P : List NaturalLoop → Type 0 = λ zs. AreTotals zs ws n ds in
    let Q : List ℕ → Type 0 = λ zs. AreTotals (take i ls) zs n ds in
    let whole = subst P (take_all i ls end) (subst Q (take_all i ws (omega arith)) c.loop-i.invariant) in
    some_exceed ls ws n ds c.any.result whole (cases_from_any _ _ _ (λ d. 2 ^ 64 ≤ d) (λ d. d < 2 ^ 64) c.any.ensures.ran (YieldsList-from_slice ds cc) (λ x q k. search (rules, tests)) (λ x q k. search (rules, tests)))
