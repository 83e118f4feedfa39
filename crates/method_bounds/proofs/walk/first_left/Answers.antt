use Rattle.std.proofs.Common.{ℕ, List, All, take, take_all, get_or, sym, ◌∙◌, subst}
use Rattle.std.proofs.lemmas.List.{take_more}
use Rattle.std.proofs.lemmas.List.Elements.{All-push}
use Rattle.method_bounds.specs.Walking.{IsOrdered}
use Rattle.method_bounds.proofs.walk.first_left.Goals as goal

pub loop-t-preserved : goal.loop-t-preserved
loop-t-preserved c =
    let targets = c.args.targets.now in
    let states = c.args.states.now in
    let i = c.loop-t.t-index in
    let O : ℕ → Type 0 = λ t. IsOrdered states t in
    let A : List ℕ → Type 0 = λ ts. All O ts in
    let ordered : O (get_or targets i 0) = sym c.state_at.ensures ∙ c.is_ordered.ensures.0 c.if-not-is_ordered.false in
    subst A (sym (take_more targets i 0 c.loop-t-test.true)) (All-push O (take i targets) (get_or targets i 0) c.loop-t.invariant ordered)

pub returns-clause-none : goal.returns-clause-none
returns-clause-none c =
    let A : List ℕ → Type 0 = λ ts. All (IsOrdered c.args.states.now) ts in
    subst A (take_all c.loop-t.t-index c.args.targets.now c.loop-t-test.false) c.loop-t.invariant
