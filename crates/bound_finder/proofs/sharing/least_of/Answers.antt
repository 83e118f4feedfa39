use Rattle.std.proofs.Common.{◌≡◌, ℕ, List, ◌∷◌, [], ◌++◌, get_or, take, Option, Some, None, sym, subst}
use Rattle.std.proofs.lemmas.List.{take_more, take_all}
use Rattle.section_check.specs.Least.{IsLeast}
use Rattle.bound_finder.specs.Sharing.{IsBeside}
use Rattle.bound_finder.proofs.Besides.{least_more, least_alone}
use Rattle.bound_finder.proofs.sharing.least_of.Goals as goal

pub loop-m-preserved : goal.loop-m-preserved
loop-m-preserved c =
    let methods = c.args.methods.now in
    let least = c.args.least.now in
    let i = c.loop-m.m-index in
    let m = get_or methods i 0 in
    let L : List ℕ → Type 0 = λ ms. IsLeast (IsBeside least ms) c.lesser_of-found.result in
    let O : Option ℕ → Type 0 = λ o. IsLeast (IsBeside least (take i methods ++ m ∷ [])) o in
    subst L (sym (take_more methods i 0 c.loop-m-test.true))
    (subst O (sym c.lesser_of-found.ensures) (least_more (λ x u. get_or least x None ≡ Some u) (take i methods) m c.loop-m.found (get_or least m None) c.loop-m.invariant (least_alone (get_or least m None))))

pub returns : goal.returns
returns c =
    let L : List ℕ → Type 0 = λ ms. IsLeast (IsBeside c.args.least.now ms) c.loop-m.found in
    subst L (take_all c.loop-m.m-index c.args.methods.now c.loop-m-test.false) c.loop-m.invariant
