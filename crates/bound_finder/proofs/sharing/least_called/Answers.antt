use Rattle.std.proofs.Common.{ℕ, List, ◌∷◌, [], ◌++◌, get_or, take, Option, sym, subst}
use Rattle.std.proofs.lemmas.List.{take_more, take_all}
use Rattle.section_check.specs.Least.{IsLeast}
use Rattle.method_flow.specs.declared.flow.Call.{Call}
use Rattle.method_flow.specs.Flow.{targets_of_call}
use Rattle.bound_finder.specs.Sharing.{IsBeside, IsBesideCalled}
use Rattle.bound_finder.proofs.Besides.{least_more}
use Rattle.bound_finder.proofs.sharing.least_called.Goals as goal

pub loop-call-preserved : goal.loop-call-preserved
loop-call-preserved c =
    let f = c.args.f.now in
    let calls = c.args.calls.now in
    let least = c.args.least.now in
    let i = c.loop-call.call-index in
    let none : Call = record { place = 0; targets = 0 } in
    let call = get_or calls i none in
    let L : List Call → Type 0 = λ cs. IsLeast (IsBesideCalled f cs least) c.lesser_of-found.result in
    let O : Option ℕ → Type 0 = λ o. IsLeast (IsBesideCalled f (take i calls ++ call ∷ []) least) o in
    let T : List ℕ → Type 0 = λ ts. IsLeast (IsBeside least ts) c.least_of.result in
    subst L (sym (take_more calls i none c.loop-call-test.true))
    (subst O (sym c.lesser_of-found.ensures) (least_more (λ x u. IsBeside least (targets_of_call f x) u) (take i calls) call c.loop-call.found c.least_of.result c.loop-call.invariant (subst T c.targets.ensures.targets c.least_of.ensures)))

pub returns : goal.returns
returns c =
    let L : List Call → Type 0 = λ cs. IsLeast (IsBesideCalled c.args.f.now cs c.args.least.now) c.loop-call.found in
    subst L (take_all c.loop-call.call-index c.args.calls.now c.loop-call-test.false) c.loop-call.invariant
