use Rattle.std.proofs.Common.{ℕ, List, sym, subst}
use Rattle.std.specs.Prelude.{IfOk}
use Rattle.std.proofs.lemmas.Result.{IfOk-weaker}
use Rattle.bound_finder.specs.Known.{BoundSetting, ForEach}
use Rattle.bound_finder.specs.Methods.{AreMethodsFound}
use Rattle.bound_finder.specs.Ready.{AreBehindCalls}
use Rattle.bound_finder.specs.Sharing.{AreFoundFor, AreMethodBounds}
use Rattle.bound_finder.proofs.bounds_of_all.Goals as goal

pub shared-requires-clause-found : goal.shared-requires-clause-found
shared-requires-clause-found c =
    let S : BoundSetting → Type 0 = λ s. ForEach s (λ P. AreBehindCalls P c.args.order.now.methods) in
    let A : List ℕ → Type 0 = λ ms. AreFoundFor c.new-task.result ms c.in-Ok.found in
    let F : List ℕ → Type 0 = λ ms. AreMethodsFound c.new-task.result ms c.in-Ok.found in
    subst A (sym c.as_slice-in-Ok.ensures) (record {
      found = subst F c.as_slice.ensures c.in-Ok.ensures.found;
      behind = subst S (sym c.new-task.ensures) (λ P of. (c.requires.ready P of).behind);
    })

pub returns-in-Ok-clause-bounds : goal.returns-in-Ok-clause-bounds
returns-in-Ok-clause-bounds c =
    let S : BoundSetting → Type 0 = λ s. IfOk c.shared.result (λ bs. AreMethodBounds s c.args.order.now.methods bs.items) in
    let A : List ℕ → Type 0 = λ ms. IfOk c.shared.result (λ bs. AreMethodBounds c.new-task.result ms bs.items) in
    IfOk-weaker c.shared.result _ _ (λ bs h. h.each) (subst S c.new-task.ensures (subst A c.as_slice-in-Ok.ensures c.shared.ensures))
