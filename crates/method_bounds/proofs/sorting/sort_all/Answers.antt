use Rattle.std.proofs.Common.{ℕ, ◌<◌, List, length, Contains, Option, sym, subst}
use Rattle.std.specs.Prelude.{All}
use Rattle.std.proofs.lemmas.List.Elements.{All-weaker, All-contains_itself}
use Rattle.answer_lines.specs.declared.bound.BoundCause.{BoundCause}
use Rattle.call_regions.specs.Regions.{AreKnown}
use Rattle.call_regions.specs.Walking.{AreBehindTargets}
use Rattle.method_bounds.specs.declared.causes.Leasts.{Leasts}
use Rattle.method_bounds.specs.declared.walk.State.{State}
use Rattle.method_bounds.specs.Sorting.{AreCauses, ArePicked, AreSorted}
use Rattle.method_bounds.proofs.Sorts.{in_causes, picked_known, picked_ready, sorted_at}
use Rattle.method_bounds.proofs.sorting.sort_all.Goals as goal

pub leasts_of-requires-clause-behind : goal.leasts_of-requires-clause-behind
leasts_of-requires-clause-behind c =
    let B : List ℕ → Type 0 = λ ms. AreBehindTargets c.args.f.now ms in
    subst B (sym c.deref.ensures.value) c.in_ok-walk.ensures.methods.behind

pub without_cause-requires : goal.without_cause-requires
without_cause-requires c =
    let loops = c.args.loops.now in
    let walk = c.in_ok-walk.walk in
    let order = walk.order.items in
    let found = c.in_ok-causes.causes.items in
    let S : List State → Type 0 = λ s. AreCauses loops s c.deref-3.result.now found in
    let same = (subst S c.deref-2.ensures.value c.in_ok-causes.ensures).long in
    let K : ℕ → Type 0 = λ m. m < length found in
    let C : List (Option BoundCause) → Type 0 = λ os. All (λ m. m < length os) c.deref-4.result.now in
    let O : List ℕ → Type 0 = λ ms. All K ms in
    subst C (sym c.deref-5.ensures.value)
    (subst O (sym c.deref-4.ensures.value)
    (All-weaker (Contains order) K (λ m has. in_causes c.args.f.now loops walk.states.items order c.in_ok-walk.ensures c.requires found same m has) order (All-contains_itself order)))

pub returns-clause-known : goal.returns-clause-known
returns-clause-known c =
    let f = c.args.f.now in
    let walk = c.in_ok-walk.walk in
    let order = walk.order.items in
    let found = c.in_ok-causes.causes.items in
    let picked = c.in_ok-methods.methods.items in
    let K : List ℕ → Type 0 = λ ms. AreKnown f ms in
    let F : List (Option BoundCause) → Type 0 = λ os. ArePicked os c.deref-4.result.now picked in
    let O : List ℕ → Type 0 = λ ms. ArePicked found ms picked in
    subst K (sym c.new.ensures)
    (picked_known f c.args.loops.now walk.states.items order c.in_ok-walk.ensures c.requires found picked
    (subst O c.deref-4.ensures.value (subst F c.deref-5.ensures.value c.in_ok-methods.ensures)))

pub returns-clause-sorted : goal.returns-clause-sorted
returns-clause-sorted c = λ bounds of_table.
    let f = c.args.f.now in
    let loops = c.args.loops.now in
    let walk = c.in_ok-walk.walk in
    let states = walk.states.items in
    let order = walk.order.items in
    let leasts = c.in_ok-leasts.leasts.items in
    let found = c.in_ok-causes.causes.items in
    let picked = c.in_ok-methods.methods.items in
    let F : List (Option BoundCause) → Type 0 = λ os. ArePicked os c.deref-4.result.now picked in
    let O : List ℕ → Type 0 = λ ms. ArePicked found ms picked in
    let p = subst O c.deref-4.ensures.value (subst F c.deref-5.ensures.value c.in_ok-methods.ensures) in
    let S : List State → Type 0 = λ s. AreCauses loops s c.deref-3.result.now found in
    let L : List Leasts → Type 0 = λ ls. AreCauses loops states ls found in
    let causes_are = subst L c.deref-3.ensures.value (subst S c.deref-2.ensures.value c.in_ok-causes.ensures) in
    let calls = c.runs_are_calls.ensures in
    let A : List ℕ → Type 0 = λ ms. AreSorted f bounds found ms in
    let C : ℕ → List ℕ → Type 0 = λ m ms. Contains ms m in
    subst A (sym c.new.ensures)
    (record {
      each = λ m cause at P flow.
          sorted_at f loops states order c.in_ok-walk.ensures c.requires calls bounds of_table leasts found causes_are P flow
          (λ k has. c.in_ok-leasts.ensures.leasts P flow k (subst (C k) (sym c.deref.ensures.value) has)) picked p m cause at;
      boundable = λ P flow.
          picked_ready f loops states order c.in_ok-walk.ensures c.requires calls bounds of_table leasts found causes_are P flow
          (λ k has. c.in_ok-leasts.ensures.leasts P flow k (subst (C k) (sym c.deref.ensures.value) has)) picked p;
    })
