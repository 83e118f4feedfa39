use Rattle.std.proofs.Common.{◌≡◌, ◌≢◌, ℕ, List, [], ◌∷◌, ◌++◌, refl, sym, ap, ◌∙◌, subst}
use Rattle.call_regions.specs.Walking.{EachRunsNext}
use Rattle.method_bounds.specs.declared.walk.State.{State}
use Rattle.method_bounds.specs.declared.walk.State.TheVariants.{New, Recursive}
use Rattle.method_bounds.specs.declared.walk.Visit.{Visit}
use Rattle.method_bounds.specs.declared.walk.Walk.{Walk}
use Rattle.method_bounds.specs.Walking.{IsWalk, methods_of, state_of}
use Rattle.method_bounds.proofs.Texts.{on_ok}
use Rattle.method_bounds.proofs.Walks.{closing, moved, newest_visit, next_more, path_of, path_push, turned, new≢recursive}
use Rattle.method_bounds.proofs.walk.enter.Goals as goal

pub returns-in_ok-push-in-New-clause-walk : goal.returns-in_ok-push-in-New-clause-walk
returns-in_ok-push-in-New-clause-walk c =
    on_ok c.open.result _ _
    (λ h f was runs left.
    let w = c.args.walk.now in
    let vs = w.visits.items in
    let v = c.args.visit in
    let t = c.args.target in
    let is : state_of w.states.items t ≡ New = ap (λ (s : List State). state_of s t) (sym c.deref.ensures.value) ∙ sym c.state_at.ensures ∙ c.in-New.is in
    let pushed = c.in_ok-push-in-New.ensures.items in
    let x : Walk = record { states = w.states; visits = c.push.new.self; order = w.order; walked = w.walked } in
    let X : List Visit → Type 0 = λ us. IsWalk f x us in
    let N : List ℕ → Type 0 = λ ms. EachRunsNext f (ms ++ t ∷ []) in
    h f (subst X (sym pushed) (moved f w vs v was x v refl (newest_visit f w vs v was) was.walked refl refl)) is
    (subst N (sym (ap methods_of pushed ∙ path_push vs v)) (next_more f (methods_of vs) v.method t (path_of f w vs v was).runs runs)))
    c.open.ensures.walk

pub returns-in_default-clause-walk : goal.returns-in_default-clause-walk
returns-in_default-clause-walk c = λ f was runs left.
    let w = c.args.walk.now in
    let t = c.args.target in
    let come : state_of w.states.items t ≢ New = λ is. c.in_default.not-New (c.state_at.ensures ∙ ap (λ (s : List State). state_of s t) c.deref.ensures.value ∙ is) in
    turned f w w.visits.items c.args.visit was _ t runs come left refl refl refl

pub returns-in_default-clause-goes : goal.returns-in_default-clause-goes
returns-in_default-clause-goes c = λ is. closing c.args.walk.now.states.items c.args.visit.method Recursive (λ e. new≢recursive (sym e)) refl is
