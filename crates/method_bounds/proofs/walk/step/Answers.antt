use Rattle.std.proofs.Common.{◌<◌, List, length, take, refl, sym, subst}
use Rattle.lists.proofs.Lemmas.{if_at}
use Rattle.method_flow.specs.declared.flow.Call.{Call}
use Rattle.call_regions.specs.Tables.{Runs}
use Rattle.method_bounds.specs.declared.walk.State.{State}
use Rattle.method_bounds.specs.declared.walk.Visit.{Visit}
use Rattle.method_bounds.specs.Walking.{AreWalked, AreOrdered, AreTargetsOrdered, IsLeft}
use Rattle.method_bounds.proofs.Tabled.{match_some, match_none, target_runs}
use Rattle.method_bounds.proofs.Texts.{on_ok}
use Rattle.method_bounds.proofs.Walks.{moved, newest_visit, visit_at, open_is, open_inside}
use Rattle.method_bounds.proofs.walk.step.Goals as goal

pub next_left-requires-clause-before : goal.next_left-requires-clause-before
next_left-requires-clause-before c =
    let f = c.args.f.now in
    let w = c.args.walk.now in
    let v = c.args.visit in
    let has = c.calls_of-calls.ensures.calls in
    let A : List State → Type 0 = λ s. AreOrdered f s (take v.call c.calls_of-calls.result.now) in
    let C : List Call → Type 0 = λ ks. AreOrdered f w.states.items (take v.call ks) in
    let visit = newest_visit f w w.visits.items v c.requires in
    subst A (sym c.deref.ensures.value) (subst C (sym has.are) (visit.before has.code.method has.code.is))

pub enter-requires-clause-method : goal.enter-requires-clause-method
enter-requires-clause-method c = open_inside c.args.walk.now.states.items c.args.visit.method (open_is c.args.f.now c.args.walk.now c.args.walk.now.visits.items c.args.visit c.requires)

pub enter-requires-clause-target : goal.enter-requires-clause-target
enter-requires-clause-target c =
    let N : List State → Type 0 = λ s. c.in-Some.left.target < length s in
    subst N c.deref.ensures.value (if_at c.in_ok-left.field-0 c.in-Some.left (λ x. x.target < length c.deref.result.now) c.in-Some.is c.in_ok-left.ensures.within)

pub leave-requires : goal.leave-requires
leave-requires c = open_inside c.args.walk.now.states.items c.args.visit.method (open_is c.args.f.now c.args.walk.now c.args.walk.now.visits.items c.args.visit c.requires)

pub returns-in-Some-clause-walk : goal.returns-in-Some-clause-walk
returns-in-Some-clause-walk c =
    let f = c.args.f.now in
    let w = c.args.walk.now in
    let vs = w.visits.items in
    let v = c.args.visit in
    let calls = c.calls_of-calls.result.now in
    let has = c.calls_of-calls.ensures.calls in
    let x = c.in-Some.left in
    let found = match_some c.in_ok-left.field-0 x _ _ c.in-Some.is c.in_ok-left.ensures.left in
    let states = c.deref.ensures.value in
    let next : Visit = record { method = v.method; call = x.call } in
    let L : List State → Type 0 = λ s. IsLeft f s calls x in
    let W : List State → Type 0 = λ s. AreWalked f s c.next_left.new.walked.items in
    let left = subst L states found in
    let runs : Runs f v.method x.target = target_runs f v.method x.target calls has left.target in
    on_ok c.enter.result _ _
    (λ h. h f (moved f w vs v c.requires _ next refl (visit_at f w vs v c.requires calls has x.call left.before) (subst W states c.in_ok-left.ensures.walked) refl refl) runs left.left)
    c.enter.ensures.walk

pub returns-in-Some-clause-goes : goal.returns-in-Some-clause-goes
returns-in-Some-clause-goes c = on_ok c.enter.result _ _ (λ h. h (open_is c.args.f.now c.args.walk.now c.args.walk.now.visits.items c.args.visit c.requires)) c.enter.ensures.goes

pub returns-in-None-clause-walk : goal.returns-in-None-clause-walk
returns-in-None-clause-walk c =
    let f = c.args.f.now in
    let w = c.args.walk.now in
    let vs = w.visits.items in
    let v = c.args.visit in
    let has = c.calls_of-calls.ensures.calls in
    let states = c.deref.ensures.value in
    let done = match_none c.in_ok-left.field-0 _ _ c.in-None.is c.in_ok-left.ensures.left in
    let A : List State → Type 0 = λ s. AreOrdered f s c.calls_of-calls.result.now in
    let C : List Call → Type 0 = λ ks. AreOrdered f w.states.items ks in
    let W : List State → Type 0 = λ s. AreWalked f s c.next_left.new.walked.items in
    let finished : AreTargetsOrdered f w.states.items v.method = record { code = has.code; targets = subst C has.are (subst A states done) } in
    on_ok c.leave.result _ _
    (λ h. h f (moved f w vs v c.requires _ v refl (newest_visit f w vs v c.requires) (subst W states c.in_ok-left.ensures.walked) refl refl) finished)
    c.leave.ensures.walk

pub returns-in-None-clause-goes : goal.returns-in-None-clause-goes
returns-in-None-clause-goes c = on_ok c.leave.result _ _ (λ h. h (open_is c.args.f.now c.args.walk.now c.args.walk.now.visits.items c.args.visit c.requires)) c.leave.ensures.goes
