use Rattle.std.proofs.Common.{List, refl, subst}
use Rattle.call_regions.specs.Walking.{AreWalked, IsLeftAt, AreMethodsDone, IsVisit}
use Rattle.call_regions.specs.declared.walk.State.{State}
use Rattle.call_regions.proofs.Growing.{on_ok}
use Rattle.call_regions.proofs.Visiting.{moved, open_is, open_inside, leave_known, newest, match_some, match_none, next_visit, next_left_at, all_done}
use Rattle.call_regions.proofs.walk.step.Goals as goal

pub enter-requires-clause-walk : goal.enter-requires-clause-walk
enter-requires-clause-walk c =
    let f = c.args.f.now in
    let w = c.args.walk.now in
    let v = c.args.visit in
    let vs = w.visits.items in
    let calls = c.calls_of-calls.result.now in
    let st = c.deref.result.now in
    let states = c.deref.ensures.value in
    let next = c.in-Some.next in
    let found = match_some c.in_ok-next.field-0 next _ _ c.in-Some.is c.in_ok-next.ensures.left in
    let V : List State → Type 0 = λ s. IsVisit f s next in
    let W : List State → Type 0 = λ s. AreWalked f s c.next_left.new.walked.items in
    let visit = subst V states (next_visit f st v.method calls c.calls_of-calls.ensures.calls next found.0 (leave_known f w vs v c.requires) found.1) in
    moved f w vs v c.requires _ next found.0 visit (subst W states c.in_ok-next.ensures.walked) refl refl refl

pub enter-requires-clause-left : goal.enter-requires-clause-left
enter-requires-clause-left c =
    let f = c.args.f.now in
    let calls = c.calls_of-calls.result.now in
    let next = c.in-Some.next in
    let found = match_some c.in_ok-next.field-0 next _ _ c.in-Some.is c.in_ok-next.ensures.left in
    let t = found.2.0 in
    let L : List State → Type 0 = λ s. IsLeftAt f s next t in
    (t, subst L c.deref.ensures.value (next_left_at f c.deref.result.now c.args.visit.method calls c.calls_of-calls.ensures.calls next t found.0 found.2.1))

pub leave-requires : goal.leave-requires
leave-requires c = open_inside c.args.f.now c.args.walk.now c.args.walk.now.visits.items c.args.visit c.requires

pub returns-in-None-clause-walk : goal.returns-in-None-clause-walk
returns-in-None-clause-walk c =
    let f = c.args.f.now in
    let w = c.args.walk.now in
    let v = c.args.visit in
    let vs = w.visits.items in
    let states = c.deref.ensures.value in
    let done = match_none c.in_ok-next.field-0 _ _ c.in-None.is c.in_ok-next.ensures.left in
    let D : List State → Type 0 = λ s. AreMethodsDone f s v.method in
    let W : List State → Type 0 = λ s. AreWalked f s c.next_left.new.walked.items in
    let finished = subst D states (all_done f c.deref.result.now v.method c.calls_of-calls.result.now c.calls_of-calls.ensures.calls done) in
    on_ok c.leave.result
    (λ h. h f (moved f w vs v c.requires _ v refl (newest f w vs v c.requires) (subst W states c.in_ok-next.ensures.walked) refl refl refl) finished)
    c.leave.ensures.walk

pub returns-in-None-clause-fewer : goal.returns-in-None-clause-fewer
returns-in-None-clause-fewer c =
    on_ok c.leave.result (λ h. h (open_is c.args.f.now c.args.walk.now c.args.walk.now.visits.items c.args.visit c.requires)) c.leave.ensures.fewer
