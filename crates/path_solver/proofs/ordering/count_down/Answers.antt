use Rattle.std.proofs.Common.{◌≡◌, ℕ, ◌+◌, ◌-◌, ◌<◌, List, [], ◌∷◌, ◌++◌, length, get_or, set, take, sym, ap, ◌∙◌, subst, arith}
use Rattle.std.proofs.lemmas.List.{take_more}
use Rattle.std.proofs.lemmas.List.Elements.{All-get_or}
use Rattle.path_solver.specs.Ordering.{AreCountedDown}
use Rattle.path_solver.proofs.CountingDown.{counted_push, counted_skip, still_waits}
use Rattle.path_solver.proofs.ordering.count_down.Goals as goal
use Rattle.path_solver.proofs.ordering.count_down.Goals.{then-left-eq0+in_ok-push, else-left-eq0}

pub overflow_sub-left : goal.overflow_sub-left
overflow_sub-left c =
    let ts = c.args.targets.now in
    let i = c.loop-v.v-index in
    still_waits ts c.args.waiting.now c.loop-v.waiting c.args.order.now.items c.loop-v.order.items i c.loop-v-test.true (c.requires.enough (get_or ts i 0)) c.loop-v.invariant

pub loop-v-preserved : goal.loop-v-preserved
loop-v-preserved c =
    let ts = c.args.targets.now in
    let i = c.loop-v.v-index in
    let v = get_or ts i 0 in
    let w = c.args.waiting.now in
    let w' = c.loop-v.waiting in
    let o = c.args.order.now.items in
    let o' = c.loop-v.order.items in
    let left = get_or w' v 0 - 1 in
    let below = c.loop-v-test.true in
    let some = still_waits ts w w' o o' i below (c.requires.enough v) c.loop-v.invariant in
    let long = c.loop-v.auto.waiting in
    let within : v < length w = All-get_or (λ y. y < length w) ts i 0 below c.requires.within in
    let lt : v < length w' = omega arith in
    let is : left + 1 ≡ get_or w' v 0 = omega arith in
    let P : List ℕ → Type 0 = λ qs. AreCountedDown qs w (set w' v left) o c.if-left-eq0.order.items in
    let Q : List ℕ → Type 0 = λ fs. AreCountedDown (take i ts ++ v ∷ []) w (set w' v left) o fs in
    subst P (sym (take_more ts i 0 below)) (
    elim c.if-left-eq0.branch [
      | then-left-eq0+in_ok-push x ↦
          subst Q (sym (ap (λ z. z.items) x.order-is ∙ x.in_ok-push.ensures.items)) (counted_push (take i ts) w w' o o' v left lt is c.requires.counted c.loop-v.invariant x.if-left-eq0.true)
      | else-left-eq0 x ↦ subst Q (sym (ap (λ z. z.items) x.order-is)) (counted_skip (take i ts) w w' o o' v left lt is c.requires.counted c.loop-v.invariant x.if-left-eq0.false)
    ])
