use Rattle.std.proofs.Common.{◌≡◌, ℕ, ◌+◌, ◌*◌, ◌^◌, ◌<◌, ◌≤◌, ◌⊎◌, List, length, get_or, sym, ap, ◌∙◌, subst, inl, inr, arith}
use Rattle.std.proofs.lemmas.List.{get_or_default}
use Rattle.path_solver.specs.Distances.{AreLimited}
use Rattle.bound_report.specs.Visits.Paths.{IsPosed, IsRound}
use Rattle.bound_report.proofs.VisitsLemmas.ProblemLemmas.{zeros_at}
use Rattle.bound_report.proofs.VisitsLemmas.RoundLemmas.{IsGoing, going_first, going_last}
use Rattle.bound_report.proofs.VisitsLemmas.Stepping.{node_below, visited_few, passed, loop_below, count_room, own_cost_small, skips, goes_round}
use Rattle.bound_report.proofs.visits.rounds.go_through.Goals as goal
use Rattle.bound_report.proofs.visits.rounds.go_through.Goals.{in-Some+then-count-gt0+then-index-gt0+in_ok-go_round, in-Some+else-count-gt0, else-count-gt0-via-then-count-gt0+else-index-gt0, else-count-gt0-via-else-count-gt0, in_default}

-- the place is one of the order, and the node is the one there
in_range : (items order : List ℕ) (j : ℕ) → items ≡ order → j < length items → j < length order
in_range items order j same lt = let long : length items ≡ length order = ap length same in omega arith

node_is : (items order : List ℕ) (j : ℕ) → items ≡ order → get_or items j 0 ≡ get_or order j 0
node_is items order j same = ap (λ (xs : List ℕ). get_or xs j 0) same

above_zero : (n m : ℕ) → n ≡ m → 0 < n → 0 < m
above_zero n m same more = omega arith

is_zero : (n m : ℕ) → n ≡ m → n ≤ 0 → m ≡ 0
is_zero n m same none = omega arith

pub loop-u-init : goal.loop-u-init
loop-u-init c = record {
  going = λ posed. going_first c.args.q.now posed c.args.visits.now c.args.entered.now c.requires.added (zeros_at c.args.entered.now c.requires.none) c.requires.long c.requires.each;
  dist_long = c.requires.same;
  dist_limited = c.requires.limited;
}

pub bounds-visits-u : goal.bounds-visits-u
bounds-visits-u c =
    let q = c.args.q.now in
    let posed = c.requires.posed in
    let items = c.deref-u-items.result.now in
    let order = q.found.now.topology.order.items in
    let same = c.deref-u-items.ensures.value in
    let j = c.loop-u.u-index in
    let going = c.loop-u.invariant.going posed in
    let below = node_below q posed j c.loop-u.visits c.loop-u.entered (in_range items order j same c.loop-u-test.true) going c.loops.result.now c.loops.ensures (get_or items j 0) (node_is items order j same) in
    let long = going.long in
    omega arith

pub iterations-count-requires : goal.iterations-count-requires
iterations-count-requires c =
    let q = c.args.q.now in
    let posed = c.requires.posed in
    let items = c.deref-u-items.result.now in
    let order = q.found.now.topology.order.items in
    let same = c.deref-u-items.ensures.value in
    let j = c.loop-u.u-index in
    visited_few q posed j c.loop-u.visits c.loop-u.entered (in_range items order j same c.loop-u-test.true) (c.loop-u.invariant.going posed) c.loops.result.now c.loops.ensures (get_or items j 0) (node_is items order j same)

pub go_round-requires-clause-small : goal.go_round-requires-clause-small
go_round-requires-clause-small c =
    let q = c.args.q.now in
    let posed = c.requires.posed in
    let items = c.deref-u-items.result.now in
    let order = q.found.now.topology.order.items in
    let same = c.deref-u-items.ensures.value in
    let j = c.loop-u.u-index in
    own_cost_small q posed j c.loop-u.visits c.loop-u.entered (in_range items order j same c.loop-u-test.true) (c.loop-u.invariant.going posed) c.loops.result.now c.loops.ensures (get_or items j 0) (node_is items order j same)
    c.in-Some.i c.in-Some.ensures (above_zero c.iterations-count.result _ c.iterations-count.ensures c.if-count-gt0.true)

pub go_round-requires-clause-room : goal.go_round-requires-clause-room
go_round-requires-clause-room c =
    let q = c.args.q.now in
    let posed = c.requires.posed in
    let items = c.deref-u-items.result.now in
    let order = q.found.now.topology.order.items in
    let same = c.deref-u-items.ensures.value in
    let j = c.loop-u.u-index in
    let i = c.in-Some.i in
    let head = c.in-Some.ensures in
    let ls = c.loops.result.now in
    let u = get_or items j 0 in
    let lt = in_range items order j same c.loop-u-test.true in
    let u_is = node_is items order j same in
    let going = c.loop-u.invariant.going posed in
    let within = loop_below q posed j c.loop-u.visits c.loop-u.entered lt going ls c.loops.ensures u u_is i head in
    let long = posed.measured.loop_costs.long in
    let costs = q.found.now.iteration_costs.items in
    let cost : c.index.result.now ≡ get_or costs i 0 = c.index.ensures ∙ get_or_default costs i c.index.result.now 0 (omega arith) in
    λ v.
    let P : ℕ → Type 0 = λ n. get_or c.loop-u.visits v 0 + n < 2 ^ 128 in
    subst P (sym c.iterations-count.ensures)
    (count_room q posed j c.loop-u.visits c.loop-u.entered lt going ls c.loops.ensures u u_is i head (above_zero c.index.result.now (get_or costs i 0) cost c.if-index-gt0.true) v)

pub loop-u-preserved : goal.loop-u-preserved
loop-u-preserved c =
    let q = c.args.q.now in
    let items = c.deref-u-items.result.now in
    let order = q.found.now.topology.order.items in
    let same = c.deref-u-items.ensures.value in
    let j = c.loop-u.u-index in
    let visits = c.loop-u.visits in
    let entered = c.loop-u.entered in
    let ls = c.loops.result.now in
    let u = get_or items j 0 in
    let lt = in_range items order j same c.loop-u-test.true in
    let u_is = node_is items order j same in
    let inv = c.loop-u.invariant in
    let costs = q.found.now.iteration_costs.items in
    let long = c.requires.posed.measured.loop_costs.long in
    let Next : List ℕ → List ℕ → Type 0 = λ vs es. (posed : IsPosed q) → IsGoing q posed (j + 1) vs es in
    let next : Next c.match-headed_loop.visits c.match-headed_loop.entered =
    elim c.match-headed_loop.branch [
      | in-Some+then-count-gt0+then-index-gt0+in_ok-go_round w ↦
          let i = w.in-Some.i in
          let head = w.in-Some.ensures in
          let new = w.go_round.new.visits in
          let within = loop_below q c.requires.posed j visits entered lt (inv.going c.requires.posed) ls c.loops.ensures u u_is i head in
          let cost : w.index.result.now ≡ get_or costs i 0 = w.index.ensures ∙ get_or_default costs i w.index.result.now 0 (omega arith) in
          let R : ℕ → Type 0 = λ n. IsRound q i n visits new in
          let round = subst R w.iterations-count.ensures w.in_ok-go_round.ensures.round in
          let P : List ℕ → Type 0 = λ vs. Next vs c.match-headed_loop.entered in
          let Q : List ℕ → Type 0 = λ es. Next new es in
          subst P (sym w.visits-is) (subst Q (sym w.entered-is)
          (λ posed. goes_round q posed j visits entered lt (inv.going posed) ls c.loops.ensures u u_is i head new
          (above_zero w.iterations-count.result _ w.iterations-count.ensures w.if-count-gt0.true)
          (above_zero w.index.result.now (get_or costs i 0) cost w.if-index-gt0.true) round))
      | in-Some+else-count-gt0 w ↦
          let i = w.in-Some.i in
          let head = w.in-Some.ensures in
          let within = loop_below q c.requires.posed j visits entered lt (inv.going c.requires.posed) ls c.loops.ensures u u_is i head in
          let spare : (get_or visits u 0 * get_or q.bounds.now i 0 ≡ 0) ⊎ (get_or costs i 0 ≡ 0) =
          elim w.else-count-gt0.branch [
            | else-count-gt0-via-then-count-gt0+else-index-gt0 w' ↦
                let cost : w'.index.result.now ≡ get_or costs i 0 = w'.index.ensures ∙ get_or_default costs i w'.index.result.now 0 (omega arith) in
                inr (is_zero w'.index.result.now (get_or costs i 0) cost w'.if-index-gt0.false)
            | else-count-gt0-via-else-count-gt0 w' ↦ inl (is_zero w.iterations-count.result _ w.iterations-count.ensures w'.if-count-gt0.false)
          ] in
          let P : List ℕ → Type 0 = λ vs. Next vs c.match-headed_loop.entered in
          let Q : List ℕ → Type 0 = λ es. Next visits es in
          subst P (sym w.visits-is) (subst Q (sym w.entered-is) (λ posed. skips q posed j visits entered lt (inv.going posed) ls c.loops.ensures u u_is i head spare))
      | in_default w ↦
          let P : List ℕ → Type 0 = λ vs. Next vs c.match-headed_loop.entered in
          let Q : List ℕ → Type 0 = λ es. Next visits es in
          subst P (sym w.visits-is) (subst Q (sym w.entered-is) (λ posed. passed q posed j visits entered lt (inv.going posed) ls c.loops.ensures u u_is w.in_default.ensures))
    ] in
    let L : List ℕ → Type 0 = λ ds. AreLimited ds in
    let limited : L c.match-headed_loop.dist =
    elim c.match-headed_loop.branch [
      | in-Some+then-count-gt0+then-index-gt0+in_ok-go_round w ↦ subst L (sym w.dist-is) w.in_ok-go_round.ensures.limited
      | in-Some+else-count-gt0 w ↦ subst L (sym w.dist-is) inv.dist_limited
      | in_default w ↦ subst L (sym w.dist-is) inv.dist_limited
    ] in
    let dist_kept = c.match-headed_loop.auto.dist in
    let dist_long = inv.dist_long in
    record { going = next; dist_long = omega arith; dist_limited = limited }

pub returns : goal.returns
returns c =
    let q = c.args.q.now in
    let posed = c.requires.posed in
    let items = c.deref-u-items.result.now in
    let order = q.found.now.topology.order.items in
    let long : length items ≡ length order = ap length c.deref-u-items.ensures.value in
    let test = c.loop-u-test.false in
    let past : length order ≤ c.loop-u.u-index = omega arith in
    going_last q posed c.loop-u.u-index c.loop-u.visits c.loop-u.entered past (c.loop-u.invariant.going posed)
