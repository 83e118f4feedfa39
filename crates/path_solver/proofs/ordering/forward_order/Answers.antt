use Rattle.std.proofs.Common.{◌≡◌, ℕ, ◌+◌, ◌<◌, ◌≤◌, Bool, eqb, List, [], length, get_or, map, All, Contains, sym, ap, ◌∙◌, subst, arith}
use Rattle.loop_nest.specs.Digraph.{AreSources, sources_of}
use Rattle.std.proofs.lemmas.Bool.{eqb-true}
use Rattle.std.proofs.lemmas.List.{get_or_default, with_items_is}
use Rattle.std.proofs.lemmas.List.Elements.{All-from_get_or, Contains-get_or}
use Rattle.path_solver.specs.Reaching.{IsFlagged}
use Rattle.path_solver.specs.Ordering.{AreStarts, AreCountedDown}
use Rattle.path_solver.proofs.Sources.{turned_edge}
use Rattle.path_solver.proofs.CountingDown.{times}
use Rattle.path_solver.proofs.Order.{flip, count_some}
use Rattle.path_solver.proofs.Growing.{IsOrdering, ordering_start, ordering_idle, enough, ordering_more, ordering_ends, flagged_below, sources_below, targets_below}
use Rattle.path_solver.proofs.ordering.forward_order.Goals as goal
use Rattle.path_solver.proofs.ordering.forward_order.Goals.{then-i-len+in_ok-count_down, else-i-len}

pub by_target-requires : goal.by_target-requires
by_target-requires c =
    let P : List (ℕ × ℕ) → Type 0 = λ es. All (λ (e : ℕ × ℕ). e.1 < length c.args.listed.now) es in
    subst P (sym (c.deref.ensures.value ∙ c.in_ok-turned.ensures)) (sources_below c.args.listed.now c.args.edges.now c.requires.sources)

pub arrivals-requires : goal.arrivals-requires
arrivals-requires c = targets_below c.args.listed.now c.args.edges.now c.requires.targets

pub loop-i-init : goal.loop-i-init
loop-i-init c =
    let flags = c.args.listed.now in
    let P : List ℕ → Type 0 = λ w. AreStarts flags w (length flags) c.in_ok-order.order.items in
    ordering_start flags c.args.edges.now c.in_ok-waiting.waiting.items c.in_ok-order.order.items c.in_ok-waiting.ensures (subst P c.deref-2.ensures.value c.in_ok-order.ensures)

next_is : (es : List (ℕ × ℕ)) (n u i : ℕ) (us ts : List ℕ) (ss : List (List ℕ)) → AreSources (map flip es) n ss → u < n → i < length us → u ≡ get_or us i u → ts ≡ get_or ss u [] → ts ≡ sources_of (map flip es) (get_or us i 0)
next_is es n u i us ts ss all short inside at read =
    read ∙ all.each u short ∙ ap (sources_of (map flip es)) (at ∙ get_or_default us i u 0 inside)

below : (flags : List Bool) (es : List (ℕ × ℕ)) (i u : ℕ) (w us : List ℕ) → i < length us → u ≡ get_or us i u → IsOrdering flags es i w us → u < length flags
below flags es i u w us inside at h =
    let P : ℕ → Type 0 = λ z. z < length flags in
    subst P (sym (at ∙ get_or_default us i u 0 inside)) ((h.each (get_or us i 0)).0 (Contains-get_or us i 0 inside)).0

within : (flags : List Bool) (es : List (ℕ × ℕ)) (u : ℕ) → ((u v : ℕ) → Contains es (u, v) → IsFlagged flags v) → All (λ v. v < length flags) (sources_of (map flip es) u)
within flags es u into =
    let ts = sources_of (map flip es) u in
    All-from_get_or (λ v. v < length flags) ts 0 (λ k lt. flagged_below flags (get_or ts k 0) (into u (get_or ts k 0) (turned_edge es u (get_or ts k 0) (Contains-get_or ts k 0 lt))))

sources : (es qs : List (ℕ × ℕ)) (n : ℕ) (ss : List (List ℕ)) → qs ≡ map flip es → AreSources qs n ss → AreSources (map flip es) n ss
sources es qs n ss is h = let P : List (ℕ × ℕ) → Type 0 = λ zs. AreSources zs n ss in subst P is h

target_of : (ts : List ℕ) (v : ℕ) → 0 < times v ts → Contains ts v
target_of ts v some =
    let r = count_some (λ (y : ℕ). eqb y v) ts some in
    let P : ℕ → Type 0 = λ z. Contains ts z in
    subst P (eqb-true r.0 v r.2) r.1

more : (flags : List Bool) (es : List (ℕ × ℕ)) (i : ℕ) (w us w' us' : List ℕ) → i < length us → IsOrdering flags es i w us → ((u v : ℕ) → Contains es (u, v) → IsFlagged flags v) → AreCountedDown (sources_of (map flip es) (get_or us i 0)) w w' us us' → IsOrdering flags es (i + 1) w' us'
more flags es i w us w' us' inside h into counted =
    ordering_more flags es i w us inside h into w' us' counted.long counted.counts counted.added counted.each counted.apart (turned_edge es (get_or us i 0)) (target_of (sources_of (map flip es) (get_or us i 0)))

pub of-requires : goal.of-requires
of-requires c =
    let us = c.loop-i.order.items in
    let i = c.loop-i.i in
    let u = c.index-u.result.now in
    let ok = c.loop-i.order.ok in
    let test = c.if-i-len.true in
    let len = c.len.ensures in
    let inside : i < length us = omega (arith, ok.0) in
    let short = below c.args.listed.now c.args.edges.now i u c.loop-i.waiting.items us inside c.index-u.ensures c.loop-i.invariant in
    let long = c.in_ok-targets.ensures.long in
    omega arith

pub count_down-requires-clause-within : goal.count_down-requires-clause-within
count_down-requires-clause-within c =
    let es = c.args.edges.now in
    let flags = c.args.listed.now in
    let us = c.loop-i.order.items in
    let i = c.loop-i.i in
    let u = c.index-u.result.now in
    let ok = c.loop-i.order.ok in
    let test = c.if-i-len.true in
    let len = c.len.ensures in
    let inside : i < length us = omega (arith, ok.0) in
    let short = below flags es i u c.loop-i.waiting.items us inside c.index-u.ensures c.loop-i.invariant in
    let ss = sources es c.deref.result.now (length flags) c.in_ok-targets.targets (c.deref.ensures.value ∙ c.in_ok-turned.ensures) c.in_ok-targets.ensures in
    let next = next_is es (length flags) u i us c.of.result.now c.in_ok-targets.targets ss short inside c.index-u.ensures c.of.ensures in
    let long : length c.deref_mut.result.now ≡ length flags = ap length c.deref_mut.ensures.value ∙ c.loop-i.invariant.long in
    let P : List ℕ → Type 0 = λ ts. All (λ v. v < length flags) ts in
    let Q : ℕ → Type 0 = λ n. All (λ v. v < n) c.of.result.now in
    subst Q (sym long) (subst P (sym next) (within flags es (get_or us i 0) c.requires.targets))

pub count_down-requires-clause-enough : goal.count_down-requires-clause-enough
count_down-requires-clause-enough c =
    let es = c.args.edges.now in
    let flags = c.args.listed.now in
    let us = c.loop-i.order.items in
    let i = c.loop-i.i in
    let u = c.index-u.result.now in
    let ok = c.loop-i.order.ok in
    let test = c.if-i-len.true in
    let len = c.len.ensures in
    let inside : i < length us = omega (arith, ok.0) in
    let short = below flags es i u c.loop-i.waiting.items us inside c.index-u.ensures c.loop-i.invariant in
    let ss = sources es c.deref.result.now (length flags) c.in_ok-targets.targets (c.deref.ensures.value ∙ c.in_ok-turned.ensures) c.in_ok-targets.ensures in
    let next = next_is es (length flags) u i us c.of.result.now c.in_ok-targets.targets ss short inside c.index-u.ensures c.of.ensures in
    let P : List ℕ → Type 0 = λ ts. (v : ℕ) → times v ts ≤ get_or c.deref_mut.result.now v 0 in
    let Q : List ℕ → Type 0 = λ w. (v : ℕ) → times v (sources_of (map flip es) (get_or us i 0)) ≤ get_or w v 0 in
    subst P (sym next) (subst Q (sym c.deref_mut.ensures.value) (enough flags es i c.loop-i.waiting.items us inside c.loop-i.invariant))

pub loop-i-preserved : goal.loop-i-preserved
loop-i-preserved c =
    let es = c.args.edges.now in
    let flags = c.args.listed.now in
    let w = c.loop-i.waiting.items in
    let us = c.loop-i.order.items in
    let i = c.loop-i.i in
    let ok = c.loop-i.order.ok in
    let len = c.len.ensures in
    let P : List ℕ → Type 0 = λ ws. IsOrdering flags es (i + 1) ws c.if-i-len.order.items in
    elim c.if-i-len.branch [
      | then-i-len+in_ok-count_down x ↦
          let u = x.index-u.result.now in
          let test = x.if-i-len.true in
          let len' = c.len.ensures in
          let inside : i < length us = omega (arith, ok.0) in
          let short = below flags es i u w us inside x.index-u.ensures c.loop-i.invariant in
          let ss = sources es c.deref.result.now (length flags) c.in_ok-targets.targets (c.deref.ensures.value ∙ c.in_ok-turned.ensures) c.in_ok-targets.ensures in
          let next = next_is es (length flags) u i us x.of.result.now c.in_ok-targets.targets ss short inside x.index-u.ensures x.of.ensures in
          let w' = x.count_down.new.waiting in
          let us' = x.count_down.new.order.items in
          let Q : List ℕ → Type 0 = λ ls. IsOrdering flags es (i + 1) w' ls in
          let R : List ℕ → Type 0 = λ ts. AreCountedDown ts x.deref_mut.result.now w' us us' in
          let S : List ℕ → Type 0 = λ ws. AreCountedDown (sources_of (map flip es) (get_or us i 0)) ws w' us us' in
          let counted = subst S x.deref_mut.ensures.value (subst R next x.in_ok-count_down.ensures) in
          let ok' = c.loop-i.waiting.ok in
          let long : length w' ≡ length w = counted.long in
          let same : length w' ≡ c.loop-i.waiting.len = omega (arith, ok'.0) in
          subst P (sym (ap (λ z. z.items) x.waiting-is ∙ with_items_is c.loop-i.waiting w' same)) (subst Q (sym (ap (λ z. z.items) x.order-is)) (
          more flags es i w us w' us' inside c.loop-i.invariant c.requires.targets counted))
      | else-i-len x ↦
          let test = x.if-i-len.false in
          let Q : List ℕ → Type 0 = λ ls. IsOrdering flags es (i + 1) w ls in
          subst P (sym (ap (λ z. z.items) x.waiting-is)) (subst Q (sym (ap (λ z. z.items) x.order-is)) (ordering_idle flags es i w us (omega (arith, ok.0)) c.loop-i.invariant))
    ]

pub returns : goal.returns
returns c = ordering_ends c.args.listed.now c.args.edges.now c.loop-i.i c.loop-i.waiting.items c.loop-i.order.items c.loop-i-test.false c.loop-i.invariant c.requires.sources c.requires.acyclic
