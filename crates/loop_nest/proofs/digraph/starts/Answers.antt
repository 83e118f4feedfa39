use Rattle.std.proofs.Common.{◌≡◌, ℕ, ◌+◌, ◌<◌, List, [], ◌∷◌, ◌++◌, length, get_or, sym, ap, ◌∙◌, subst, inl, inr, arith}
use Rattle.std.proofs.lemmas.Bool.{cases_lt}
use Rattle.std.proofs.lemmas.List.{get_or_append_left, get_or_push, length_push, get_or_default}
use Rattle.loop_nest.specs.Digraph.{AreArrivals, sources_of}
use Rattle.loop_nest.specs.Grouping.{edges_below}
use Rattle.loop_nest.proofs.Grouping.{below_more, below_few, none_below, counted}
use Rattle.loop_nest.proofs.digraph.starts.Goals as goal

-- the next start
next_is : (es : List (ℕ × ℕ)) (n v count : ℕ) (counts : List ℕ) → AreArrivals es n counts → v < length counts → count ≡ get_or counts v count → edges_below es v + count ≡ edges_below es (v + 1)
next_is es n v count counts h lt is =
    let a = below_more es v in
    let b : count ≡ length (sources_of es v) = is ∙ get_or_default counts v count 0 lt ∙ h.each v ∙ counted es v in
    omega arith

more : (es : List (ℕ × ℕ)) (v next : ℕ) (starts : List ℕ) → length starts ≡ v → next ≡ edges_below es v → ((w : ℕ) → w < v → get_or starts w 0 ≡ edges_below es w) → (w : ℕ) → w < v + 1 → get_or (starts ++ next ∷ []) w 0 ≡ edges_below es w
more es v next starts long is each w lt =
    elim (cases_lt w v) [
      | inl less ↦ get_or_append_left starts (next ∷ []) 0 w (omega arith) ∙ each w less
      | inr not_less ↦ let same : v ≡ w = omega arith in get_or_push starts next 0 w (omega arith) ∙ is ∙ ap (edges_below es) same
    ]

pub loop-v-init : goal.loop-v-init
loop-v-init c = record {
  long = ap length c.in_ok-starts.ensures.items;
  each = λ w lt. absurd (omega arith);
  next = sym (none_below c.args.edges.now);
}

pub overflow_add-next : goal.overflow_add-next
overflow_add-next c =
    let es = c.args.edges.now in
    let long = c.in_ok-counts.ensures.long in
    let ok = c.in_ok-counts.counts.ok in
    let lt = c.loop-v-test.true in
    let e = next_is es c.args.nodes c.loop-v.v c.index.result.now c.in_ok-counts.counts.items c.in_ok-counts.ensures (omega arith) c.index.ensures in
    let few = below_few es (c.loop-v.v + 1) in
    let is = c.loop-v.invariant.next in
    omega arith

pub loop-v-preserved : goal.loop-v-preserved
loop-v-preserved c =
    let es = c.args.edges.now in
    let v = c.loop-v.v in
    let inv = c.loop-v.invariant in
    let starts = c.loop-v.starts.items in
    let long = c.in_ok-counts.ensures.long in
    let lt = c.loop-v-test.true in
    let is = inv.next in
    let e = next_is es c.args.nodes v c.index.result.now c.in_ok-counts.counts.items c.in_ok-counts.ensures (omega arith) c.index.ensures in
    record {
      long = ap length c.in_ok-push.ensures.items ∙ length_push starts c.loop-v.next ∙ (let l = inv.long in let r : length starts + 1 ≡ v + 1 = omega arith in r);
      each = λ w below.
          let P : List ℕ → Type 0 = λ ls. get_or ls w 0 ≡ edges_below es w in
          subst P (sym c.in_ok-push.ensures.items) (more es v c.loop-v.next starts inv.long is inv.each w below);
      next = ap (λ (k : ℕ). k + c.index.result.now) is ∙ e;
    }

pub returns : goal.returns
returns c =
    let es = c.args.edges.now in
    let v = c.loop-v.v in
    let inv = c.loop-v.invariant in
    let starts = c.loop-v.starts.items in
    let n : v ≡ c.args.nodes = let e = c.loop-v.auto.v-end in let f = c.loop-v-test.false in omega arith in
    record {
      long = ap length c.in_ok-push-2.ensures.items ∙ length_push starts c.loop-v.next ∙ (let l = inv.long in let r : length starts + 1 ≡ c.args.nodes + 1 = omega arith in r);
      each = λ w below.
          let P : List ℕ → Type 0 = λ ls. get_or ls w 0 ≡ edges_below es w in
          subst P (sym c.in_ok-push-2.ensures.items) (more es v c.loop-v.next starts inv.long inv.next inv.each w (omega arith));
    }
