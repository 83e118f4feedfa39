use Rattle.std.proofs.Common.{◌≡◌, ℕ, ◌<◌, List, length, All, Contains, refl, sym, ap, ◌∙◌, subst, arith}
use Rattle.std.proofs.lemmas.List.{get_or-set_same, length-set}
use Rattle.std.proofs.lemmas.List.Elements.{All-contains}
use Rattle.path_solver.specs.Ordering.{AreApart}
use Rattle.path_solver.specs.Distances.{LeadForward, others_of, sources_at, IsMost, cost_through}
use Rattle.path_solver.specs.Iteration.{IsOrderly, AreOrderedMembers}
use Rattle.path_solver.specs.declared.topology.TopologicalOrder.{TopologicalOrder}
use Rattle.path_solver.proofs.Leading.{leads_forward, picked_apart, from_others, to_others, repick, all_from}
use Rattle.path_solver.proofs.loop_costs.greatest_iteration.Goals as goal

below : (n : ℕ) (p : TopologicalOrder) (members : List ℕ) (header u : ℕ) → IsOrderly n p → AreOrderedMembers p.order.items members header → Contains members u → u < n
below n p members header u orderly h has = All-contains (λ z. z < n) p.order.items u orderly.within (h.listed u has)

pub in_order-requires-clause-within : goal.in_order-requires-clause-within
in_order-requires-clause-within c =
    let p = c.args.topology.now in
    let ms = c.args.members.now in
    let n = length c.args.costs.now in
    let long : length c.deref-2.result.now ≡ n = ap length c.deref-2.ensures.value ∙ c.requires.topology.placed.long in
    let Q : ℕ → Type 0 = λ k. All (λ u. u < k) ms in
    subst Q (sym long) (all_from n ms (λ u has. below n p ms c.args.header u c.requires.topology c.requires.members has))

pub in_order-requires-clause-listed : goal.in_order-requires-clause-listed
in_order-requires-clause-listed c =
    λ u has.
    let P : List ℕ → Type 0 = λ us. Contains us u in
    subst P (sym c.deref.ensures.value) (c.requires.members.listed u has)

pub in_order-requires-clause-rising : goal.in_order-requires-clause-rising
in_order-requires-clause-rising c = c.requires.members.rising

pub bounds-dist-header : goal.bounds-dist-header
bounds-dist-header c =
    let lt = below (length c.args.costs.now) c.args.topology.now c.args.members.now c.args.header c.args.header c.requires.topology c.requires.members c.requires.members.heads in
    let same = c.requires.same in
    omega arith

pub spread-requires-clause-within : goal.spread-requires-clause-within
spread-requires-clause-within c =
    let p = c.args.topology.now in
    let ms = c.args.members.now in
    let h = c.args.header in
    let n = length c.args.costs.now in
    let picked = repick p.order.items c.deref.result.now (others_of ms h) c.in_ok-nodes.nodes.items c.deref.ensures.value c.in_ok-nodes.ensures in
    let P : List ℕ → Type 0 = λ us. All (λ u. u < n) us in
    subst P (sym c.deref-3.ensures.value) (all_from n c.in_ok-nodes.nodes.items (λ u has. below n p ms h u c.requires.topology c.requires.members (from_others ms h u ((picked.each u).0 has)).0))

pub spread-requires-clause-apart : goal.spread-requires-clause-apart
spread-requires-clause-apart c =
    let p = c.args.topology.now in
    let ms = c.args.members.now in
    let h = c.args.header in
    let picked = repick p.order.items c.deref.result.now (others_of ms h) c.in_ok-nodes.nodes.items c.deref.ensures.value c.in_ok-nodes.ensures in
    let P : List ℕ → Type 0 = λ us. AreApart us in
    subst P (sym c.deref-3.ensures.value) (picked_apart p.order.items (others_of ms h) c.in_ok-nodes.nodes.items c.requires.topology.apart picked)

pub spread-requires-clause-forward : goal.spread-requires-clause-forward
spread-requires-clause-forward c =
    let p = c.args.topology.now in
    let ms = c.args.members.now in
    let h = c.args.header in
    let nodes = c.in_ok-nodes.nodes.items in
    let picked = repick p.order.items c.deref.result.now (others_of ms h) nodes c.deref.ensures.value c.in_ok-nodes.ensures in
    let P : List ℕ → Type 0 = λ us. LeadForward (sources_at p.forward) us in
    subst P (sym c.deref-3.ensures.value) ((leads_forward p.order.items (others_of ms h) nodes (sources_at p.forward) c.requires.topology.apart c.requires.topology.before picked))

pub of-requires : goal.of-requires
of-requires c =
    let lt = below (length c.args.costs.now) c.args.topology.now c.args.members.now c.args.header c.args.header c.requires.topology c.requires.members c.requires.members.heads in
    let long = c.requires.topology.back_long in
    omega arith

pub greatest_end-requires-clause-within : goal.greatest_end-requires-clause-within
greatest_end-requires-clause-within c =
    let p = c.args.topology.now in
    let h = c.args.header in
    let n = length c.args.costs.now in
    let lt = below n p c.args.members.now h h c.requires.topology c.requires.members c.requires.members.heads in
    let long = c.requires.topology.back_long in
    let inside : h < length p.back = omega arith in
    let P : List ℕ → Type 0 = λ us. All (λ u. u < n) us in
    subst P (sym c.of.ensures) (c.requires.topology.back_within h)

pub returns : goal.returns
returns c =
    let p = c.args.topology.now in
    let ms = c.args.members.now in
    let h = c.args.header in
    let costs = c.args.costs.now in
    let n = length costs in
    let nodes = c.in_ok-nodes.nodes.items in
    let picked = repick p.order.items c.deref.result.now (others_of ms h) nodes c.deref.ensures.value c.in_ok-nodes.ensures in
    let lt = below n p ms h h c.requires.topology c.requires.members c.requires.members.heads in
    let long = c.requires.topology.back_long in
    let inside : h < length p.back = omega arith in
    let s = c.spread.ensures in
    let same = c.requires.same in
    let old = c.args.dist.now in
    let inside' : h < length old = omega arith in
    let out : Contains c.deref-3.result.now h → ⊥ = λ has.
    let P : List ℕ → Type 0 = λ us. Contains us h in
    (from_others ms h h ((picked.each h).0 (subst P c.deref-3.ensures.value has))).1 refl in
    let Q : List ℕ → Type 0 = λ us. IsMost (cost_through costs c.spread.new.dist) us c.greatest_end.result in
    record {
      long = s.long ∙ length-set old h 0 ∙ same;
      limited = s.limited;
      start = s.others h out ∙ get_or-set_same old h 0 0 inside';
      each = (λ u has other.
          let R : List ℕ → Type 0 = λ us. Contains us u in
          s.each u (subst R (sym c.deref-3.ensures.value) ((picked.each u).1 (to_others ms h u has other))));
      most = subst Q c.of.ensures c.greatest_end.ensures.most;
      small = c.greatest_end.ensures.limited;
    }
