use Rattle.std.proofs.Common.{◌≡◌, ℕ, ◌<◌, eqb, not, List, length, get_or, map, Contains, IsPermutation, refl, ap, ◌∙◌, subst, arith}
use Rattle.std.specs.List.Sorted.{IsNonDecreasing, IsStrictlyIncreasing}
use Rattle.std.proofs.lemmas.List.{take_all}
use Rattle.std.proofs.lemmas.List.Elements.{Contains-get_or}
use Rattle.std.proofs.lemmas.List.Kept.{IsStrictlyIncreasing-filter}
use Rattle.path_solver.specs.Distances.{ArePlaces, others_of, ArePicked}
use Rattle.path_solver.proofs.Leading.{from_others}
use Rattle.path_solver.proofs.Picking.{picked, rank_below}
use Rattle.path_solver.proofs.distances.in_order.Goals as goal

module _ (order places members ranks : List ℕ) (header : ℕ) (h : ArePlaces order (length places) places) (listed : (u : ℕ) → Contains members u → Contains order u) (rise : IsStrictlyIncreasing members) (moved : IsPermutation (map (λ u. get_or places u 0) (others_of members header)) ranks) (sorted : IsNonDecreasing ranks) where
  rise_others : IsStrictlyIncreasing (others_of members header)
  rise_others = IsStrictlyIncreasing-filter (λ u. not (eqb u header)) members rise

  listed_others : (u : ℕ) → Contains (others_of members header) u → Contains order u
  listed_others u has = listed u (from_others members header u has).0

  below : (items : List ℕ) (i : ℕ) → items ≡ ranks → i < length items → get_or items i 0 < length order
  below items i same lt =
      let P : List ℕ → Type 0 = λ ls. Contains ls (get_or items i 0) in
      rank_below order places (others_of members header) ranks (map (λ r. get_or order r 0) ranks) (length places) h listed_others rise_others moved sorted refl (get_or items i 0) (subst P same (Contains-get_or items i 0 lt))

  others_picked : (nodes : List ℕ) → nodes ≡ map (λ r. get_or order r 0) ranks → ArePicked order (others_of members header) nodes
  others_picked nodes are = picked order places (others_of members header) ranks nodes (length places) h listed_others rise_others moved sorted are

pub bounds-order-i : goal.bounds-order-i
bounds-order-i c =
    let ranks = c.in_ok-ranks.ensures in
    below c.args.order.now c.args.places.now c.args.members.now c.in_ok-ranks.ranks.items c.args.header c.requires.places c.requires.listed c.requires.rising ranks.permutation ranks.sorted c.deref-i-items.result.now c.loop-i.i-index c.deref-i-items.ensures.value c.loop-i-test.true

pub offset_bounds-order-i : goal.offset_bounds-order-i
offset_bounds-order-i c =
    let ranks = c.in_ok-ranks.ensures in
    let lt = below c.args.order.now c.args.places.now c.args.members.now c.in_ok-ranks.ranks.items c.args.header c.requires.places c.requires.listed c.requires.rising ranks.permutation ranks.sorted c.deref-i-items.result.now c.loop-i.i-index c.deref-i-items.ensures.value c.loop-i-test.true in
    omega arith

pub returns : goal.returns
returns c =
    let order = c.args.order.now in
    let rs = c.in_ok-ranks.ranks.items in
    let node : ℕ → ℕ = λ r. get_or order r 0 in
    let are : c.loop-i.nodes.items ≡ map node rs = c.loop-i.invariant ∙ ap (map node) (take_all c.loop-i.i-index c.deref-i-items.result.now c.loop-i-test.false ∙ c.deref-i-items.ensures.value) in
    others_picked order c.args.places.now c.args.members.now rs c.args.header c.requires.places c.requires.listed c.requires.rising c.in_ok-ranks.ensures.permutation c.in_ok-ranks.ensures.sorted c.loop-i.nodes.items are
