-- The value of a method's live graph is told by the costs of its nodes.
use Rattle.std.proofs.Common.{◌≡◌, ℕ, ◌+◌, ◌*◌, ◌≤◌, List, [], ◌∷◌, Contains, Option, Some, None, sum_by, slice_index, refl, sym, ap, ◌∙◌, inl, inr, arith}
use Rattle.std.proofs.lemmas.List.Sums.{sum_by-cons}
use Rattle.lists.specs.Members.{at_head, in_tail, cons_cases, nil_contains}
use Rattle.loop_nest.specs.Digraph.{Digraph}
use Rattle.loop_nest.specs.Walks.{Walk}
use Rattle.loop_nest.specs.Walks.Walk.{stay, along}
use Rattle.loop_nest.specs.Nest.{NaturalLoop, headers_of, IsLoopOf}
use Rattle.loop_nest.proofs.Elements.{from_filter}
use Rattle.std.proofs.lemmas.List.Elements.{All-contains}
use Rattle.section_check.specs.Bounded.{BoundedLoop, holds, cost_of_nodes, later_entries, cost_of_iteration, IsGreatest}
use Rattle.path_solver.specs.Longest.{bounded_loops, around}
use Rattle.bytecode_model.specs.Program.{Program}
use Rattle.method_flow.specs.Nodes.{Node, At, RaiseAt, number_of, IsReached}
use Rattle.method_flow.specs.Nodes.IsReached.{first, later}
use Rattle.method_flow.specs.Live.{IsLiveEdge}
use Rattle.method_flow.specs.Graphs.{IsLiveGraph}
use Rattle.bound_rules.specs.Costs.{added_at}
use Rattle.bound_rules.specs.Fitting.{header_bounds}
use Rattle.bound_rules.specs.Numbers.{charged_loops, IsGreatestValue}
use Rattle.bound_rules.specs.Laws.{AgreeOnLive, CostsAreTold, ValuesAreTold, IterationsAreTold}
use Rattle.bound_rules.proofs.Owning.{same_own}

pub costs_are_told : CostsAreTold
costs_are_told P t m adds others g costs costs' a b same u reached =
    let x = a.each u reached in
    let y = b.each u reached in
    let own = same_own P t m u x.0 y.0 x.1 y.1 in
    let more = by u reached in
    omega (arith, x.2, y.2, own, more)
  where
    by : (v : Node) → IsReached (IsLiveEdge P m) v → added_at adds v ≡ added_at others v
    by (At p) here = same p here
    by (RaiseAt p) here = refl

-- sums of what is equal at each number
same_sum : {X : Type 0} (f g : X → ℕ) (xs : List X) → ((x : X) → Contains xs x → f x ≡ g x) → sum_by f xs ≡ sum_by g xs
same_sum f g [] each = refl
same_sum f g (x ∷ xs) each = let rest = same_sum f g xs (λ y has. each y (in_tail x y xs has)) in omega (arith, sum_by-cons f x xs, sum_by-cons g x xs, each x (at_head x xs), rest)

module _ (P : Program) (m : ℕ) (g : Digraph) (live : IsLiveGraph P m g) where
  -- a node of a walk from a node that is reached is reached
  pub on_walk : {u v : ℕ} {ns : List ℕ} → Walk g u v ns → (n : Node) → IsReached (IsLiveEdge P m) n → u ≡ number_of n → (x : ℕ) → Contains ns x → (k : Node) × IsReached (IsLiveEdge P m) k × (x ≡ number_of k)
  on_walk (stay {u}) n reached is x has = elim (cons_cases u x [] has) [ inl here ↦ (n, reached, sym here ∙ is) | inr none ↦ absurd (nil_contains x none) ]
  on_walk (along {u} {v} {ns = ns} e more) n reached is x has =
      let r = (live.edges u v).0 e in
      elim (cons_cases u x ns has) [ inl here ↦ (n, reached, sym here ∙ is) | inr there ↦ on_walk more r.target (later r.reached r.edge) r.numbered.1 x there ]

  pub same_walk_cost : (costs others : List ℕ) (loops : List BoundedLoop) → AgreeOnLive P m costs others → {u v : ℕ} {ns : List ℕ} → Walk g u v ns → (n : Node) → IsReached (IsLiveEdge P m) n → u ≡ number_of n
      → cost_of_nodes costs ns ≡ cost_of_nodes others ns
  same_walk_cost costs others loops agree {ns = ns} walk n reached is =
      same_sum (λ x. slice_index costs x) (λ x. slice_index others x) ns
      (λ x has. let k = on_walk walk n reached is x has in ap (λ (y : ℕ). slice_index costs y) k.2 ∙ (agree k.0 k.1 ∙ sym (ap (λ (y : ℕ). slice_index others y) k.2)))

  no_more : (costs others : List ℕ) (loops : List BoundedLoop) (a b : ℕ) → AgreeOnLive P m costs others → IsGreatest g costs loops a → IsGreatest g others loops b → a ≤ b
  no_more costs others loops a b agree x y =
      let most = y.greatest x.walk x.bounded in
      let same = same_walk_cost costs others loops agree x.bounded.walk (At 0) first refl in
      let is = x.attained in
      omega arith

  one_value : (costs others : List ℕ) (loops : List BoundedLoop) (a b : Option ℕ) → AgreeOnLive P m costs others → IsGreatestValue g costs loops a → IsGreatestValue g others loops b → a ≡ b
  one_value costs others loops None None agree x y = refl
  one_value costs others loops None (Some n) agree x y = absurd (x (record { exit = y.bounded.last; among = y.bounded.exit; nodes = y.walk; walk = y.bounded.walk }))
  one_value costs others loops (Some n) None agree x y = absurd (y (record { exit = x.bounded.last; among = x.bounded.exit; nodes = x.walk; walk = x.bounded.walk }))
  one_value costs others loops (Some n) (Some k) agree x y =
      let up = no_more costs others loops n k agree x y in
      let down = no_more others costs loops k n (λ u reached. sym (agree u reached)) y x in
      let same : n ≡ k = omega arith in
      ap (λ (z : ℕ). Some z) same

pub values_are_told : ValuesAreTold
values_are_told P m g costs others loops a b live agree x y = one_value P m g live costs others loops a b agree x y

-- ---- iterations

-- a loop with its bound is one of the nest
pub in_nest : (ks : List NaturalLoop) (bounds fees : List ℕ) (l : BoundedLoop) → Contains (bounded_loops ks bounds fees) l → (k : NaturalLoop) × Contains ks k × (k.header ≡ l.header)
in_nest [] bounds fees l has = absurd (nil_contains l has)
in_nest (k ∷ ks) [] fees l has = absurd (nil_contains l has)
in_nest (k ∷ ks) (b ∷ bs) [] l has = absurd (nil_contains l has)
in_nest (k ∷ ks) (b ∷ bs) (f ∷ fs) l has =
    elim (cons_cases (record { header = k.header; members = k.members; bound = b; load = f }) l (bounded_loops ks bs fs) has) [
      | inl here ↦ (k, at_head k ks, ap (λ (x : BoundedLoop). x.header) here)
      | inr there ↦ let r = in_nest ks bs fs l there in (r.0, in_tail k r.0 ks r.1, r.2)
    ]

pub iterations_are_told : IterationsAreTold
iterations_are_told P bound_of m flow costs others fees agree x =
    record { node = x.node; reaches = x.reaches; iteration = x.iteration; are = x.are; exceeds = (let large = x.exceeds in omega (arith, same, large)) }
  where
    same_one : (l : BoundedLoop) → Contains (around (charged_loops flow fees) x.node) l → cost_of_iteration costs (charged_loops flow fees) (x.iteration l) ≡ cost_of_iteration others (charged_loops flow fees) (x.iteration l)
    same_one l has =
        let among = (from_filter (λ (k : BoundedLoop). holds k.members x.node) (charged_loops flow fees) l has).0 in
        let k = in_nest flow.nest (header_bounds bound_of m (headers_of flow.nest)) fees l among in
        let loop = All-contains (IsLoopOf flow.graph) flow.nest k.0 flow.is_nest.loops k.1 in
        let r = (flow.is_live.edges loop.header.0 k.0.header).0 loop.header.1.edge in
        let nodes = same_walk_cost P m flow.graph flow.is_live costs others (charged_loops flow fees) agree (x.are l has).walk r.target (later r.reached r.edge) (sym k.2 ∙ r.numbered.1) in
        ap (λ (n : ℕ). n + sum_by (λ (h : BoundedLoop). h.load * later_entries h.members (x.iteration l)) (charged_loops flow fees)) nodes

    same : sum_by (λ l. cost_of_iteration costs (charged_loops flow fees) (x.iteration l)) (around (charged_loops flow fees) x.node) ≡ sum_by (λ l. cost_of_iteration others (charged_loops flow fees) (x.iteration l)) (around (charged_loops flow fees) x.node)
    same =
        same_sum (λ l. cost_of_iteration costs (charged_loops flow fees) (x.iteration l)) (λ l. cost_of_iteration others (charged_loops flow fees) (x.iteration l)) (around (charged_loops flow fees) x.node)
        same_one
