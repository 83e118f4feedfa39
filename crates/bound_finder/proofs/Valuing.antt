-- What is found by a method's walks is its number under each family of numbers, limited.
use Rattle.std.proofs.Common.{◌≡◌, ℕ, ◌<◌, ◌≤◌, List, Option, Some, None, slice_index, refl, sym, ap, ◌∙◌, subst, inl, inr, arith}
use Rattle.std.proofs.lemmas.Bool.{cases_lt}
use Rattle.std.proofs.lemmas.List.Sums.{get_or-le-sum_by}
use Rattle.std.proofs.lemmas.List.Elements.{All-contains}
use Rattle.lists.specs.Members.{place_of}
use Rattle.section_check.specs.Bounded.{BoundedLoop, cost_of_nodes, IsGreatest}
use Rattle.path_solver.specs.Longest.{WalkExceeds}
use Rattle.path_solver.specs.Longest.WalksAreTooLarge.{walk as walk_large}
use Rattle.path_solver.specs.Reaching.{ReachesExit}
use Rattle.bytecode_model.specs.Program.{Program}
use Rattle.method_flow.specs.Keeping.{BoundOf}
use Rattle.method_flow.specs.Live.{IsLiveEdge}
use Rattle.method_flow.specs.Nodes.{Node, At, number_of, IsReached}
use Rattle.method_flow.specs.Nodes.IsReached.{first}
use Rattle.method_flow.specs.declared.timing.Timing.{Timing}
use Rattle.bound_rules.specs.Laws.{AgreeOnLive}
use Rattle.bound_rules.specs.Numbers.{IsGreatestValue}
use Rattle.compact_walks.specs.Limited.{cycles_limit, limited, limited_of, AreSmallAt}
use Rattle.compact_walks.specs.Solving.{loops_of}
use Rattle.bound_finder.specs.declared.known.Known.{Known}
use Rattle.bound_finder.specs.declared.prepared.Prepared.{Prepared}
use Rattle.bound_finder.specs.declared.fit.Fit.{Fit}
use Rattle.bound_finder.specs.declared.found.Walked.{Walked}
use Rattle.bound_finder.specs.declared.found.Walked.TheVariants.{Never, Shown, Large}
use Rattle.bound_finder.specs.Prepared.{node_of, IsPreparedFor}
use Rattle.bound_finder.specs.Found.{costs_of, problem_of, IsWalked, IsLargeBy, found_by}
use Rattle.bound_finder.specs.Found.IsLargeBy.{node, walk, iterations}
use Rattle.bound_finder.proofs.Limiting.{limited_is, limited_below, limited_above, small_is}
use Rattle.bound_finder.proofs.Measuring.{AreWalkLaws, OwnAreSmall, fees_in, loops_in, is_moved, in_nodes, moved_costs, on_walk, IsDearWalk, dear_walk, sum_most}

module _ (laws : AreWalkLaws) (P : Program) (t : Timing) (bound_of : BoundOf) (table : List Known) (m : ℕ) (p : Prepared) (h : IsPreparedFor P t bound_of table m p) (small : OwnAreSmall P t m) where
  abbrev loops : List BoundedLoop
  loops = loops_in laws P t bound_of table m p h small

  abbrev fees : List ℕ
  fees = fees_in laws P t bound_of table m p h small

  -- the costs are these, limited
  abbrev pub AreLimitedOf : List ℕ → Type 0
  AreLimitedOf costs = (u : Node) → IsReached (IsLiveEdge P m) u → slice_index p.costs.items (number_of u) ≡ limited (slice_index costs (number_of u))

  -- an exit is reached in the live graph where it is in the compact one
  pub exit_out : ReachesExit p.shape.graph 0 → ReachesExit h.graph 0
  exit_out reach = (laws.exits h.graph p.shape.graph (node_of p.shape) (is_moved laws P t bound_of table m p h small)).0 reach

  pub exit_in : ReachesExit h.graph 0 → ReachesExit p.shape.graph 0
  exit_in reach = (laws.exits h.graph p.shape.graph (node_of p.shape) (is_moved laws P t bound_of table m p h small)).1 reach

  -- the greatest walk costs the same in the live graph
  pub greatest_out : (value : ℕ) → IsGreatest p.shape.graph (costs_of p) (loops_of (problem_of p)) value → IsGreatest h.graph p.costs.items loops value
  greatest_out value is =
      laws.greatest h.graph p.shape.graph (node_of p.shape) (is_moved laws P t bound_of table m p h small) p.shape.nest h.shape.nest p.bounds.items fees (costs_of p) p.costs.items (moved_costs laws P t bound_of table m p h small) value is

  -- a greatest walk that no walk exceeds is within the cycles_limit
  pub value_below : (value : ℕ) → IsGreatest p.shape.graph (costs_of p) (loops_of (problem_of p)) value → (WalkExceeds p.shape.graph (costs_of p) (loops_of (problem_of p)) → ⊥) → value < cycles_limit
  value_below value is none =
      elim (cases_lt value cycles_limit) [
        | inl less ↦ less
        | inr more ↦ absurd (none (record { walk = is.walk; bounded = is.bounded; exceeds = (let same = is.attained in omega arith) }))
      ]

  -- ---- costs that are limited

  module _ (costs : List ℕ) (are : AreLimitedOf costs) where
    -- within 64 bits they are the same
    pub agree : AreSmallAt p.shape.nodes p.costs.items → AgreeOnLive P m p.costs.items costs
    agree few u reached =
        let below = All-contains (λ x. slice_index p.costs.items x < cycles_limit) p.shape.nodes (number_of u) few (in_nodes laws P t bound_of table m p h small u reached) in
        let is = are u reached in
        is ∙ small_is (slice_index costs (number_of u)) (omega arith)

    costs_more : (u : Node) → IsReached (IsLiveEdge P m) u → slice_index p.costs.items (number_of u) ≤ slice_index costs (number_of u)
    costs_more u reached =
        let is = are u reached in
        elim (limited_is (slice_index costs (number_of u))) [ inl x ↦ let same = x.1 in omega arith | inr x ↦ let more = x.0 in let same = x.1 in omega arith ]

    -- a walk past the cycles_limit is past it with these
    walk_more : WalkExceeds h.graph p.costs.items loops → WalkExceeds h.graph costs loops
    walk_more w =
        let nodes : cost_of_nodes p.costs.items w.walk ≤ cost_of_nodes costs w.walk =
        sum_most (λ x. slice_index p.costs.items x) (λ x. slice_index costs x) w.walk
        (λ x has. let k = on_walk laws P t bound_of table m p h small w.bounded.walk (At 0) first refl x has in
        subst (λ (y : ℕ). slice_index p.costs.items y ≤ slice_index costs y) (sym k.2) (costs_more k.0 k.1))
        in
        let large = w.exceeds in
        record { walk = w.walk; bounded = w.bounded; exceeds = omega arith }

    -- a node past the cycles_limit is on a walk that is past it
    node_more : IsDearWalk laws P t bound_of table m p h small → WalkExceeds h.graph costs loops
    node_more w =
        let more = costs_more w.node w.reached in
        let large = w.large in
        let at = place_of w.walk (number_of w.node) w.has in
        let part = get_or-le-sum_by (λ (x : ℕ). slice_index costs x) w.walk at.0 0 at.1 in
        let one = ap (λ (x : ℕ). slice_index costs x) at.2 in
        let nodes : slice_index costs (number_of w.node) ≤ cost_of_nodes costs w.walk = omega arith in
        record { walk = w.walk; bounded = w.bounded; exceeds = omega arith }

    module _ (value : Option ℕ) (is : IsGreatestValue h.graph costs loops value) where
      large_value : WalkExceeds h.graph costs loops → (v : Option ℕ) → value ≡ v → Some cycles_limit ≡ limited_of value
      large_value w None e = absurd (subst (λ (o : Option ℕ). IsGreatestValue h.graph costs loops o) e is (record { exit = w.bounded.last; among = w.bounded.exit; nodes = w.walk; walk = w.bounded.walk }))
      large_value w (Some n) e =
          let greatest : IsGreatest h.graph costs loops n = subst (λ (o : Option ℕ). IsGreatestValue h.graph costs loops o) e is in
          let most = greatest.greatest w.walk w.bounded in
          let large = w.exceeds in
          ap (λ (k : ℕ). Some k) (sym (limited_above n (omega arith))) ∙ sym (ap limited_of e)

      -- the greatest walk, where each node is within 64 bits, costs the same
      exact_value : AreSmallAt p.shape.nodes p.costs.items → (n : ℕ) → IsGreatest p.shape.graph (costs_of p) (loops_of (problem_of p)) n → n < cycles_limit → Some n ≡ limited_of value
      exact_value few n greatest below =
          let same : Some n ≡ value = laws.values_told P m h.graph p.costs.items costs loops (Some n) value h.is_live (agree few) (greatest_out n greatest) is in
          ap (λ (k : ℕ). Some k) (sym (limited_below n below)) ∙ ap limited_of same

      no_value : (ReachesExit p.shape.graph 0 → ⊥) → (v : Option ℕ) → value ≡ v → None ≡ limited_of value
      no_value never None e = sym (ap limited_of e)
      no_value never (Some n) e =
          let greatest : IsGreatest h.graph costs loops n = subst (λ (o : Option ℕ). IsGreatestValue h.graph costs loops o) e is in
          absurd (never (exit_in (record { exit = greatest.bounded.last; among = greatest.bounded.exit; nodes = greatest.walk; walk = greatest.bounded.walk })))

      large_is_value : (n : ℕ) → IsLargeBy p n → Some n ≡ limited_of value
      large_is_value n (node e same) = ap (λ (k : ℕ). Some k) same ∙ large_value (node_more (dear_walk laws P t bound_of table m p h small e)) value refl
      large_is_value n (walk few w same) =
          let out = laws.walks h.graph p.shape.graph (node_of p.shape) (is_moved laws P t bound_of table m p h small) p.shape.nest h.shape.nest p.bounds.items fees (costs_of p) p.costs.items (moved_costs laws P t bound_of table m p h small) w in
          ap (λ (k : ℕ). Some k) same ∙ large_value (walk_more out) value refl
      large_is_value n (iterations few greatest below over) = exact_value few n greatest below

      -- what is found is the value, limited
      pub found_is_value : (fit : Fit) (w : Walked) → IsWalked p w → (found_by m fit w).known.asked ≡ limited_of value
      found_is_value fit Never never = no_value never.1 value refl
      found_is_value fit (Shown n s) shown =
          let below = value_below shown.solution.value shown.shown.greatest (λ w. shown.shown.small (walk_large w)) in
          ap (λ (k : ℕ). Some k) shown.value_is ∙ exact_value shown.small shown.solution.value shown.shown.greatest below
      found_is_value fit (Large n) large = large_is_value n large
