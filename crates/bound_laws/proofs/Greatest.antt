-- Where an exit is reached and the walks that keep the bounds are limited, there is a greatest of them.
use Rattle.std.proofs.Common.{◌≡◌, ℕ, zero, suc, ◌+◌, ◌*◌, ◌<◌, ◌≤◌, Bool, true, false, List, [], ◌∷◌, length, Contains, slice_index, refl, sym, ap, ◌∙◌, subst, inl, inr, arith}
use Rattle.std.specs.Prelude.{not, ◌&&◌, if◌then◌else◌}
use Rattle.std.proofs.Math.Nat.{mul-le-mul_left}
use Rattle.std.proofs.lemmas.Bool.{cases_lt}
use Rattle.std.proofs.lemmas.List.Sums.{sum_by-cons}
use Rattle.std.proofs.lemmas.List.Elements.{All-contains}
use Rattle.lists.specs.Members.{at_head, in_tail, cons_cases, nil_contains}
use Rattle.loop_nest.specs.Digraph.{Digraph, IsDigraph, Edge}
use Rattle.loop_nest.specs.Walks.{Walk, IsMember}
use Rattle.loop_nest.specs.Walks.Walk.{stay, along}
use Rattle.loop_nest.specs.Nest.{NaturalLoop, IsLoopOf, IsNest}
use Rattle.loop_nest.specs.Laws.{LoopsAreNested}
use Rattle.loop_nest.proofs.Elements.{from_map}
use Rattle.loop_nest.proofs.Ends.{ends_within}
use Rattle.section_check.specs.Bounded.{BoundedLoop, holds, entries_from, entries, cost_of_nodes, cost_of_entries, cost_of, IsKept, IsBoundedWalk, IsGreatest}
use Rattle.path_solver.specs.Longest.{bounded_loops}
use Rattle.path_solver.specs.Laws.{ReachedWithinBounds}
use Rattle.path_solver.specs.Reaching.{ReachesExit}
use Rattle.loop_nest.proofs.Elements.{range_contains}
use Rattle.std.specs.List.{range_with_len}
use Rattle.bound_laws.specs.Walking.{LeadsFromReached, TakesBackEdges, GreatestWalksExist}
use Rattle.bound_laws.proofs.Cycles.{lies_in_loop}
use Rattle.bound_laws.proofs.Lengths.{IsCovered, limits}

-- ---- costs of short walks

-- no item of a list is greater than some number
most_item : (costs : List ℕ) → (top : ℕ) × ((u : ℕ) → slice_index costs u ≤ top)
most_item [] = (0, λ u. omega arith)
most_item (c ∷ cs) = let r = most_item cs in (c + r.0, by r.0 r.1)
  where
    by : (top : ℕ) → ((u : ℕ) → slice_index cs u ≤ top) → (u : ℕ) → slice_index (c ∷ cs) u ≤ c + top
    by top each zero = omega arith
    by top each (suc u) = let le = each u in omega arith

most_nodes : (costs : List ℕ) (long : ℕ) → (top : ℕ) × ((ns : List ℕ) → length ns ≤ long → cost_of_nodes costs ns ≤ top)
most_nodes costs zero = (0, λ ns short. none ns short)
  where
    none : (ns : List ℕ) → length ns ≤ 0 → cost_of_nodes costs ns ≤ 0
    none [] short = omega arith
    none (u ∷ ns) short = absurd (omega arith)
most_nodes costs (suc long) =
    let item = most_item costs in
    let rest = most_nodes costs long in
    (item.0 + rest.0, λ ns short. by item.0 item.1 rest.0 rest.1 ns short)
  where
    by : (top : ℕ) → ((u : ℕ) → slice_index costs u ≤ top) → (more : ℕ) → ((ns : List ℕ) → length ns ≤ long → cost_of_nodes costs ns ≤ more) → (ns : List ℕ) → length ns ≤ suc long → cost_of_nodes costs ns ≤ top + more
    by top each more rest [] short = omega arith
    by top each more rest (u ∷ ns) short =
        let here = each u in
        let later = rest ns (omega arith) in
        let sum = sum_by-cons (λ (x : ℕ). slice_index costs x) u ns in
        omega arith

one_entry : (b : Bool) → (if b then 1 else 0) ≤ 1
one_entry true = omega arith
one_entry false = omega arith

few_entries : (inside : Bool) (members ns : List ℕ) → entries_from inside members ns ≤ length ns
few_entries inside members [] = omega arith
few_entries inside members (u ∷ ns) =
    let here = one_entry (holds members u && not inside) in
    let later = few_entries (holds members u) members ns in
    omega arith

most_entries : (loops : List BoundedLoop) (long : ℕ) → (top : ℕ) × ((ns : List ℕ) → length ns ≤ long → cost_of_entries loops ns ≤ top)
most_entries [] long = (0, λ ns short. omega arith)
most_entries (l ∷ ls) long =
    let rest = most_entries ls long in (
      l.load * long + rest.0,
      λ ns short. let later = rest.1 ns short in
          let few : entries l.members ns ≤ long = (let le = few_entries false l.members ns in omega arith) in
          let here = mul-le-mul_left l.load few in
          let sum = sum_by-cons (λ (k : BoundedLoop). k.load * entries k.members ns) l ls in
          omega arith,
    )

most_cost : (costs : List ℕ) (loops : List BoundedLoop) (long : ℕ) → (top : ℕ) × ((ns : List ℕ) → length ns ≤ long → cost_of costs loops ns ≤ top)
most_cost costs loops long =
    let nodes = most_nodes costs long in
    let entered = most_entries loops long in
    (nodes.0 + entered.0, λ ns short. let a = nodes.1 ns short in let b = entered.1 ns short in omega arith)

-- ---- the greatest

module _ (g : Digraph) (costs : List ℕ) (loops : List BoundedLoop) (top : ℕ) (limited : (ns : List ℕ) → IsBoundedWalk g loops ns → cost_of costs loops ns ≤ top) where
  -- from a walk on, there can't but be a greatest
  climb : (more : ℕ) (ns : List ℕ) → IsBoundedWalk g loops ns → top ≤ cost_of costs loops ns + more → ((value : ℕ) × IsGreatest g costs loops value → ⊥) → ⊥
  climb zero ns is near none =
      none (cost_of costs loops ns, record { walk = ns; bounded = is; attained = refl; greatest = λ ms h. let le = limited ms h in omega arith })
  climb (suc more) ns is near none =
      none (
        cost_of costs loops ns,
        record {
          walk = ns;
          bounded = is;
          attained = refl;
          greatest = λ ms h. elim (cases_lt (cost_of costs loops ns) (cost_of costs loops ms)) [ inl less ↦ absurd (climb more ms h (omega arith) none) | inr at_most ↦ at_most ];
        },
      )

  pub greatest_of_some : (ns : List ℕ) → IsBoundedWalk g loops ns → ((value : ℕ) × IsGreatest g costs loops value → ⊥) → ⊥
  greatest_of_some ns is none = climb top ns is (omega arith) none

-- ---- bounds

most_bound : (loops : List BoundedLoop) → (most : ℕ) × ((l : BoundedLoop) → Contains loops l → l.bound ≤ most)
most_bound [] = (0, λ l c. absurd (nil_contains l c))
most_bound (k ∷ ks) =
    let r = most_bound ks in
    (k.bound + r.0, λ l c. elim (cons_cases k l ks c) [ inl same ↦ (let e = ap (λ (x : BoundedLoop). x.bound) same in omega arith) | inr there ↦ (let le = r.1 l there in omega arith) ])

-- each loop of a nest has a bound where there are as many
has_bound : (nest : List NaturalLoop) (bounds fees : List ℕ) → length bounds ≡ length nest → length fees ≡ length nest → (k : NaturalLoop) → Contains nest k
    → (l : BoundedLoop) × Contains (bounded_loops nest bounds fees) l × (l.header ≡ k.header) × (l.members ≡ k.members)
has_bound [] bounds fees long long' k has = absurd (nil_contains k has)
has_bound (l ∷ ls) [] fees long long' k has = absurd (omega arith)
has_bound (l ∷ ls) (b ∷ bs) [] long long' k has = absurd (omega arith)
has_bound (l ∷ ls) (b ∷ bs) (f ∷ fs) long long' k has =
    elim (cons_cases l k ls has) [
      | inl same ↦ (record { header = l.header; members = l.members; bound = b; load = f }, at_head _ (bounded_loops ls bs fs), ap (λ (x : NaturalLoop). x.header) same, ap (λ (x : NaturalLoop). x.members) same)
      | inr there ↦ let r = has_bound ls bs fs (omega arith) (omega arith) k there in (r.0, in_tail _ r.0 (bounded_loops ls bs fs) r.1, r.2, r.3)
    ]

-- ---- of a graph

module _ (nested : LoopsAreNested) (within : ReachedWithinBounds) (g : Digraph) (nest : List NaturalLoop) (costs bounds fees : List ℕ) (wf : IsDigraph g) (reached : LeadsFromReached g) (takes : TakesBackEdges g) (is_nest : IsNest g nest)
    (many : length bounds ≡ length nest) (many' : length fees ≡ length nest) where
  abbrev loops : List BoundedLoop
  loops = bounded_loops nest bounds fees

  covered : (u v : ℕ) (ns : List ℕ) → Edge g u v → Walk g v u ns → IsCovered loops ns
  covered u v ns e w =
      let r = lies_in_loop nested g reached takes u v ns e w in
      let header = (r.members r.header r.visited).0 in
      let k = from_map (λ (l : NaturalLoop). l.header) nest r.header (is_nest.complete r.header header) in
      let l = has_bound nest bounds fees many many' k.0 k.1 in
      let loop = All-contains (IsLoopOf g) nest k.0 is_nest.loops k.1 in
      record {
        loop = l.0;
        among = l.1;
        visited = subst (λ (z : ℕ). Contains ns z) (sym (l.2 ∙ k.2)) r.visited;
        members = λ x c. subst (λ (zs : List ℕ). Contains zs x) (sym l.3) ((loop.members x).1 (subst (λ (h : ℕ). IsMember g h x) (sym k.2) (r.members x c)));
      }

  nodes_within : {u v : ℕ} {ns : List ℕ} → Walk g u v ns → u < g.nodes → (x : ℕ) → Contains ns x → x < g.nodes
  nodes_within (stay {u}) lt x has = elim (cons_cases u x [] has) [ inl same ↦ (let e : u ≡ x = same in omega arith) | inr none ↦ absurd (nil_contains x none) ]
  nodes_within (along {u} {v} {w} {ns} e t) lt x has =
      elim (cons_cases u x ns has) [ inl same ↦ (let e' : u ≡ x = same in omega arith) | inr there ↦ nodes_within t (ends_within wf u v e).1 x there ]

  pub greatest_exists : ReachesExit g 0 → ((value : ℕ) × IsGreatest g costs loops value → ⊥) → ⊥
  greatest_exists leaves =
      let most = most_bound loops in
      let limit = limits g loops covered most.0 most.1 (length (range_with_len 0 g.nodes)) in
      let top = most_cost costs loops limit.0 in
      let way = within g nest bounds fees is_nest leaves.exit (leaves.nodes, leaves.walk) in
      greatest_of_some g costs loops top.0
      (λ ns h. top.1 ns (limit.1 (range_with_len 0 g.nodes) (omega arith) 0 h.last ns h.walk (λ x c. range_contains g.nodes x (nodes_within h.walk wf.entry x c)) (λ l c. All-contains (IsKept ns) loops l h.kept c)))
      way.0 (record { last = leaves.exit; walk = way.1; exit = leaves.among; kept = way.2 })

pub greatest_walks_exist : LoopsAreNested → ReachedWithinBounds → GreatestWalksExist
greatest_walks_exist nested within g nest costs bounds fees wf reached takes is_nest many many' leaves =
    greatest_exists nested within g nest costs bounds fees wf reached takes is_nest many many' leaves
