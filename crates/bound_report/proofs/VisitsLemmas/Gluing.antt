-- Paths that a pass gives go on through the graph; the order of its nodes has outer loops first.
use Rattle.std.proofs.Common.{◌≡◌, ◌≢◌, ℕ, ◌+◌, ◌≤◌, Bool, List, [], ◌∷◌, length, get_or, take, drop, Contains, refl, sym, ◌∙◌, subst, arith, inl, inr}
use Rattle.std.specs.Prelude.{sum_by}
use Rattle.std.proofs.lemmas.List.Elements.{All-get_or}
use Rattle.std.proofs.lemmas.List.Sums.{sum_by-cons}
use Rattle.lists.specs.Members.{at_head, in_tail, cons_cases, nil_contains, has_or_not}
use Rattle.loop_nest.specs.Digraph.{Digraph}
use Rattle.loop_nest.specs.Nest.{NaturalLoop}
use Rattle.loop_nest.specs.Walks.{Walk, stay, along}
use Rattle.section_check.specs.Bounded.{BoundedLoop}
use Rattle.section_check.specs.Placing.{IsEntryAt}
use Rattle.path_solver.specs.Distances.{distance_limit, sources_at}
use Rattle.path_solver.specs.Longest.{bounded_loops}
use Rattle.path_solver.specs.Problem.{IsMeasured, IsProblem}
use Rattle.path_solver.specs.Reaching.{IsFlagged}
use Rattle.path_solver.proofs.Order.{taken_at, take_grows}
use Rattle.path_solver.proofs.Structure as structure
use Rattle.bound_report.specs.declared.visits.problem.Problem.{Problem}
use Rattle.bound_report.specs.Visits.Paths.{IsPosed, cost_of_node, fee_of, sources, Path, rests, steps, IsPathAdded}
use Rattle.bound_report.proofs.VisitsLemmas.Natural.{natural, loop_of, IsOf}
use Rattle.bound_report.specs.Visits.Counts.{AreCounts}
use Rattle.bound_report.proofs.VisitsLemmas.GoingRound as rounds
use Rattle.bound_report.proofs.VisitsLemmas.GoingRound.{paid}
use Rattle.bound_report.proofs.VisitsLemmas.Concluding.{IsCounted, are_counts}

module _ (q : Problem) (posed : IsPosed q) where
  abbrev pub g : Digraph
  g = q.g.now

  abbrev pub nest : List NaturalLoop
  nest = q.nest.now

  abbrev pub flags : List Bool
  flags = q.found.now.listed.items

  abbrev pub m : IsMeasured g nest flags q.found.now.topology q.costs.now q.bounds.now q.loads.now q.found.now.iteration_costs.items q.found.now.fees.items q.found.now.dist.items
  m = posed.measured

  abbrev pub s : IsProblem g nest flags q.found.now.topology
  s = m.setting

  abbrev pub all : List BoundedLoop
  all = bounded_loops nest q.bounds.now q.loads.now

  abbrev pub lie : rounds.AreNatural g all
  lie = natural g nest flags q.found.now.topology s q.bounds.now q.loads.now m.bounds_long m.loads_long

  abbrev order : List ℕ
  order = q.found.now.topology.order.items

  abbrev pub of : (i : ℕ) (k : BoundedLoop) → IsEntryAt all i k → IsOf g nest flags q.found.now.topology s q.bounds.now q.loads.now m.bounds_long m.loads_long i k
  of i k at = loop_of g nest flags q.found.now.topology s q.bounds.now q.loads.now m.bounds_long m.loads_long i k at

  goes_on : (u v : ℕ) → Contains (sources q v) u → rounds.GoesOn g all lie u v
  goes_on u v has i k at same inside =
      let r = of i k at in
      let P : List ℕ → Type 0 = λ ms. Contains ms u in
      (structure.forward_edge g nest flags q.found.now.topology s u v has).3 r.loop r.among (sym r.header ∙ same) (subst P r.members inside)

  pub path_onward : {u w : ℕ} {ns : List ℕ} → Path q u w ns → rounds.Onward g all lie u w ns
  path_onward rests = rounds.rests
  path_onward (steps {u} {v} has t) = rounds.steps (structure.forward_edge g nest flags q.found.now.topology s u v has).0 (goes_on u v has) (path_onward t)

  path_head : {u w : ℕ} {ns : List ℕ} → Path q u w ns → Contains ns u
  path_head (rests {u}) = at_head u []
  path_head (steps {u} {v} {w} {ns} has t) = at_head u ns

  -- ---- within a loop

  module _ (i : ℕ) (k : BoundedLoop) (at : IsEntryAt all i k) where
    -- a path that ends at a member and doesn't come to the header stays inside
    all_inside : {u w : ℕ} {xs : List ℕ} → Path q u w xs → ((x : ℕ) → Contains xs x → x ≢ k.header) → Contains k.members w → (x : ℕ) → Contains xs x → Contains k.members x
    all_inside (rests {u}) others inside x c = elim (cons_cases u x [] c) [
      | inl same ↦ let P : ℕ → Type 0 = λ z. Contains k.members z in subst P same inside
      | inr never ↦ absurd (nil_contains x never)
    ]
    all_inside (steps {u} {v} {w} {ns} has t) others inside x c =
        let later : (y : ℕ) → Contains ns y → Contains k.members y = all_inside t (λ y d. others y (in_tail u y ns d)) inside in
        let next : Contains k.members v = later v (path_head t) in
        elim (cons_cases u x ns c) [
          | inl same ↦
              let P : ℕ → Type 0 = λ z. Contains k.members z in
              subst P same
              (elim (has_or_not k.members u) [
                | inl there ↦ there
                | inr out ↦ absurd (others v (in_tail u v ns (path_head t)) (lie.entered i k at u v (structure.forward_edge g nest flags q.found.now.topology s u v has).0 next out))
              ])
          | inr there ↦ later x there
        ]

    rest_inside : {u w : ℕ} {xs : List ℕ} → Path q u w xs → ((x : ℕ) → Contains (drop 1 xs) x → x ≢ k.header) → Contains k.members w → (x : ℕ) → Contains (drop 1 xs) x → Contains k.members x
    rest_inside (rests {u}) others inside x c = absurd (nil_contains x c)
    rest_inside (steps {u} {v} {w} {ns} has t) others inside x c = all_inside t others inside x c

    -- the source of a back edge is a member
    back_inside : (b : ℕ) → Contains (sources_at q.found.now.topology.back k.header) b → Contains k.members b
    back_inside b c =
        let r = of i k at in
        let edge = structure.back_edge g nest flags q.found.now.topology s b k.header c in
        let P : NaturalLoop → Type 0 = λ z. Contains z.members b in
        let inside : Contains r.loop.members b = subst P (structure.header_decides g nest flags q.found.now.topology s r.loop edge.3.0 r.among edge.3.1 (edge.3.2 ∙ r.header)) edge.3.3 in
        let Q : List ℕ → Type 0 = λ ms. Contains ms b in
        subst Q (sym r.members) inside

    pub iterates : (b : ℕ) (rest : List ℕ) → Path q k.header b (k.header ∷ rest) → ¬ Contains rest k.header → Contains (sources_at q.found.now.topology.back k.header) b → rounds.Iterates g all lie k b rest
    iterates b rest path once c =
        let other : (x : ℕ) → Contains rest x → x ≢ k.header = λ x d same. once (let P : ℕ → Type 0 = λ z. Contains rest z in subst P same d) in
        record {
          onward = path_onward path;
          back = (structure.back_edge g nest flags q.found.now.topology s b k.header c).0;
          inside = rest_inside path other (back_inside b c);
          others = other;
        }

  -- ---- the order

  abbrev before : ℕ → List ℕ
  before j = take j order

  -- a loop's header stands before its other members
  header_first : (i : ℕ) (k : BoundedLoop) → IsEntryAt all i k → (j : ℕ) → IsFlagged flags k.header → (x : ℕ) → Contains (before j) x → Contains k.members x → x ≢ k.header → Contains (before j) k.header
  header_first i k at j flag x c inside other =
      let r = of i k at in
      let P : List ℕ → Type 0 = λ ms. Contains ms x in
      let Q : ℕ → Type 0 = λ z. IsFlagged flags z in
      let led = structure.led g nest flags q.found.now.topology s r.loop r.among (structure.in_order g nest flags q.found.now.topology s r.loop.header (subst Q r.header flag)) in
      let place = taken_at order j x c in
      let R : ℕ → Type 0 = λ z. Contains r.loop.members z in
      let first = led.first place.0 place.2 (subst R (sym place.3) (subst P r.members inside)) (λ same. other (sym place.3 ∙ (same ∙ sym r.header))) in
      let less = place.1 in
      let S : ℕ → Type 0 = λ z. Contains (before j) z in
      subst S (sym r.header) (take_grows order place.0 j r.loop.header (omega arith) first)

  -- what comes before a node in the order, of the loops of which another's header is a member
  pub outer_done : (j i : ℕ) (k : BoundedLoop) → IsEntryAt all i k → IsFlagged flags k.header → ¬ Contains (before j) k.header → (i' : ℕ) (k' : BoundedLoop) → IsEntryAt all i' k' → Contains (before j) k'.header → ¬ Contains k.members k'.header
  outer_done j i k at flag not_done i' k' at' there inside =
      not_done
      (header_first i k at j flag k'.header there inside
      (λ same. not_done (let P : ℕ → Type 0 = λ z. Contains (before j) z in subst P same there)))

  pub inner_later : (j i : ℕ) (k : BoundedLoop) → IsEntryAt all i k → IsFlagged flags k.header → ¬ Contains (before j) k.header → (x : ℕ) → Contains k.members x → x ≢ k.header → ¬ Contains (before j) x
  inner_later j i k at flag not_done x inside other there = not_done (header_first i k at j flag x there inside other)

  -- ---- at first, and at last

  abbrev pub Counted : List ℕ → List ℕ → List ℕ → Type 0
  Counted done visits entered = IsCounted g all lie q.costs.now (fee_of q) q.found.now.value done visits entered

  fee_at_entry : get_or q.found.now.dist.items 0 0 ≡ fee_of q 0
  fee_at_entry =
      let by = m.each 0 posed.entry in
      let entry = s.digraph.entry in
      let a = m.loop_costs.fees_long in
      let b = m.costs_long in
      let small : fee_of q 0 ≤ distance_limit = All-get_or (λ d. d ≤ distance_limit) q.found.now.fees.items 0 0 (omega arith) m.loop_costs.limited_fees in
      let is = by.is in
      elim by.most.attained [
        | inl none ↦ let zero' = none.1 in omega arith
        | inr some ↦ absurd (structure.entry_not_arrived_at g nest flags q.found.now.topology s some.0 some.1)
      ]

  none_paid : (xs : List BoundedLoop) (ns : List ℕ) → sum_by (paid [] ns) xs ≡ 0
  none_paid [] ns = refl
  none_paid (x ∷ xs) ns =
      let first : paid [] ns x ≡ 0 = refl in
      let rest = none_paid xs ns in
      sum_by-cons (paid [] ns) x xs ∙ omega (arith, first, rest)

  pub counted_first : (e : ℕ) (zeros visits entered : List ℕ) → Contains g.exits e → cost_of_node q e + get_or q.found.now.dist.items e 0 ≡ q.found.now.value → ((u : ℕ) → get_or zeros u 0 ≡ 0)
      → ((i : ℕ) → get_or entered i 0 ≡ 0) → IsPathAdded q q.found.now.dist.items 0 e 1 zeros visits → Counted [] visits entered
  counted_first e zeros visits entered exit value none none' a =
      let nodes : List ℕ = 0 ∷ a.rest in
      let cost = a.cost in
      let first = fee_at_entry in
      let sum : sum_by (λ x. cost_of_node q x + fee_of q x) nodes ≡ q.found.now.value = omega arith in
      let paid_none = none_paid all nodes in
      record {
        last = e;
        nodes = nodes;
        exit = exit;
        goes = rounds.goes_at_first g all lie e nodes (path_onward a.path);
        visits_are = λ u. let one = a.added u in let zero' = none u in omega arith;
        entered_are = λ i k at c. absurd (nil_contains k.header c);
        entered_none = λ i k at c. none' i;
        spent = omega (arith, sum, paid_none);
      }

  -- a walk to an exit visits nodes from which one is reached
  walk_flagged : {u w : ℕ} {ns : List ℕ} → Walk g u w ns → IsFlagged flags w → IsFlagged flags u × ((x : ℕ) → Contains ns x → IsFlagged flags x)
  walk_flagged (stay {u}) flag =
      (flag, λ x c. elim (cons_cases u x [] c) [ inl same ↦ (let P : ℕ → Type 0 = λ z. IsFlagged flags z in subst P same flag) | inr never ↦ absurd (nil_contains x never) ])
  walk_flagged (along {u} {v} {w} {ns} e t) flag =
      let later = walk_flagged t flag in
      let here : IsFlagged flags u = structure.listed_source g nest flags q.found.now.topology s u v e later.0 in
      (here, λ x c. elim (cons_cases u x ns c) [ inl same ↦ (let P : ℕ → Type 0 = λ z. IsFlagged flags z in subst P same here) | inr there ↦ later.1 x there ])

  pub all_done : (done visits entered : List ℕ) (c : Counted done visits entered) → ((u : ℕ) → IsFlagged flags u → Contains done u) → (u : ℕ) → Contains c.nodes u → Contains done u
  all_done done visits entered c each u there =
      each u ((walk_flagged c.goes.walk (structure.listed_exit g nest flags q.found.now.topology s c.last c.exit)).1 u there)

  pub counted_all : (visits entered : List ℕ) (c : Counted order visits entered) → length visits ≡ g.nodes → length entered ≡ length all → AreCounts g q.costs.now all q.found.now.value visits entered
  counted_all visits entered c long long' =
      are_counts g all lie q.costs.now (fee_of q) q.found.now.value order visits entered c (all_done order visits entered c (structure.in_order g nest flags q.found.now.topology s)) long long'
