-- Iterations, one of each loop that holds a node, exceed 64 bits together exactly where what they cost at most does.
use Rattle.std.proofs.Common.{◌≡◌, ℕ, suc, ◌+◌, ◌^◌, ◌≤◌, Bool, true, false, cond, eqb, List, [], ◌∷◌, length, get_or, sum_by, Contains, refl, sym, ap, ◌∙◌, subst, inl, inr, arith}
use Rattle.std.proofs.lemmas.Bool.{cases_eq, cases_Bool, eq-eqb, ne_eqb, cond-true, cond-false, both_ways}
use Rattle.std.proofs.lemmas.List.Sums.{sum_by-cons}
use Rattle.lists.specs.Members.{at_head, in_tail, cons_cases, nil_contains}
use Rattle.loop_nest.specs.Digraph.{Digraph}
use Rattle.loop_nest.specs.Nest.{NaturalLoop}
use Rattle.loop_nest.proofs.Elements.{filter_contains, from_filter}
use Rattle.path_solver.specs.declared.topology.TopologicalOrder.{TopologicalOrder}
use Rattle.path_solver.specs.Reaching.{ReachesExit, IsFlagged}
use Rattle.section_check.specs.Placing.{IsEntryAt}
use Rattle.section_check.specs.Bounded.{BoundedLoop, holds, IsIteration, cost_of_iteration}
use Rattle.section_check.proofs.Elements.{contains_from_holds, holds_from_contains}
use Rattle.section_check.proofs.Sums.{sum_by-zero}
use Rattle.path_solver.specs.Totals.{iteration_costs_around}
use Rattle.path_solver.specs.Longest.{bounded_loops, around, IterationsExceed}
use Rattle.path_solver.specs.Problem.{IsProblem}
use Rattle.path_solver.proofs.Structure.{listed_member, listed_header, from_order}
use Rattle.path_solver.proofs.Loops.{same_place, same_at}
use Rattle.path_solver.proofs.Correspond.{with_bound, bounded_at, to_bounded, from_bounded}

-- the sum over the loops that hold u, one loop more
around_cons : (f : BoundedLoop → ℕ) (l : BoundedLoop) (ls : List BoundedLoop) (u : ℕ) → sum_by f (around (l ∷ ls) u) ≡ cond (holds l.members u) (f l) 0 + sum_by f (around ls u)
around_cons f l ls u =
    let rest = around ls u in
    let P : Bool → Type 0 = λ b. sum_by f (cond b (l ∷ rest) rest) ≡ cond b (f l) 0 + sum_by f rest in
    let go : (b : Bool) → P b = elim [ true ↦ sum_by-cons f l rest | false ↦ omega arith ] in
    go (holds l.members u)

gated : (b : Bool) (x y : ℕ) → (b ≡ true → x ≤ y) → cond b x 0 ≤ cond b y 0
gated true x y le = le refl
gated false x y le = omega arith

later : {X : Type 0} (x y : X) (xs : List X) (i : ℕ) → IsEntryAt xs i y → IsEntryAt (x ∷ xs) (suc i) y
later x y xs i at = let below = at.0 in (omega arith, at.1)

-- what the loops that hold u give together is at most what they cost at most, where this holds of each
around_most : (f : BoundedLoop → ℕ) (u : ℕ) (loops : List NaturalLoop) (bounds loads iteration_costs : List ℕ) → length iteration_costs ≡ length loops
    → ((i : ℕ) (l : NaturalLoop) → IsEntryAt loops i l → Contains l.members u → f (with_bound l (get_or bounds i 0) (get_or loads i 0)) ≤ get_or iteration_costs i 0)
    → sum_by f (around (bounded_loops loops bounds loads) u) ≤ iteration_costs_around loops iteration_costs u
around_most f u [] bounds loads iteration_costs w each = omega arith
around_most f u (k ∷ ks) [] loads iteration_costs w each = omega arith
around_most f u (k ∷ ks) (x ∷ xs) [] iteration_costs w each = omega arith
around_most f u (k ∷ ks) (x ∷ xs) (y ∷ ys) [] w each = absurd (omega arith)
around_most f u (k ∷ ks) (x ∷ xs) (y ∷ ys) (v ∷ vs) w each =
    let l = with_bound k x y in
    let here = gated (holds k.members u) (f l) v (λ held. each 0 k (omega arith, refl) (contains_from_holds k.members u held)) in
    let rest = around_most f u ks xs ys vs (omega arith) (λ i z at. each (suc i) z (later k z ks i at)) in
    omega (arith, around_cons f l (bounded_loops ks xs ys) u)

-- and at least that
around_least : (f : BoundedLoop → ℕ) (u : ℕ) (loops : List NaturalLoop) (bounds loads iteration_costs : List ℕ) → length bounds ≡ length loops → length loads ≡ length loops
    → ((i : ℕ) (l : NaturalLoop) → IsEntryAt loops i l → Contains l.members u → get_or iteration_costs i 0 ≤ f (with_bound l (get_or bounds i 0) (get_or loads i 0)))
    → iteration_costs_around loops iteration_costs u ≤ sum_by f (around (bounded_loops loops bounds loads) u)
around_least f u [] bounds loads iteration_costs b m each = omega arith
around_least f u (k ∷ ks) [] loads iteration_costs b m each = absurd (omega arith)
around_least f u (k ∷ ks) (x ∷ xs) [] iteration_costs b m each = absurd (omega arith)
around_least f u (k ∷ ks) (x ∷ xs) (y ∷ ys) [] b m each = omega arith
around_least f u (k ∷ ks) (x ∷ xs) (y ∷ ys) (v ∷ vs) b m each =
    let l = with_bound k x y in
    let here = gated (holds k.members u) v (f l) (λ held. each 0 k (omega arith, refl) (contains_from_holds k.members u held)) in
    let rest = around_least f u ks xs ys vs (omega arith) (omega arith) (λ i z at. each (suc i) z (later k z ks i at)) in
    omega (arith, around_cons f l (bounded_loops ks xs ys) u)

-- where each of a list has something, and numbers tell them apart, a function gives it to each
choose : {X Y : Type 0} (number : X → ℕ) (P : X → Y → Type 0) (d : Y) (xs : List X) → ((x z : X) → Contains xs x → Contains xs z → number x ≡ number z → x ≡ z) → ((x : X) → Contains xs x → (y : Y) × P x y)
    → (f : X → Y) × ((x : X) → Contains xs x → P x (f x))
choose number P d [] one each = (λ z. d, λ z has. absurd (nil_contains z has))
choose {X} {Y} number P d (x ∷ xs) one each =
    let rest = choose number P d xs (λ y z a c. one y z (in_tail x y xs a) (in_tail x z xs c)) (λ z has. each z (in_tail x z xs has)) in
    let first = each x (at_head x xs) in
    let f : X → Y = λ z. cond (eqb (number z) (number x)) first.0 (rest.0 z) in
    let fits : (z : X) → Contains (x ∷ xs) z → P z (f z) = λ z has.
    let Q : Y → Type 0 = λ y. P z y in
    elim (cases_eq (number z) (number x)) [
      | inl same ↦
          let R : X → Type 0 = λ k. P k first.0 in
          subst Q (sym (cond-true (eqb (number z) (number x)) first.0 (rest.0 z) (eq-eqb (number z) (number x) same))) (subst R (one x z (at_head x xs) has (sym same)) first.1)
      | inr other ↦
          elim (cons_cases x z xs has) [
            | inl head ↦ absurd (other (ap number (sym head)))
            | inr there ↦ subst Q (sym (cond-false (eqb (number z) (number x)) first.0 (rest.0 z) (ne_eqb (number z) (number x) other))) (rest.1 z there)
          ]
    ]
    in
    (f, fits)

module _ (g : Digraph) (loops : List NaturalLoop) (flags : List Bool) (p : TopologicalOrder) (h : IsProblem g loops flags p) (costs bounds loads iteration_costs : List ℕ) (b : length bounds ≡ length loops) (m : length loads ≡ length loops) (w : length iteration_costs ≡ length loops) where
  abbrev bs : List BoundedLoop
  bs = bounded_loops loops bounds loads

  abbrev at_place : NaturalLoop → ℕ → BoundedLoop
  at_place l i = bounded_at loops bounds loads b m l i

  in_around : (i : ℕ) (l : NaturalLoop) (u : ℕ) → IsEntryAt loops i l → Contains l.members u → Contains (around bs u) (at_place l i)
  in_around i l u at inside =
      let there = to_bounded loops bounds loads b m i l at in
      filter_contains (λ (k : BoundedLoop). holds k.members u) bs (at_place l i) (holds_from_contains l.members u inside) (i, there.0, there.1)

  -- where no iteration of a loop costs more than these numbers say, iterations of the loops that hold a node don't together
  pub iterations_at_most : ((i : ℕ) (l : NaturalLoop) → IsEntryAt loops i l → IsFlagged flags l.header → (ns : List ℕ) → IsIteration g bs (at_place l i) ns → cost_of_iteration costs bs ns ≤ get_or iteration_costs i 0)
      → (u : ℕ) (iteration : BoundedLoop → List ℕ) → ReachesExit g u → ((l : BoundedLoop) → Contains (around bs u) l → IsIteration g bs l (iteration l))
      → sum_by (λ l. cost_of_iteration costs bs (iteration l)) (around bs u) ≤ iteration_costs_around loops iteration_costs u
  iterations_at_most each u iteration reaches iterations =
      let flag : IsFlagged flags u = (h.reaching.each u).1 reaches in
      around_most (λ l. cost_of_iteration costs bs (iteration l)) u loops bounds loads iteration_costs w
      (λ i l at inside. each i l at (listed_header g loops flags p h l u (i, at.0, at.1) flag inside) (iteration (at_place l i)) (iterations (at_place l i) (in_around i l u at inside)))

  one_place : (u : ℕ) (x z : BoundedLoop) → Contains (around bs u) x → Contains (around bs u) z → x.header ≡ z.header → x ≡ z
  one_place u x z a c same =
      let held : BoundedLoop → Bool = λ k. holds k.members u in
      let r = from_bounded loops bounds loads b m x (from_filter held bs x a).0 in
      let t = from_bounded loops bounds loads b m z (from_filter held bs z c).0 in
      let header_of : BoundedLoop → ℕ = λ k. k.header in
      let place = same_place loops h.nest.rising r.0 t.0 r.1 t.1 r.2 t.2 (ap header_of (sym r.3) ∙ same ∙ ap header_of t.3) in
      r.3 ∙ ap (λ (l : NaturalLoop). at_place l r.0) (same_at loops r.0 t.0 r.1 t.1 r.2 t.2 place) ∙ ap (λ (i : ℕ). at_place t.1 i) place ∙ sym t.3

  -- an iteration of l that costs at least what l costs at most
  record CostsItsBound (l : BoundedLoop) (ns : List ℕ) : Type 0 where
    is_iteration : IsIteration g bs l ns
    enough : (i : ℕ) (k : NaturalLoop) → IsEntryAt loops i k → l ≡ at_place k i → get_or iteration_costs i 0 ≤ cost_of_iteration costs bs ns

  module _ (attains : (i : ℕ) (l : NaturalLoop) → IsEntryAt loops i l → IsFlagged flags l.header → (ns : List ℕ) × IsIteration g bs (at_place l i) ns × (get_or iteration_costs i 0 ≤ cost_of_iteration costs bs ns)) where
    costly_iteration : (u : ℕ) → IsFlagged flags u → (x : BoundedLoop) → Contains (around bs u) x → (ns : List ℕ) × CostsItsBound x ns
    costly_iteration u flag x has =
        let r = from_filter (λ (k : BoundedLoop). holds k.members u) bs x has in
        let t = from_bounded loops bounds loads b m x r.0 in
        let P : BoundedLoop → Type 0 = λ k. Contains k.members u in
        let header_of : BoundedLoop → ℕ = λ k. k.header in
        let inside : Contains t.1.members u = subst P t.3 (contains_from_holds x.members u r.1) in
        let attained = attains t.0 t.1 t.2 (listed_header g loops flags p h t.1 u (t.0, t.2.0, t.2.1) flag inside) in
        let Q : BoundedLoop → Type 0 = λ k. IsIteration g bs k attained.0 in
        let R : ℕ → Type 0 = λ i. get_or iteration_costs i 0 ≤ cost_of_iteration costs bs attained.0 in (
          attained.0,
          record {
            is_iteration = subst Q (sym t.3) attained.1;
            enough = λ i k at same. subst R (same_place loops h.nest.rising t.0 i t.1 k t.2 at (ap header_of (sym t.3 ∙ same))) attained.2;
          },
        )

    -- where iterations cost what they cost at most, and loops that aren't in the order cost at most nothing, iteration costs that exceed 64 bits together show iterations that do
    pub iterations_together : ((i : ℕ) (l : NaturalLoop) → IsEntryAt loops i l → (Contains p.order.items l.header → ⊥) → get_or iteration_costs i 0 ≡ 0) → (u : ℕ) → 2 ^ 64 ≤ iteration_costs_around loops iteration_costs u → IterationsExceed g costs bs
    iterations_together dropped u exceeds =
        elim (cases_Bool (get_or flags u false)) [
          | inl flag ↦
              let chosen = choose (λ (l : BoundedLoop). l.header) CostsItsBound [] (around bs u) (one_place u) (costly_iteration u flag) in
              let iteration = chosen.0 in
              let least =
              around_least (λ l. cost_of_iteration costs bs (iteration l)) u loops bounds loads iteration_costs b m (λ i l at inside. (chosen.1 (at_place l i) (in_around i l u at inside)).enough i l at refl)
              in
              record { node = u; reaches = (h.reaching.each u).0 flag; iteration = iteration; are = λ l has. (chosen.1 l has).is_iteration; exceeds = omega arith }
          | inr unlisted ↦
              let none : (i : ℕ) (l : NaturalLoop) → IsEntryAt loops i l → Contains l.members u → get_or iteration_costs i 0 ≤ 0 = λ i l at inside.
              let zero_cost =
              dropped i l at (λ has. both_ways (get_or flags u false) unlisted (listed_member g loops flags p h l u (i, at.0, at.1) (from_order g loops flags p h l.header has) inside))
              in
              omega arith
              in
              let least = around_least (λ l. 0) u loops bounds loads iteration_costs b m none in
              let all = sum_by-zero (around bs u) in
              absurd (omega arith)
        ]
