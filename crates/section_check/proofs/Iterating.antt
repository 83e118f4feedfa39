-- No iteration of a loop costs more than the section says in a section whose potentials descend along every edge.
use Rattle.std.proofs.Common.{◌≡◌, ℕ, ◌*◌, ◌≤◌, ℤ, pos, Bool, true, false, cond, eqb, List, [], ◌∷◌, ◌++◌, get_or, map, sum_by, All, Contains, Option, Some, refl, sym, ap, subst, inl, inr, arith}
use Rattle.std.specs.Prelude.{◌-ℤ◌, ◌+ℤ◌, ◌≤ℤ◌}
use Rattle.std.proofs.lemmas.Bool.{cases_eq}
use Rattle.std.proofs.lemmas.Int.{ints}
use Rattle.std.proofs.lemmas.List.Sums.{sum_by-cons, sum_by-append}
use Rattle.std.proofs.lemmas.List.Elements.{All-contains, All-head}
use Rattle.lists.specs.Members.{in_tail, map_contains}
use Rattle.loop_nest.specs.Digraph.{Digraph}
use Rattle.loop_nest.specs.Walks.{Walk, back_edges_to, IsReachable, Dominates}
use Rattle.loop_nest.specs.Walks.Walk.{stay, along}
use Rattle.loop_nest.specs.Laws.{DominanceIsAntisymmetric}
use Rattle.loop_nest.proofs.Around.{end_visited}
use Rattle.loop_nest.proofs.SimpleWalks.{begins}
use Rattle.section_check.specs.Bounded.{BoundedLoop, IsKept, IsIteration, later_entries, cost_of_iteration}
use Rattle.section_check.specs.Section.{Certified, PricedLoop, bounded, headed_by, potential}
use Rattle.section_check.specs.Conditions.{DescendsTo, Descends, EdgesHold}
use Rattle.section_check.proofs.Elements.{holds_from_contains}
use Rattle.section_check.proofs.Sums.{reserve_before, headed_own}
use Rattle.section_check.proofs.Sound.{AreSound}
use Rattle.section_check.proofs.Own.{count_none, header_dominates}
use Rattle.section_check.proofs.Bounding.{IsKeptFrom, inside_of, entered_later, Covers, source_listed, paid_for}

-- a walk that doesn't visit h takes no iteration at it
no_iterations : (h : ℕ) (ns : List ℕ) → (Contains ns h → ⊥) → back_edges_to h ns ≡ 0
no_iterations h [] none = refl
no_iterations h (n ∷ ns) none = count_none h ns (λ c. none (in_tail n h ns c))

iterations_first : (h : ℕ) (first rest : List ℕ) → back_edges_to h first ≤ back_edges_to h (first ++ rest)
iterations_first h [] rest = omega arith
iterations_first h (n ∷ ns) rest = omega (arith, sum_by-append (λ (x : ℕ). cond (eqb x h) 1 0) ns rest)

-- where no iteration is left, nothing costs at most anything
none_left : (inside : PricedLoop → Bool) (ls : List PricedLoop) → sum_by (reserve_before inside (λ l. 0)) ls ≡ 0
none_left inside [] = refl
none_left inside (l ∷ ls) =
    let P : Bool → Type 0 = λ b. cond b (l.certified.iteration_cost * 0) 0 ≡ 0 in
    let go : (b : Bool) → P b = elim [ true ↦ omega arith | false ↦ refl ] in
    let here : reserve_before inside (λ l. 0) l ≡ 0 = go (inside l) in
    omega (arith, sum_by-cons (reserve_before inside (λ l. 0)) l ls, none_left inside ls)

same_entries : (u : ℕ) (rest : List ℕ) (ls : List PricedLoop) → sum_by (λ (b : BoundedLoop). b.load * later_entries b.members (u ∷ rest)) (map bounded ls) ≡ sum_by (entered_later u rest) ls
same_entries u rest [] = refl
same_entries u rest (l ∷ ls) =
    let entering : BoundedLoop → ℕ = λ b. b.load * later_entries b.members (u ∷ rest) in
    omega (arith, sum_by-cons entering (bounded l) (map bounded ls), sum_by-cons (entered_later u rest) l ls, same_entries u rest ls)

-- an edge within the loop that its target heads takes an iteration
iteration_descends : (cost u : ℕ) (l : PricedLoop) (p q : ℤ) → Contains l.certified.members u → Descends (Some l) cost u p q → (pos cost +ℤ q) ≤ℤ (p +ℤ pos l.certified.iteration_cost)
iteration_descends cost u l p q inside h =
    let P : Bool → Type 0 = λ b. DescendsTo b l cost p q in
    subst P (holds_from_contains l.certified.members u inside) h

module _ (law : DominanceIsAntisymmetric) (g : Digraph) (costs : List ℕ) (c : Certified) (ls : List PricedLoop) (sound : AreSound g ls) (edges : EdgesHold g costs c ls) (l : PricedLoop) (has : Contains ls l) (reached : IsReachable g l.certified.header) where
  abbrev h : ℕ
  h = l.certified.header

  -- of two loops that have each other's headers, these are the same
  mutual_same : (k : PricedLoop) → Contains ls k → Contains l.certified.members k.certified.header → Contains k.certified.members h → k.certified.header ≡ h
  mutual_same k has' inside around =
      let k_dominates : Dominates g k.certified.header h = header_dominates g g ls sound (λ u v e. e) k has' h around in
      let l_dominates : Dominates g h k.certified.header = header_dominates g g ls sound (λ u v e. e) l has k.certified.header inside in
      sym (law g h k.certified.header reached l_dominates k_dominates)

  -- an iteration of l takes none of another loop as long as it stays in that one from its start
  none_taken : (k : PricedLoop) → Contains ls k → (ns rest : List ℕ) → ns ≡ h ∷ rest → All (Contains l.certified.members) ns → back_edges_to h ns ≡ 0
      → (in_loop after : List ℕ) → ns ≡ in_loop ++ after → All (Contains k.certified.members) in_loop → back_edges_to k.certified.header in_loop ≤ 0
  none_taken k has' ns rest is within first [] after e all = omega arith
  none_taken k has' ns rest is within first (x ∷ s) after e all =
      let start : x ≡ h = cc in
      let P : ℕ → Type 0 = λ z. Contains k.certified.members z in
      let around : Contains k.certified.members h = subst P start (All-head (Contains k.certified.members) x s all) in
      let less = iterations_first k.certified.header (x ∷ s) after in
      let whole = ap (λ (zs : List ℕ). back_edges_to k.certified.header zs) e in
      elim (cases_eq k.certified.header h) [
        | inl same ↦ let one = ap (λ (z : ℕ). back_edges_to z ns) same in omega arith
        | inr other ↦
            let none = no_iterations k.certified.header ns (λ v. other (mutual_same k has' (All-contains (Contains l.certified.members) ns k.certified.header within v) around)) in
            omega arith
      ]

  pub iteration_bounded : (z : ℤ) → potential c.nodes h ≡ Some z → (ns : List ℕ) → IsIteration g (map bounded ls) (bounded l) ns → cost_of_iteration costs (map bounded ls) ns ≤ l.certified.iteration_cost
  iteration_bounded z listed ns iteration =
      let start = begins iteration.walk in
      let last = iteration.last in
      let cost = get_or costs last 0 in
      let iteration_cost = l.certified.iteration_cost in
      let inside = All-contains (Contains l.certified.members) ns last iteration.within (end_visited iteration.walk) in
      let from = source_listed (headed_by h ls) cost last (potential c.nodes last) (potential c.nodes h) z listed (edges last h iteration.back) in
      let P : Option PricedLoop → Type 0 = λ o. Descends o cost last from.0 z in
      let down = iteration_descends cost last l from.0 z inside (subst P (headed_own ls sound.apart l has) from.2) in
      let due = z -ℤ pos iteration_cost in
      let end : Covers costs c last due = record { potential_of = from.0; listed = from.1; enough = omega (arith, ints) } in
      let kept : (k : PricedLoop) → Contains ls k → IsKeptFrom ns k 0 =
      λ k has'.
      record {
        now = none_taken k has' ns start.0 start.1 iteration.within iteration.first;
        later = All-contains (IsKept ns) (map bounded ls) (bounded k) iteration.kept (map_contains bounded ls k has');
      }
      in
      let paid = paid_for g costs c ls sound edges due iteration.walk end start.0 start.1 (λ k. 0) kept in
      let most = paid.most in
      let same : paid.potential_of ≡ z = cc (paid.listed, listed) in
      let none = none_left (inside_of h) ls in
      let later = same_entries h start.0 ls in
      let R : List ℕ → Type 0 = λ zs. cost_of_iteration costs (map bounded ls) zs ≤ iteration_cost in
      subst R (sym start.1) (omega (arith, ints))
