-- The members of a loop, and those of them that lie in an inner loop, as flags of nodes with other numbers.
use Rattle.std.proofs.Common.{◌≡◌, ◌≢◌, ◌↔◌, ◌⊎◌, ℕ, zero, suc, ◌+◌, ◌<◌, ◌≤◌, Bool, true, List, ◌∷◌, length, map, get_or, Contains, Option, Some, None, refl, sym, ap, ◌∙◌, subst, inl, inr, arith}
use Rattle.std.specs.Prelude.{MatchOption}
use Rattle.std.specs.List.Sorted.{IsStrictlyIncreasing}
use Rattle.std.proofs.lemmas.List.{length-map}
use Rattle.std.proofs.lemmas.Bool.{cases_eq}
use Rattle.lists.specs.Members.{rising_apart, place_of, cons_cases, map_contains}
use Rattle.loop_nest.specs.Digraph.{Digraph, IsDigraph}
use Rattle.loop_nest.specs.Walks.{IsHeader, IsMember, IsReachable}
use Rattle.loop_nest.specs.Nest.{NaturalLoop, headers_of, header_at, members_at, outer_at, IsLoopOf, IsAround, IsOutermost, IsNextOuter, IsNest}
use Rattle.loop_nest.specs.Laws.{HeaderDominatesMembers, LoopsAreNested, DominanceIsAntisymmetric}
use Rattle.loop_nest.proofs.Elements.{from_map}
use Rattle.loop_nest.proofs.Rising.{same_place}
use Rattle.compact_walks.specs.Moving.{IsMoved}
use Rattle.compact_walks.proofs.Loops.{header_of, members_of, member_within, no_loop}
use Rattle.path_solver.proofs.Apart.{apart_cons, few_apart}
use Rattle.path_solver.proofs.Fewer.{few_within}
use Rattle.compact_walks.proofs.Walks.{apart, header_out, header_back, member_out, member_back, member_in}
use Rattle.loop_marks.specs.Reach.{flag_at}
use Rattle.loop_marks.specs.Marking.{IsInner, AreHeldDirectly}

own_member : (g : Digraph) (h : ℕ) → IsHeader g h → IsMember g h h
own_member g h header = (header, inl refl)

module _ (d : Digraph) (wf : IsDigraph d) (ls : List NaturalLoop) (nest : IsNest d ls) where
  pub loop_at : (k : ℕ) → k < length ls → IsLoopOf d (get_or ls k no_loop)
  loop_at k lt = nest.loops k no_loop lt

  pub head : (k : ℕ) → k < length ls → IsHeader d (header_at ls k)
  head k lt = subst (λ (z : ℕ). IsHeader d z) (sym (header_of ls k no_loop lt)) (loop_at k lt).header

  pub member : (k u : ℕ) → k < length ls → Contains (members_at ls k) u → IsMember d (header_at ls k) u
  member k u lt has =
      let l = loop_at k lt in
      subst (λ (z : ℕ). IsMember d z u) (sym (header_of ls k no_loop lt)) ((l.members u).0 (subst (λ (us : List ℕ). Contains us u) (members_of ls k no_loop lt) has))

  pub has_member : (k u : ℕ) → k < length ls → IsMember d (header_at ls k) u → Contains (members_at ls k) u
  has_member k u lt m =
      let l = loop_at k lt in
      subst (λ (us : List ℕ). Contains us u) (sym (members_of ls k no_loop lt)) ((l.members u).1 (subst (λ (z : ℕ). IsMember d z u) (header_of ls k no_loop lt) m))

  below : (k u : ℕ) → k < length ls → Contains (members_at ls k) u → u < d.nodes
  below k u lt has = member_within (header_at ls k) u wf (member k u lt has)

  pub head_below : (k : ℕ) → k < length ls → header_at ls k < d.nodes
  head_below k lt = member_within (header_at ls k) (header_at ls k) wf (own_member d (header_at ls k) (head k lt))

  -- loops with other numbers have other headers
  pub heads_differ : (i k : ℕ) → i < length ls → k < length ls → i ≢ k → header_at ls i ≢ header_at ls k
  heads_differ i k li lk other same = other (same_place (headers_of ls) nest.rising i k (omega (arith, length-map ls (λ (l : NaturalLoop). l.header))) (omega (arith, length-map ls (λ (l : NaturalLoop). l.header))) same)

-- where each node is reached
module _ (dominates : HeaderDominatesMembers) (nested : LoopsAreNested) (one : DominanceIsAntisymmetric) (d : Digraph) (wf : IsDigraph d) (reached : (u : ℕ) → u < d.nodes → IsReachable d u) (ls : List NaturalLoop) (nest : IsNest d ls) where
  -- two loops aren't each within the other
  not_both : (i k : ℕ) → i < length ls → k < length ls → i ≢ k → Contains (members_at ls i) (header_at ls k) → Contains (members_at ls k) (header_at ls i) → ⊥
  not_both i k li lk other a b =
      heads_differ d wf ls nest i k li lk other (one d (header_at ls i) (header_at ls k) (reached (header_at ls i) (head_below d wf ls nest i li)) (dominates d (header_at ls i) (header_at ls k) (member d wf ls nest i (header_at ls k) li a)) (dominates d (header_at ls k) (header_at ls i) (member d wf ls nest k (header_at ls i) lk b)))

  -- a loop around another one has its members
  around_has : (k j : ℕ) → k < length ls → IsAround ls k j → (u : ℕ) → Contains (members_at ls k) u → Contains (members_at ls j) u
  around_has k j lk a u has =
      let lj = a.below in
      elim (nested d (header_at ls k) (header_at ls j) (header_at ls k) (reached (header_at ls k) (head_below d wf ls nest k lk)) (own_member d (header_at ls k) (head d wf ls nest k lk)) (member d wf ls nest j (header_at ls k) lj a.member)) [
        | inl up ↦ has_member d wf ls nest j u lj (up u (member d wf ls nest k u lk has))
        | inr down ↦ absurd (not_both j k lj lk a.other a.member (has_member d wf ls nest k (header_at ls j) lk (down (header_at ls j) (own_member d (header_at ls j) (head d wf ls nest j lj)))))
      ]

  rising : (k : ℕ) → k < length ls → IsStrictlyIncreasing (members_at ls k)
  rising k lt = subst IsStrictlyIncreasing (sym (members_of ls k no_loop lt)) (loop_at d wf ls nest k lt).rising

  -- and more
  around_longer : (k j : ℕ) → k < length ls → IsAround ls k j → suc (length (members_at ls k)) ≤ length (members_at ls j)
  around_longer k j lk a =
      let lj = a.below in
      few_within (header_at ls j ∷ members_at ls k) (members_at ls j) (apart_cons (header_at ls j) (members_at ls k) (λ x y less lt. rising_apart (members_at ls k) (rising k lk) x y less lt) (λ has. not_both j k lj lk a.other a.member has)) (λ u has.
      elim (cons_cases (header_at ls j) u (members_at ls k) has) [
        | inl same ↦ subst (Contains (members_at ls j)) same (has_member d wf ls nest j (header_at ls j) lj (own_member d (header_at ls j) (head d wf ls nest j lj)))
        | inr there ↦ around_has k j lk a u there
      ])

  members_few : (k : ℕ) → k < length ls → length (members_at ls k) ≤ d.nodes
  members_few k lt =
      few_apart (members_at ls k) d.nodes (λ x y less in_list. rising_apart (members_at ls k) (rising k lt) x y less in_list) (λ u has. below d wf ls nest k u lt has)

  -- loop j is directly within loop i and has the node
  pub record HasDirect (i u : ℕ) : Type 0 where
    pub loop : ℕ
    pub within : loop < length ls
    pub outer : outer_at ls loop ≡ Some i
    pub has : Contains (members_at ls loop) u

  -- a loop within loop i that has the node is directly within it, or a loop around it is
  step : (i u k : ℕ) → i < length ls → k < length ls → IsAround ls k i → Contains (members_at ls k) u
      → ((j : ℕ) → j < length ls → IsAround ls k j → IsAround ls j i → Contains (members_at ls j) u → HasDirect i u) → HasDirect i u
  step i u k li lk a has go = by (outer_at ls k) refl (nest.outer k lk)
    where
      next : (j : ℕ) → outer_at ls k ≡ Some j → IsNextOuter ls k j → (j ≡ i) ⊎ (j ≢ i) → HasDirect i u
      next j e n (inl same) = record { loop = k; within = lk; outer = e ∙ ap (λ (z : ℕ). Some z) same; has = has }
      next j e n (inr other) = go j n.around.below n.around (record { below = li; other = (λ same. other (sym same)); member = n.next i a }) (around_has k j lk n.around u has)

      by : (o : Option ℕ) → outer_at ls k ≡ o → MatchOption o (IsOutermost ls k) (IsNextOuter ls k) → HasDirect i u
      by None e none = absurd (none i a)
      by (Some j) e n = next j e n (cases_eq j i)

  -- of the loops within loop i that have the node one is directly within it
  pub direct : (i u fuel k : ℕ) → i < length ls → k < length ls → IsAround ls k i → Contains (members_at ls k) u → d.nodes ≤ length (members_at ls k) + fuel → HasDirect i u
  direct i u zero k li lk a has enough = step i u k li lk a has (λ j lj up inner there.
      let more = around_longer k j lk up in
      let few = members_few j lj in
      absurd (omega arith))
  direct i u (suc fuel) k li lk a has enough = step i u k li lk a has (λ j lj up inner there.
      let more = around_longer k j lk up in
      direct i u fuel j li lj inner there (omega arith))

-- ---- with other numbers

module _ (g d : Digraph) (node : ℕ → ℕ) (h : IsMoved g d node) (ls : List NaturalLoop) (nest : IsNest d ls) (i : ℕ) (lt : i < length ls) where
  abbrev pub hd : ℕ
  hd = header_at ls i

  low : hd < d.nodes
  low = head_below d h.compact.digraph ls nest i lt

  at : (k u : ℕ) → k < length ls → Contains (members_at ls k) u → IsMember d (header_at ls k) u
  at = member d h.compact.digraph ls nest

  there : (k u : ℕ) → k < length ls → IsMember d (header_at ls k) u → Contains (members_at ls k) u
  there = has_member d h.compact.digraph ls nest

-- where each node is reached
module _ (dominates : HeaderDominatesMembers) (nested : LoopsAreNested) (one : DominanceIsAntisymmetric) (g d : Digraph) (node : ℕ → ℕ) (h : IsMoved g d node) (ls : List NaturalLoop) (nest : IsNest d ls) (i : ℕ) (lt : i < length ls) where
  pub inner_are : (members flags : List Bool) → ((x : ℕ) → (flag_at members x ≡ true) ↔ IsMember g (node (header_at ls i)) x) → AreHeldDirectly node ls i (length ls) members flags
      → (x : ℕ) → (flag_at flags x ≡ true) ↔ IsInner g (node (header_at ls i)) x
  inner_are members flags members_are are x = (to, from)
    where
      around : (k : ℕ) → k < length ls → outer_at ls k ≡ Some i → IsAround ls k i
      around k lk e = let n : IsNextOuter ls k i = subst (λ (o : Option ℕ). MatchOption o (IsOutermost ls k) (IsNextOuter ls k)) e (nest.outer k lk) in n.around

      to : flag_at flags x ≡ true → IsInner g (node (header_at ls i)) x
      to flag =
          let r = ((are.each x).0 flag).1 in
          let k = r.index in
          let lk = r.below in
          let a = around k lk r.outer in
          let u = from_map node (members_at ls k) x r.inside in
          let other = heads_differ d h.compact.digraph ls nest i k lt lk a.other in
          let low_k = head_below d h.compact.digraph ls nest k lk in
          record {
            other = node (header_at ls k);
            header = header_out g d node h (header_at ls k) (head d h.compact.digraph ls nest k lk);
            member = subst (λ (z : ℕ). IsMember g (node (header_at ls k)) z) u.2 (member_out g d node h (header_at ls k) u.0 (member d h.compact.digraph ls nest k u.0 lk u.1));
            within = member_out g d node h (header_at ls i) (header_at ls k) (member d h.compact.digraph ls nest i (header_at ls k) lt a.member);
            differs = λ same. other (sym (apart g d node h (header_at ls k) (header_at ls i) low_k (low g d node h ls nest i lt) same));
          }

      from : IsInner g (node (header_at ls i)) x → flag_at flags x ≡ true
      from n =
          let b = header_back g d node h n.other n.header in
          let place = place_of (headers_of ls) b.0 (nest.complete b.0 b.2) in
          let long = length-map ls (λ (l : NaturalLoop). l.header) in
          let place_lt = place.1 in
          let k = place.0 in
          let lk : k < length ls = omega arith in
          let is : header_at ls k ≡ b.0 = place.2 in
          let inside = member_in g d node h (header_at ls i) b.0 (low g d node h ls nest i lt) b.1 (subst (λ (z : ℕ). IsMember g (node (header_at ls i)) z) (sym b.3) n.within) in
          let m = member_back g d node h b.0 b.1 x (subst (λ (z : ℕ). IsMember g z x) (sym b.3) n.member) in
          let a : IsAround ls k i = record {
            below = lt;
            other = λ same. n.differs (sym b.3 ∙ ap node (sym is ∙ ap (header_at ls) (sym same)));
            member = subst (Contains (members_at ls i)) (sym is) (has_member d h.compact.digraph ls nest i b.0 lt inside);
          } in
          let has = has_member d h.compact.digraph ls nest k m.0 lk (subst (λ (z : ℕ). IsMember d z m.0) (sym is) m.3) in
          let all : (u : ℕ) → u < d.nodes → IsReachable d u = λ u lu. h.compact.reached u lu in
          let own = around_has dominates nested one d h.compact.digraph all ls nest k i lk a m.0 has in
          let flagged = (members_are x).1 (subst (λ (z : ℕ). IsMember g (node (header_at ls i)) z) m.2 (member_out g d node h (header_at ls i) m.0 (member d h.compact.digraph ls nest i m.0 lt own))) in
          let r = direct dominates nested one d h.compact.digraph all ls nest i m.0 d.nodes k lt lk a has (omega arith) in
          (are.each x).1 (flagged, record { index = r.loop; below = r.within; outer = r.outer; inside = subst (Contains (map node (members_at ls r.loop))) m.2 (map_contains node (members_at ls r.loop) m.0 r.has) })
