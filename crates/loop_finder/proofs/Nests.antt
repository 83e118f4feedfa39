-- The loops of a nest that count, loop by loop.
use Rattle.std.proofs.Common.{◌≡◌, ◌↔◌, ◌⊎◌, ℕ, ◌+◌, ◌*◌, ◌%◌, ◌<◌, ◌≤◌, List, [], ◌∷◌, ◌++◌, length, map, get_or, All, Contains, Option, Some, None, refl, sym, ap, ap₂, ◌∙◌, subst, inl, inr, arith}
use Rattle.std.specs.Prelude.{slice_index}
use Rattle.std.specs.List.Sorted.{IsStrictlyIncreasing}
use Rattle.std.proofs.lemmas.Bool.{cases_lt}
use Rattle.std.proofs.lemmas.List.{length-map, map-append, get_or_default}
use Rattle.std.proofs.lemmas.List.Elements.{Contains-push, Contains-push_cases, Contains-append_left, Contains-get_or}
use Rattle.lists.proofs.Lemmas.{none≢some, some_same}
use Rattle.lists.specs.Members.{nil_contains, place_of, rising_pair}
use Rattle.section_check.specs.Least.{IsLeast}
use Rattle.loop_nest.specs.Digraph.{Digraph, IsDigraph, Edge}
use Rattle.loop_nest.specs.Walks.{Walk}
use Rattle.loop_nest.specs.Walks.Walk.{stay, along}
use Rattle.loop_nest.specs.Nest.{NaturalLoop, headers_of, header_at, IsNest}
use Rattle.loop_nest.proofs.Elements.{from_map}
use Rattle.loop_nest.proofs.Ends.{ends_within}
use Rattle.loop_nest.proofs.Rising.{rising_push}
use Rattle.compact_walks.specs.Moving.{IsMoved}
use Rattle.compact_walks.proofs.Loops.{header_of, member_within, no_loop}
use Rattle.loop_finder.specs.Counting.{Body, Counts, AreBounds}
use Rattle.loop_finder.specs.Methods.{IsNestBy, IsBoundOfLoop, with_bound}
use Rattle.compact_walks.proofs.Walks.{header_back}

-- ---- numbers of nodes

below_out : (g d : Digraph) (node : ℕ → ℕ) → IsDigraph g → ((u v : ℕ) → Edge d u v → Edge g (node u) (node v)) → {u v : ℕ} {ns : List ℕ} → Walk d u v ns → node u < g.nodes → node v < g.nodes
below_out g d node wf edges stay lt = lt
below_out g d node wf edges (along {u} {v} e t) lt = below_out g d node wf edges t (ends_within wf (node u) (node v) (edges u v e)).1

module _ (g : Digraph) (nodes : List ℕ) (ls : List NaturalLoop) (wf : IsDigraph g) (h : IsNestBy g nodes ls) where
  pub heads_below : All (λ l. l.header < length nodes) ls
  heads_below k d lt =
      let l = h.nest.loops k d lt in
      let below : (get_or ls k d).header < h.compact.nodes = (ends_within h.is.digraph l.header.0 (get_or ls k d).header l.header.1.edge).1 in
      let long = h.long in
      omega arith

  pub members_below : All (λ l. All (λ u. u < length nodes) l.members) ls
  members_below k d lt i e li =
      let l = h.nest.loops k d lt in
      let us = (get_or ls k d).members in
      let below : get_or us i e < h.compact.nodes = member_within (get_or ls k d).header (get_or us i e) h.is.digraph ((l.members (get_or us i e)).0 (Contains-get_or us i e li)) in
      let long = h.long in
      omega arith

  pub nodes_below : All (λ x. x < g.nodes) nodes
  nodes_below k d lt =
      let long = h.long in
      let walk = h.is.reached k (omega arith) in
      let from : slice_index nodes 0 < g.nodes = subst (λ (z : ℕ). z < g.nodes) (sym h.is.entry) wf.entry in
      let below : slice_index nodes k < g.nodes = below_out g h.compact (slice_index nodes) wf (λ u v e. ((h.is.edges u v).0 e).2) walk.1 from in
      subst (λ (z : ℕ). z < g.nodes) (get_or_default nodes k 0 d lt) below

-- ---- one loop

least_one : (Q : ℕ → Type 0) (m n : ℕ) → IsLeast Q (Some m) → IsLeast Q (Some n) → m ≡ n
least_one Q m n a b =
    elim (cases_lt m n) [
      | inl less ↦ absurd (b.1 m less a.0)
      | inr ge ↦ elim (cases_lt n m) [ inl less ↦ absurd (a.1 n less b.0) | inr le ↦ omega arith ]
    ]

abbrev pub bound_with : ℕ → ℕ → Option (ℕ × ℕ)
bound_with p n = Some (p, n)

module _ (b : Body) (node : ℕ → ℕ) (ls : List NaturalLoop) (i h : ℕ) (is : h ≡ node (header_at ls i)) where
  pub odd_header : h % 2 ≡ 1 → IsBoundOfLoop b node ls i None
  odd_header odd = record { each = λ p n. (λ e. absurd (none≢some (p, n) e), λ r. let even = r.0 in absurd (omega arith)) }

  pub no_bound : IsLeast (Counts b h) None → IsBoundOfLoop b node ls i None
  no_bound none = record { each = λ p n. (λ e. absurd (none≢some (p, n) e), λ r. absurd (none n (subst (λ (z : ℕ). Counts b z n) (sym (is ∙ r.0)) r.1.0))) }

  pub one_bound : (q m : ℕ) → h ≡ 2 * q → IsLeast (Counts b h) (Some m) → IsBoundOfLoop b node ls i (bound_with q m)
  one_bound q m even least = record { each = λ p n. (to p n, from p n) }
    where
      at : IsLeast (Counts b (2 * q)) (Some m)
      at = subst (λ (z : ℕ). IsLeast (Counts b z) (Some m)) even least

      to : (p n : ℕ) → bound_with q m ≡ bound_with p n → (node (header_at ls i) ≡ 2 * p) × IsLeast (Counts b (2 * p)) (Some n)
      to p n e =
          let first : ℕ × ℕ = (q, m) in
          let second : ℕ × ℕ = (p, n) in
          let same : first ≡ second = some_same first second e in
          let place : q ≡ p = ap (λ (x : ℕ × ℕ). x.0) same in
          let bound : m ≡ n = ap (λ (x : ℕ × ℕ). x.1) same in
          (sym is ∙ (even ∙ ap (λ (z : ℕ). 2 * z) place), subst (λ (z : ℕ). IsLeast (Counts b (2 * z)) (Some n)) place (subst (λ (z : ℕ). IsLeast (Counts b (2 * q)) (Some z)) bound at))

      from : (p n : ℕ) → (node (header_at ls i) ≡ 2 * p) × IsLeast (Counts b (2 * p)) (Some n) → bound_with q m ≡ bound_with p n
      from p n r =
          let twice : 2 * q ≡ 2 * p = sym even ∙ (is ∙ r.0) in
          let place : q ≡ p = omega arith in
          let bound : m ≡ n = least_one (Counts b (2 * p)) m n (subst (λ (z : ℕ). IsLeast (Counts b (2 * z)) (Some m)) place at) r.1 in
          ap₂ bound_with place bound

-- ---- the first loops

-- loop k counts, where its header has the number of an instruction
pub record IsBoundAt (b : Body) (node : ℕ → ℕ) (ls : List NaturalLoop) (i p n : ℕ) : Type 0 where
  pub loop : ℕ
  pub below : loop < i
  pub header : node (header_at ls loop) ≡ 2 * p
  pub least : IsLeast (Counts b (2 * p)) (Some n)

-- the bounds of the first loops
pub record AreFirst (b : Body) (node : ℕ → ℕ) (ls : List NaturalLoop) (i : ℕ) (bounds : List (ℕ × ℕ)) : Type 0 where
  pub rising : IsStrictlyIncreasing (map (λ x. x.0) bounds)
  pub each : (p n : ℕ) → Contains bounds (p, n) ↔ IsBoundAt b node ls i p n

module _ (b : Body) (node : ℕ → ℕ) (ls : List NaturalLoop) where
  pub no_loops : AreFirst b node ls 0 []
  no_loops = record {
    rising = λ k lt. absurd (omega arith);
    each = λ p n. (λ has. absurd (nil_contains (p, n) has), λ f. let below = f.below in absurd (omega arith));
  }

  module _ (i : ℕ) (bounds : List (ℕ × ℕ)) (first : AreFirst b node ls i bounds) where
    later : (p n : ℕ) → IsBoundAt b node ls i p n → IsBoundAt b node ls (i + 1) p n
    later p n f = let below = f.below in record { loop = f.loop; below = omega arith; header = f.header; least = f.least }

    earlier : (p n : ℕ) → (f : IsBoundAt b node ls (i + 1) p n) → IsBoundAt b node ls i p n ⊎ (f.loop ≡ i)
    earlier p n f =
        let below = f.below in
        elim (cases_lt f.loop i) [
          | inl less ↦ inl (record { loop = f.loop; below = less; header = f.header; least = f.least })
          | inr ge ↦ inr (omega arith)
        ]

    here : (p n : ℕ) (f : IsBoundAt b node ls (i + 1) p n) → f.loop ≡ i → node (header_at ls i) ≡ 2 * p
    here p n f same = sym (ap (λ (k : ℕ). node (header_at ls k)) same) ∙ f.header

    none_more : IsBoundOfLoop b node ls i None → AreFirst b node ls (i + 1) bounds
    none_more none = record { rising = first.rising; each = λ p n. (λ has. later p n ((first.each p n).0 has), from p n) }
      where
        from : (p n : ℕ) → IsBoundAt b node ls (i + 1) p n → Contains bounds (p, n)
        from p n f =
            elim (earlier p n f) [
              | inl before ↦ (first.each p n).1 before
              | inr same ↦ absurd (none≢some (p, n) ((none.each p n).1 (here p n f same, f.least)))
            ]

    one_more : ((k : ℕ) → k < i → node (header_at ls k) < node (header_at ls i)) → (x : ℕ × ℕ) → IsBoundOfLoop b node ls i (Some x) → AreFirst b node ls (i + 1) (bounds ++ x ∷ [])
    one_more rising x one = record {
      rising = subst IsStrictlyIncreasing (sym (map-append (λ (y : ℕ × ℕ). y.0) bounds (x ∷ []))) (rising_push (map (λ (y : ℕ × ℕ). y.0) bounds) x.0 first.rising less);
      each = λ p n. (to p n, from p n);
    }
      where
        own : (node (header_at ls i) ≡ 2 * x.0) × IsLeast (Counts b (2 * x.0)) (Some x.1)
        own = (one.each x.0 x.1).0 refl

        less : All (λ y. y < x.0) (map (λ (y : ℕ × ℕ). y.0) bounds)
        less k d lt =
            let ys = map (λ (y : ℕ × ℕ). y.0) bounds in
            let r = from_map (λ (y : ℕ × ℕ). y.0) bounds (get_or ys k d) (Contains-get_or ys k d lt) in
            let f = (first.each r.0.0 r.0.1).0 r.1 in
            let up = rising f.loop f.below in
            let a = f.header in
            let c = own.0 in
            let same : r.0.0 ≡ get_or ys k d = r.2 in
            subst (λ (z : ℕ). z < x.0) same (omega arith)

        to : (p n : ℕ) → Contains (bounds ++ x ∷ []) (p, n) → IsBoundAt b node ls (i + 1) p n
        to p n has =
            elim (Contains-push_cases bounds x (p, n) has) [
              | inl before ↦ later p n ((first.each p n).0 before)
              | inr same ↦
                  let r = (one.each p n).0 (ap (λ (y : ℕ × ℕ). Some y) same) in
                  record { loop = i; below = omega arith; header = r.0; least = r.1 }
            ]

        from : (p n : ℕ) → IsBoundAt b node ls (i + 1) p n → Contains (bounds ++ x ∷ []) (p, n)
        from p n f =
            elim (earlier p n f) [
              | inl before ↦ Contains-append_left bounds (x ∷ []) (p, n) ((first.each p n).1 before)
              | inr same ↦
                  let e = some_same x (p, n) ((one.each p n).1 (here p n f same, f.least)) in
                  subst (λ (y : ℕ × ℕ). Contains (bounds ++ x ∷ []) y) e (Contains-push bounds x)
            ]

    pub loop_more : ((k : ℕ) → k < i → node (header_at ls k) < node (header_at ls i)) → (o : Option (ℕ × ℕ)) → IsBoundOfLoop b node ls i o → AreFirst b node ls (i + 1) (with_bound bounds o)
    loop_more rising None none = none_more none
    loop_more rising (Some x) one = one_more rising x one

-- ---- all loops

module _ (b : Body) (d : Digraph) (node : ℕ → ℕ) (ls : List NaturalLoop) (moved : IsMoved b.graph d node) (nest : IsNest d ls) where
  -- headers have rising numbers
  pub heads_rise : (i : ℕ) → i < length ls → (k : ℕ) → k < i → node (header_at ls k) < node (header_at ls i)
  heads_rise i lt k less =
      let long = length-map ls (λ (l : NaturalLoop). l.header) in
      let up : header_at ls k < header_at ls i = rising_pair (headers_of ls) nest.rising k i less (omega arith) in
      let l = nest.loops i no_loop lt in
      let head : (get_or ls i no_loop).header < d.nodes = (ends_within moved.compact.digraph l.header.0 (get_or ls i no_loop).header l.header.1.edge).1 in
      let low : header_at ls i < d.nodes = subst (λ (z : ℕ). z < d.nodes) (sym (header_of ls i no_loop lt)) head in
      moved.compact.rising (header_at ls k) (header_at ls i) low up

  pub all_loops : (i : ℕ) (bounds : List (ℕ × ℕ)) → length ls ≤ i → AreFirst b node ls i bounds → AreBounds b bounds
  all_loops i bounds done first = record { rising = first.rising; each = λ p n. (λ has. ((first.each p n).0 has).least, from p n) }
    where
      from : (p n : ℕ) → IsLeast (Counts b (2 * p)) (Some n) → Contains bounds (p, n)
      from p n least =
          let turn = least.0.1.3.each_test in
          let k = header_back b.graph d node moved (2 * p) turn.member.0 in
          let at = place_of (headers_of ls) k.0 (nest.complete k.0 k.2) in
          let long = length-map ls (λ (l : NaturalLoop). l.header) in
          let lt = at.1 in
          (first.each p n).1 (record { loop = at.0; below = omega arith; header = ap node at.2 ∙ k.3; least = least })
