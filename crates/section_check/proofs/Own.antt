-- A walk in a part of a graph that keeps the bounds of that part's own loops keeps those of well placed loops.
use Rattle.std.proofs.Common.{◌≡◌, ℕ, ◌<◌, ◌≤◌, ◌⊎◌, cond, eqb, List, [], ◌∷◌, ◌++◌, count_by, All, Contains, refl, sym, ap, ◌∙◌, subst, inl, inr, arith, append_assoc}
use Rattle.std.proofs.lemmas.Bool.{cases_eq, ne_eqb, cond-false}
use Rattle.std.proofs.lemmas.List.Sums.{sum_by-cons, sum_by-append}
use Rattle.std.proofs.lemmas.List.Elements.{All-cons, All-nil, All-head, All-tail}
use Rattle.lists.specs.Members.{at_head, in_tail, cons_cases, nil_contains, has_or_not}
use Rattle.loop_nest.specs.Digraph.{Digraph, Edge}
use Rattle.loop_nest.specs.Walks.{Walk, Dominates, IsBackEdge, IsHeader, ReachesBackEdge, IsMember, back_edges_to, KeepsBound}
use Rattle.loop_nest.specs.Walks.Walk.{stay, along}
use Rattle.loop_nest.proofs.SimpleWalks.{begins}
use Rattle.section_check.specs.Bounded.{IsKept}
use Rattle.section_check.specs.Section.{PricedLoop, bounded}
use Rattle.section_check.proofs.Sound.{AreSound}

abbrev pub LeadsTo : Digraph → ℕ → List ℕ → Type 0
LeadsTo g u [] = Unit {0}
LeadsTo g u (v ∷ ns) = Edge g u v

-- an edge goes from each node to the next
abbrev pub AreJoined : Digraph → List ℕ → Type 0
AreJoined g [] = Unit {0}
AreJoined g (u ∷ ns) = LeadsTo g u ns × AreJoined g ns

walk_linked : {g : Digraph} {u v : ℕ} {ns : List ℕ} → Walk g u v ns → AreJoined g ns
walk_linked (stay {u}) = (tt, tt)
walk_linked {g} (along {u} {v} {w} {ns} e t) =
    let b = begins t in
    let P : List ℕ → Type 0 = λ zs. LeadsTo g u zs in
    (subst P (sym b.1) e, walk_linked t)

linked_drop : (g : Digraph) (before ns : List ℕ) → AreJoined g (before ++ ns) → AreJoined g ns
linked_drop g [] ns h = h
linked_drop g (b ∷ bs) ns h = linked_drop g bs ns h.1

leads_take : (g : Digraph) (u : ℕ) (ns after : List ℕ) → LeadsTo g u (ns ++ after) → LeadsTo g u ns
leads_take g u [] after h = tt
leads_take g u (v ∷ ns) after h = h

linked_take : (g : Digraph) (ns after : List ℕ) → AreJoined g (ns ++ after) → AreJoined g ns
linked_take g [] after h = tt
linked_take g (u ∷ ns) after h = (leads_take g u ns after h.0, linked_take g ns after h.1)

pub count_none : (h : ℕ) (ns : List ℕ) → (Contains ns h → ⊥) → count_by (λ x. eqb x h) ns ≡ 0
count_none h [] none = refl
count_none h (n ∷ ns) none =
    let f : ℕ → ℕ = λ x. cond (eqb x h) 1 0 in
    let here : f n ≡ 0 = cond-false (eqb n h) 1 0 (ne_eqb n h (λ same. none (let P : ℕ → Type 0 = λ y. Contains (n ∷ ns) y in subst P same (at_head n ns)))) in
    omega (arith, sum_by-cons f n ns, count_none h ns (λ c. none (in_tail n h ns c)))

count_drop : (h : ℕ) (ns : List ℕ) → back_edges_to h ns ≤ count_by (λ x. eqb x h) ns
count_drop h [] = omega arith
count_drop h (n ∷ ns) = omega (arith, sum_by-cons (λ (x : ℕ). cond (eqb x h) 1 0) n ns)

-- nodes without the header add no iteration
iterations_before : (h : ℕ) (first rest : List ℕ) → (Contains rest h → ⊥) → back_edges_to h (first ++ rest) ≤ back_edges_to h first
iterations_before h [] rest none = omega (arith, count_drop h rest, count_none h rest none)
iterations_before h (f ∷ fs) rest none = omega (arith, sum_by-append (λ (x : ℕ). cond (eqb x h) 1 0) fs rest, count_none h rest none)

-- what stands before the last visit of h are members of its loop in the graph
record IsSplit (g : Digraph) (h : ℕ) (ns : List ℕ) : Type 0 where
  first : List ℕ
  rest : List ℕ
  is : ns ≡ first ++ rest
  own : All (IsMember g h) first
  none : Contains rest h → ⊥

module _ (g part : Digraph) (ls : List PricedLoop) (sound : AreSound g ls) (within : (u v : ℕ) → Edge part u v → Edge g u v) (l : PricedLoop) (has : Contains ls l) where
  abbrev h : ℕ
  h = l.certified.header

  abbrev Holds : ℕ → Type 0
  Holds u = Contains l.certified.members u

  visits : {a x : ℕ} {ns : List ℕ} → Walk part a x ns → Holds x → Contains ns h ⊎ Holds a
  visits (stay {u}) inside = inr inside
  visits (along {u} {v} {w} {ns} e t) inside =
      elim (visits t inside) [
        | inl visited ↦ inl (in_tail u h ns visited)
        | inr inside_v ↦
            elim (has_or_not l.certified.members u) [
              | inl inside_u ↦ inr inside_u
              | inr outside ↦
                  let same = sound.entered l u v has (within u v e) inside_v outside in
                  let b = begins t in
                  let P : List ℕ → Type 0 = λ zs. Contains zs v in
                  let Q : ℕ → Type 0 = λ y. Contains ns y in
                  inl (in_tail u h ns (subst Q same (subst P (sym b.1) (at_head v b.0))))
            ]
      ]

  pub header_dominates : (x : ℕ) → Holds x → Dominates part h x
  header_dominates x inside ns w =
      elim (visits w inside) [
        | inl visited ↦ visited
        | inr inside_entry ↦
            let b = begins w in
            let P : List ℕ → Type 0 = λ zs. Contains zs 0 in
            let Q : ℕ → Type 0 = λ y. Contains ns y in
            subst Q (sym (sound.entry l has inside_entry)) (subst P (sym b.1) (at_head 0 b.0))
      ]

  back_edge : (u : ℕ) → Holds u → Edge part u h → IsBackEdge part u h
  back_edge u inside e = record { edge = e; dominates = header_dominates u inside }

  -- an iteration shows that h is a header in the part
  header_from : (u : ℕ) (s : List ℕ) → AreJoined part (u ∷ s) → All Holds (u ∷ s) → 0 < back_edges_to h (u ∷ s) → IsHeader part h
  header_from u [] linked all some = absurd (omega arith)
  header_from u (x ∷ s) linked all some =
      let inside = All-head Holds u (x ∷ s) all in
      elim (cases_eq x h) [
        | inl same ↦ (u, back_edge u inside (let P : ℕ → Type 0 = λ y. Edge part u y in subst P same linked.0))
        | inr other ↦
            let f : ℕ → ℕ = λ y. cond (eqb y h) 1 0 in
            let here : f x ≡ 0 = cond-false (eqb x h) 1 0 (ne_eqb x h other) in
            let counted = sum_by-cons f x s in
            header_from x s linked.1 (All-tail Holds u (x ∷ s) all) (omega arith)
      ]

  reaches : (y z : ℕ) → Holds y → (y ≡ h → ⊥) → Edge part y z → IsMember part h z → ReachesBackEdge part h y
  reaches y z inside other e member =
      elim (member.1) [
        | inl same ↦
            record {
              source = y;
              back_edge = back_edge y inside (let P : ℕ → Type 0 = λ k. Edge part y k in subst P same e);
              leads = (y ∷ [], stay, λ c. elim (cons_cases y h [] c) [ inl e' ↦ other e' | inr there ↦ nil_contains h there ]);
            }
        | inr r ↦
            record {
              source = r.source;
              back_edge = r.back_edge;
              leads = (y ∷ r.leads.0, along e r.leads.1, λ c. elim (cons_cases y h r.leads.0 c) [ inl e' ↦ other e' | inr there ↦ r.leads.2 there ]);
            }
      ]

  split_on : IsHeader part h → (y : ℕ) (ys : List ℕ) → LeadsTo part y ys → Holds y → (first rest : List ℕ) → ys ≡ first ++ rest → All (IsMember part h) first → (Contains rest h → ⊥) → IsSplit part h (y ∷ ys)
  split_on header y ys leads inside [] rest is own none =
      elim (cases_eq y h) [
        | inl same ↦
            record { first = y ∷ []; rest = rest; is = ap (λ (zs : List ℕ). y ∷ zs) is; own = All-cons (IsMember part h) y [] (header, inl same) (All-nil (IsMember part h)); none = none }
        | inr other ↦
            record {
              first = [];
              rest = y ∷ rest;
              is = ap (λ (zs : List ℕ). y ∷ zs) is;
              own = All-nil (IsMember part h);
              none = λ c. elim (cons_cases y h rest c) [ inl e ↦ other e | inr there ↦ none there ];
            }
      ]
  split_on header y ys leads inside (z ∷ zs) rest is own none =
      let P : List ℕ → Type 0 = λ ks. LeadsTo part y ks in
      let e : Edge part y z = subst P is leads in
      let member : IsMember part h y =
      elim (cases_eq y h) [ inl same ↦ (header, inl same) | inr other ↦ (header, inr (reaches y z inside other e (All-head (IsMember part h) z zs own))) ]
      in
      record { first = y ∷ z ∷ zs; rest = rest; is = ap (λ (ks : List ℕ). y ∷ ks) is; own = All-cons (IsMember part h) y (z ∷ zs) member own; none = none }

  split : IsHeader part h → (ns : List ℕ) → AreJoined part ns → All Holds ns → IsSplit part h ns
  split header [] linked all = record { first = []; rest = []; is = refl; own = All-nil (IsMember part h); none = λ c. nil_contains h c }
  split header (y ∷ ys) linked all =
      let s = split header ys linked.1 (All-tail Holds y ys all) in
      split_on header y ys linked.0 (All-head Holds y ys all) s.first s.rest s.is s.own s.none

  header_in : (ns : List ℕ) → AreJoined part ns → All Holds ns → 0 < back_edges_to h ns → IsHeader part h
  header_in [] linked all some = absurd (omega arith)
  header_in (u ∷ s) linked all some = header_from u s linked all some

  pub kept_by_own : (last : ℕ) (ns : List ℕ) → Walk part 0 last ns → (IsHeader part h → KeepsBound part h l.bound ns) → IsKept ns (bounded l)
  kept_by_own last ns w keeps before in_loop after is all =
      let P : List ℕ → Type 0 = λ zs. AreJoined part zs in
      let linked = linked_drop part before in_loop (linked_take part (before ++ in_loop) after (subst P is (walk_linked w))) in
      elim (cases_eq (back_edges_to h in_loop) 0) [
        | inl none ↦ omega arith
        | inr some ↦
            let header = header_in in_loop linked all (omega arith) in
            let s = split header in_loop linked all in
            let Q : List ℕ → Type 0 = λ zs. ns ≡ before ++ zs ++ after in
            let is' : ns ≡ before ++ (s.first ++ s.rest) ++ after = subst Q s.is is in
            let placed : ns ≡ before ++ s.first ++ (s.rest ++ after) = is' ∙ simp append_assoc in
            let most = keeps header before s.first (s.rest ++ after) placed s.own in
            let R : List ℕ → Type 0 = λ zs. back_edges_to h zs ≤ l.bound in
            subst R (sym s.is) (omega (arith, iterations_before h s.first s.rest s.none))
      ]
