-- The graph in the course of its reduction, and the nodes by the nodes into which they were merged.
use Rattle.std.proofs.Common.{◌≡◌, ◌≢◌, ℕ, true, false, eqb, not, ◌&&◌, List, [], ◌∷◌, map, filter, Contains, refl, sym, ap, ◌∙◌, subst, inl, inr}
use Rattle.std.specs.List.{range_with_len}
use Rattle.std.proofs.lemmas.Bool.{cases_eq, eq-eqb, ne_eqb, eqb-true, eqb-false, both_ways}
use Rattle.lists.specs.Members.{cons_cases, nil_contains, map_contains}
use Rattle.loop_nest.specs.Digraph.{Digraph, Edge}
use Rattle.loop_nest.specs.Reduction.{Quotient, whole, is_self_edge, DropsSelfEdge, CanMerge, renamed, Merges, Reduces, IsReduced, Leaves}
use Rattle.loop_nest.specs.Reduction.Reduces.{done, drops, merges}
use Rattle.loop_nest.specs.Classes.{CanMergeClass, AreMerged, NoneCanMerge}
use Rattle.loop_nest.specs.Classes.AreMerged.{apart, merged}
use Rattle.loop_nest.proofs.Elements.{from_map, filter_contains, from_filter, filter-filter, filter_all}
use Rattle.loop_nest.proofs.Classes.{class_cases, idempotent, name_of_source}

-- s is what merging gives, but for edges from a node to itself
pub record Stands (g : Digraph) (s : Quotient) (c : ℕ → ℕ) : Type 0 where
  pub nodes : s.nodes ≡ filter (λ a. eqb (c a) a) (range_with_len 0 g.nodes)
  pub from : (a b : ℕ) → Contains s.edges (a, b) → (u : ℕ) × (v : ℕ) × Edge g u v × (c u ≡ a) × (c v ≡ b)
  pub kept : (u v : ℕ) → Edge g u v → c u ≢ c v → Contains s.edges (c u, c v)

pub pair_along : (es : List (ℕ × ℕ)) (a b x y : ℕ) → a ≡ x → b ≡ y → Contains es (a, b) → Contains es (x, y)
pair_along es a b x y p q has =
    let P : ℕ → Type 0 = λ z. Contains es (z, b) in
    let Q : ℕ → Type 0 = λ z. Contains es (x, z) in
    subst Q q (subst P p has)

pub stands_whole : (g : Digraph) (c : ℕ → ℕ) → ((u : ℕ) → c u ≡ u) → Stands g (whole g) c
stands_whole g c e = record {
  nodes = filter_all (λ a. eqb (c a) a) (λ a. eq-eqb (c a) a (e a)) (range_with_len 0 g.nodes);
  from = λ a b has. (a, b, has, e a, e b);
  kept = λ u v edge ne. pair_along g.edges u v (c u) (c v) (sym (e u)) (sym (e v)) edge;
}

not_self : (p a b : ℕ) → a ≢ b → not (is_self_edge p (a, b)) ≡ true
not_self p a b ne =
    elim (cases_eq a p) [
      | inl at_a ↦
          elim (cases_eq b p) [
            | inl at_b ↦ absurd (ne (at_a ∙ sym at_b))
            | inr off_b ↦ ap (λ t. not (t && eqb b p)) (eq-eqb a p at_a) ∙ ap not (ne_eqb b p off_b)
          ]
      | inr off_a ↦ ap (λ t. not (t && eqb b p)) (ne_eqb a p off_a)
    ]

self_fails : (p : ℕ) → not (is_self_edge p (p, p)) ≡ false
self_fails p = ap (λ t. not (t && t)) (eq-eqb p p refl)

pub stands_dropped : {g : Digraph} {s t : Quotient} {c : ℕ → ℕ} (p : ℕ) → DropsSelfEdge p s t → Stands g s c → Stands g t c
stands_dropped {g} {s} {t} {c} p d h = record {
  nodes = d.nodes ∙ h.nodes;
  from = λ a b has.
      let P : List (ℕ × ℕ) → Type 0 = λ es. Contains es (a, b) in
      h.from a b (from_filter (λ e. not (is_self_edge p e)) s.edges (a, b) (subst P d.edges has)).0;
  kept = λ u v edge ne.
      let P : List (ℕ × ℕ) → Type 0 = λ es. Contains es (c u, c v) in
      subst P (sym d.edges) (filter_contains (λ e. not (is_self_edge p e)) s.edges (c u, c v) (not_self p (c u) (c v) ne) (h.kept u v edge ne));
}

-- the dropped edge is gone, and no other comes
pub dropped_is_gone : {s t : Quotient} (p : ℕ) → DropsSelfEdge p s t → Contains t.edges (p, p) → ⊥
dropped_is_gone {s} {t} p d has =
    let P : List (ℕ × ℕ) → Type 0 = λ es. Contains es (p, p) in
    both_ways (not (is_self_edge p (p, p))) (self_fails p) (from_filter (λ e. not (is_self_edge p e)) s.edges (p, p) (subst P d.edges has)).1

pub dropped_is_part : {s t : Quotient} (p : ℕ) → DropsSelfEdge p s t → (e : ℕ × ℕ) → Contains t.edges e → Contains s.edges e
dropped_is_part {s} {t} p d e has =
    let P : List (ℕ × ℕ) → Type 0 = λ es. Contains es e in (from_filter (λ x. not (is_self_edge p x)) s.edges e (subst P d.edges has)).0

pub class_merge : {g : Digraph} {s : Quotient} {c : ℕ → ℕ} {x p : ℕ} → Stands g s c → CanMerge s p x → CanMergeClass g c p x
class_merge {g} {s} {c} {x} {p} h can =
    let r = h.from p x can.entered.edge in
    record {
      not_entry = can.not_entry;
      other = can.other;
      source = r.0;
      target = r.1;
      edge = r.2;
      leaves = r.3;
      enters = r.4;
      alone = λ u v edge at.
          elim (cases_eq (c u) x) [
            | inl inside ↦ inl inside
            | inr outside ↦
                inr (can.entered.alone (c u) (pair_along s.edges (c u) (c v) (c u) x refl at (h.kept u v edge (λ same. outside (same ∙ at)))))
          ];
    }

-- the names that are left after a merge
pub names_after : {g : Digraph} {c d : ℕ → ℕ} (x p : ℕ) → AreMerged g c → CanMergeClass g c p x → ((u : ℕ) → d u ≡ renamed x p (c u)) → (ns : List ℕ) → filter (λ a. not (eqb a x)) (filter (λ a. eqb (c a) a) ns) ≡ filter (λ a. eqb (d a) a) ns
names_after {g} {c} {d} x p m can is ns =
    let idem = idempotent m in
    let kept_names : (a : ℕ) → eqb (c a) a ≡ true → not (eqb a x) ≡ eqb (d a) a =
    λ a q.
    let name : c a ≡ a = eqb-true (c a) a q in
    elim (class_cases c d x p is a) [
      | inl gone ↦
          ap not (eq-eqb a x (sym name ∙ gone.0)) ∙ sym (ne_eqb (d a) a (λ e. can.other (sym gone.0 ∙ name ∙ sym e ∙ gone.1)))
      | inr stays ↦ ap not (ne_eqb a x (λ e. stays.0 (name ∙ e))) ∙ sym (eq-eqb (d a) a (stays.1 ∙ name))
    ] in
    let left_names : (a : ℕ) → eqb (c a) a ≡ false → eqb (d a) a ≡ false =
    λ a q.
    ne_eqb (d a) a (λ e.
    elim (class_cases c d x p is a) [
      | inl gone ↦
          let at_p : p ≡ a = sym gone.1 ∙ e in
          eqb-false (c a) a q (ap c (sym at_p) ∙ name_of_source idem can ∙ at_p)
      | inr stays ↦ eqb-false (c a) a q (sym stays.1 ∙ e)
    ]) in
    filter-filter (λ a. not (eqb a x)) (λ a. eqb (c a) a) (λ a. eqb (d a) a) kept_names left_names ns

pub stands_merged : {g : Digraph} {s t : Quotient} {c d : ℕ → ℕ} (x p : ℕ) → AreMerged g c → Merges x p s t → ((u : ℕ) → d u ≡ renamed x p (c u)) → Stands g s c → Stands g t d
stands_merged {g} {s} {t} {c} {d} x p m step is h =
    let can = class_merge h step.can in
    record {
      nodes =
          step.nodes
          ∙ ap (filter (λ a. not (eqb a x))) h.nodes
          ∙ names_after {c = c} {d = d} x p m can is (range_with_len 0 g.nodes);
      from = λ a b has.
          let P : List (ℕ × ℕ) → Type 0 = λ es. Contains es (a, b) in
          let r = from_map (λ e. (renamed x p e.0, renamed x p e.1)) s.edges (a, b) (subst P step.edges has) in
          let o = h.from r.0.0 r.0.1 r.1 in
          (o.0, o.1, o.2, is o.0 ∙ ap (renamed x p) o.3 ∙ ap (λ z. z.0) r.2, is o.1 ∙ ap (renamed x p) o.4 ∙ ap (λ z. z.1) r.2);
      kept = λ u v edge ne.
          let P : List (ℕ × ℕ) → Type 0 = λ es. Contains es (d u, d v) in
          let ne' : c u ≢ c v = λ same. ne (is u ∙ ap (renamed x p) same ∙ sym (is v)) in
          subst P (sym step.edges) (
          pair_along (map (λ e. (renamed x p e.0, renamed x p e.1)) s.edges) (renamed x p (c u)) (renamed x p (c v)) (d u) (d v) (sym (is u)) (sym (is v))
          (map_contains (λ e. (renamed x p e.0, renamed x p e.1)) s.edges (c u, c v) (h.kept u v edge ne'))
          );
    }

-- what merges give where steps of the reduction lead
pub record Merged (g : Digraph) (s : Quotient) : Type 0 where
  pub class : ℕ → ℕ
  pub merged : AreMerged g class
  pub stands : Stands g s class

pub classes_after : {g : Digraph} {s t : Quotient} → Reduces s t → Merged g s → Merged g t
classes_after {g} done m = m
classes_after {g} (drops p d r) m = classes_after r (record { class = m.class; merged = m.merged; stands = stands_dropped p d m.stands })
classes_after {g} (merges x p step r) m =
    let d : ℕ → ℕ = λ u. renamed x p (m.class u) in
    classes_after r (record {
      class = d;
      merged = AreMerged.merged {c = m.class} {d = d} x p m.merged (class_merge m.stands step.can) (λ u. refl);
      stands = stands_merged {c = m.class} {d = d} x p m.merged step (λ u. refl) m.stands;
    })

pub none_can_merge : {g : Digraph} {s : Quotient} {c : ℕ → ℕ} → Stands g s c → IsReduced s → NoneCanMerge g c
none_can_merge {g} {s} {c} h r x p can =
    let apart_names : c can.source ≢ c can.target = λ same. can.other (sym can.enters ∙ sym same ∙ can.leaves) in
    r.no_merge x p (record {
      not_entry = can.not_entry;
      other = can.other;
      entered = record {
        edge = pair_along s.edges (c can.source) (c can.target) p x can.leaves can.enters (h.kept can.source can.target can.edge apart_names);
        alone = λ q has.
            let o = h.from q x has in
            elim (can.alone o.0 o.1 o.2 o.4) [
              | inl inside ↦ absurd (r.no_self_edge x (pair_along s.edges q x x x (sym o.3 ∙ inside) refl has))
              | inr outside ↦ sym o.3 ∙ outside
            ];
      };
    })

pub reduces_on : {s t u : Quotient} → Reduces s t → Reduces t u → Reduces s u
reduces_on done r = r
reduces_on (drops p d q) r = drops p d (reduces_on q r)
reduces_on (merges x p m q) r = merges x p m (reduces_on q r)

-- steps lead from s to t, and t stands for c
pub record Leads (g : Digraph) (s : Quotient) (c : ℕ → ℕ) : Type 0 where
  pub last : Quotient
  pub steps : Reduces s last
  pub stands : Stands g last c

without_self_edge : ℕ → Quotient → Quotient
without_self_edge p s = record { nodes = s.nodes; edges = filter (λ e. not (is_self_edge p e)) s.edges }

drops_it : (p : ℕ) (s : Quotient) → DropsSelfEdge p s (without_self_edge p s)
unfolding without_self_edge
drops_it p s = record { nodes = refl; edges = refl }

with_merged : ℕ → ℕ → Quotient → Quotient
with_merged x p s = record { nodes = filter (λ a. not (eqb a x)) s.nodes; edges = map (λ e. (renamed x p e.0, renamed x p e.1)) s.edges }

merges_it : (x p : ℕ) (s : Quotient) → CanMerge s p x → Merges x p s (with_merged x p s)
unfolding with_merged
merges_it x p s can = record { can = can; nodes = refl; edges = refl }

can_merge : {g : Digraph} {s : Quotient} {c : ℕ → ℕ} (x p : ℕ) → CanMergeClass g c p x → Stands g s c → (Contains s.edges (x, x) → ⊥) → CanMerge s p x
can_merge {g} {s} {c} x p can h clean =
    let apart_names : c can.source ≢ c can.target = λ same. can.other (sym can.enters ∙ sym same ∙ can.leaves) in
    record {
      not_entry = can.not_entry;
      other = can.other;
      entered = record {
        edge = pair_along s.edges (c can.source) (c can.target) p x can.leaves can.enters (h.kept can.source can.target can.edge apart_names);
        alone = λ q has.
            let o = h.from q x has in
            elim (can.alone o.0 o.1 o.2 o.4) [
              | inl inside ↦ absurd (clean (pair_along s.edges q x x x (sym o.3 ∙ inside) refl has))
              | inr outside ↦ sym o.3 ∙ outside
            ];
      };
    }

-- merges are steps of the reduction
pub reduction_of : {g : Digraph} {c : ℕ → ℕ} → AreMerged g c → Leads g (whole g) c
reduction_of {g} (apart {c} e) = record { last = whole g; steps = done; stands = stands_whole g c e }
reduction_of {g} (merged {c} {d} x p m can is) =
    let r = reduction_of m in
    let s = without_self_edge x r.last in
    let drop' = drops_it x r.last in
    let stands' = stands_dropped x drop' r.stands in
    let step = merges_it x p s (can_merge x p can stands' (dropped_is_gone x drop')) in
    record {
      last = with_merged x p s;
      steps = reduces_on r.steps (drops x drop' (merges x p step done));
      stands = stands_merged x p m step is stands';
    }

-- steps that drop each of these self edges lead from s to `last`
record Cleans (g : Digraph) (s : Quotient) (c : ℕ → ℕ) (es : List (ℕ × ℕ)) : Type 0 where
  last : Quotient
  steps : Reduces s last
  stands : Stands g last c
  part : (e : ℕ × ℕ) → Contains last.edges e → Contains s.edges e
  clean : (p q : ℕ) → Contains es (p, q) → Contains last.edges (p, p) → ⊥

cleaned : {g : Digraph} {c : ℕ → ℕ} (es : List (ℕ × ℕ)) (s : Quotient) → Stands g s c → Cleans g s c es
cleaned [] s h = record { last = s; steps = done; stands = h; part = λ e has. has; clean = λ p q has. absurd (nil_contains (p, q) has) }
cleaned (e ∷ es) s h =
    let t = without_self_edge e.0 s in
    let d = drops_it e.0 s in
    let r = cleaned es t (stands_dropped e.0 d h) in
    record {
      last = r.last;
      steps = drops e.0 d r.steps;
      stands = r.stands;
      part = λ x has. dropped_is_part e.0 d x (r.part x has);
      clean = λ p q has self.
          elim (cons_cases e (p, q) es has) [
            | inl same ↦
                let at : p ≡ e.0 = ap (λ z. z.0) (sym same) in
                dropped_is_gone e.0 d (pair_along t.edges p p e.0 e.0 at at (r.part (p, p) self))
            | inr there ↦ r.clean p q there self
          ];
    }

-- where no merge is possible any more, the reduction leaves the nodes that are merged into no other
pub leaves_of : {g : Digraph} {c : ℕ → ℕ} (left : List ℕ) → AreMerged g c → NoneCanMerge g c → filter (λ a. eqb (c a) a) (range_with_len 0 g.nodes) ≡ 0 ∷ left → Leaves g left
leaves_of {g} {c} left m none nodes =
    let r = reduction_of m in
    let k = cleaned r.last.edges r.last r.stands in
    record {
      last = k.last;
      steps = reduces_on r.steps k.steps;
      reduced = record {
        no_self_edge = λ p self. k.clean p p (k.part (p, p) self) self;
        no_merge = λ x p can. none x p (class_merge k.stands can);
      };
      nodes = k.stands.nodes ∙ nodes;
    }
