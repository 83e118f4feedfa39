-- The reduction has one end, and what holds of a graph where that is node 0 alone.
use Rattle.std.proofs.Common.{◌≡◌, ◌≢◌, ℕ, ◌<◌, eqb, List, [], ◌∷◌, filter, Contains, refl, sym, ap, ◌∙◌, subst, inl, inr}
use Rattle.std.specs.List.{range_with_len}
use Rattle.std.proofs.lemmas.Bool.{cases_eq, eq-eqb, ne_eqb}
use Rattle.std.proofs.lemmas.List.Elements.{All-contains}
use Rattle.lists.specs.Members.{cons_cases, nil_contains}
use Rattle.loop_nest.specs.Digraph.{Digraph, Edge, IsDigraph}
use Rattle.loop_nest.specs.Walks.{Walk, IsReachable}
use Rattle.loop_nest.specs.Walks.Walk.{stay, along}
use Rattle.loop_nest.specs.Reduction.{whole}
use Rattle.loop_nest.specs.Classes.{CanMergeClass, AreMerged, NoneCanMerge}
use Rattle.loop_nest.specs.Classes.AreMerged.{apart, merged}
use Rattle.loop_nest.specs.Laws.{ReductionHasOneEnd, ReducibleIsReached, CyclesTakeBackEdges}
use Rattle.loop_nest.proofs.Elements.{filter_contains, filter_alike, range_contains, from_range}
use Rattle.loop_nest.proofs.Classes.{class_cases, idempotent, entry_stays, enters_at_name, name_of_target}
use Rattle.loop_nest.proofs.Cycles.{cycle_takes_back_edge}
use Rattle.loop_nest.proofs.Quotients.{stands_whole, Merged, classes_after, none_can_merge}

-- where f can't be merged any more, one merge that is possible elsewhere stays within the classes of f
one_class : {g : Digraph} {f c : ℕ → ℕ} {x p : ℕ} → AreMerged g f → NoneCanMerge g f → AreMerged g c → ((u : ℕ) → f (c u) ≡ f u) → CanMergeClass g c p x → f p ≡ f x
one_class {g} {f} {c} {x} {p} mf none mc within can =
    elim (cases_eq (f p) (f x)) [
      | inl same ↦ same
      | inr differ ↦
          let f_source : f can.source ≡ f p = sym (within can.source) ∙ ap f can.leaves in
          let f_target : f can.target ≡ f x = sym (within can.target) ∙ ap f can.enters in
          let at_x : can.target ≡ x =
          sym (enters_at_name mc can.source can.target can.edge (λ e. can.other (sym can.enters ∙ sym e ∙ can.leaves))) ∙ can.enters in
          let f_at_x : f x ≡ x =
          ap f (sym at_x) ∙ enters_at_name mf can.source can.target can.edge (λ e. differ (sym f_source ∙ e ∙ f_target)) ∙ at_x in
          absurd (none x (f p) (record {
            not_entry = can.not_entry;
            other = λ e. differ (sym e ∙ sym f_at_x);
            source = can.source;
            target = can.target;
            edge = can.edge;
            leaves = f_source;
            enters = f_target ∙ f_at_x;
            alone = λ u v e at.
                elim (cases_eq (f u) (f v)) [
                  | inl inside ↦ inl (inside ∙ at)
                  | inr outside ↦
                      let v_is_x : v ≡ x = sym (enters_at_name mf u v e outside) ∙ at in
                      let c_v : c v ≡ x = ap c v_is_x ∙ name_of_target (idempotent mc) can in
                      elim (can.alone u v e c_v) [
                        | inl from_x ↦ inl (sym (within u) ∙ ap f from_x ∙ f_at_x)
                        | inr from_p ↦ inr (sym (within u) ∙ ap f from_p)
                      ]
                ];
          }))
    ]

-- whatever is merged elsewhere stays within the classes of f
within_end : {g : Digraph} {f d : ℕ → ℕ} → AreMerged g f → NoneCanMerge g f → AreMerged g d → (u : ℕ) → f (d u) ≡ f u
within_end {g} {f} mf none (apart e) u = ap f (e u)
within_end {g} {f} mf none (merged {c} {d} x p m can is) u =
    let before = within_end mf none m in
    elim (class_cases c d x p is u) [
      | inl gone ↦ ap f gone.1 ∙ one_class mf none m before can ∙ ap f (sym gone.0) ∙ before u
      | inr stays ↦ ap f stays.1 ∙ before u
    ]

-- the edge by which a walk last comes to the class of its end from outside
pub record Entry (g : Digraph) (c : ℕ → ℕ) (a : ℕ) : Type 0 where
  pub source : ℕ
  pub target : ℕ
  pub edge : Edge g source target
  pub outside : c source ≢ c target
  pub inside : c target ≡ c a

pub entry_on : {g : Digraph} (c : ℕ → ℕ) {z a : ℕ} {ns : List ℕ} → Walk g z a ns → c z ≢ c a → Entry g c a
entry_on c (stay {u}) ne = absurd (ne refl)
entry_on c (along {u} {v} {w} {ns} e t) ne =
    elim (cases_eq (c v) (c w)) [
      | inl same ↦ record { source = u; target = v; edge = e; outside = λ q. ne (q ∙ same); inside = same }
      | inr other ↦ entry_on c t other
    ]

-- a name of one end is a name of every end
same_name : {g : Digraph} {c d : ℕ → ℕ} → AreMerged g c → NoneCanMerge g c → AreMerged g d → NoneCanMerge g d → (a : ℕ) → IsReachable g a → c a ≡ a → d a ≡ a
same_name {g} {c} {d} mc none_c md none_d a reached name =
    elim (cases_eq a 0) [
      | inl at_entry ↦ ap d at_entry ∙ entry_stays md ∙ sym at_entry
      | inr inner ↦
          let k = entry_on c reached.1 (λ e. inner (sym name ∙ sym e ∙ entry_stays mc)) in
          let at : k.target ≡ a = sym (enters_at_name mc k.source k.target k.edge k.outside) ∙ k.inside ∙ name in
          let apart_d : d k.source ≢ d k.target =
          λ e. k.outside (sym (within_end mc none_c md k.source) ∙ ap c e ∙ within_end mc none_c md k.target) in
          ap d (sym at) ∙ enters_at_name md k.source k.target k.edge apart_d ∙ at
    ]

same_names : {g : Digraph} {c d : ℕ → ℕ} → ((u : ℕ) → u < g.nodes → IsReachable g u) → AreMerged g c → NoneCanMerge g c → AreMerged g d → NoneCanMerge g d → filter (λ a. eqb (c a) a) (range_with_len 0 g.nodes) ≡ filter (λ a. eqb (d a) a) (range_with_len 0 g.nodes)
same_names {g} {c} {d} reached mc none_c md none_d =
    filter_alike (λ a. eqb (c a) a) (λ a. eqb (d a) a) (range_with_len 0 g.nodes) (λ a has.
    let r = reached a (from_range g.nodes a has) in
    elim (cases_eq (c a) a) [
      | inl name ↦ eq-eqb (c a) a name ∙ sym (eq-eqb (d a) a (same_name mc none_c md none_d a r name))
      | inr other ↦ ne_eqb (c a) a other ∙ sym (ne_eqb (d a) a (λ e. other (same_name md none_d mc none_c a r e)))
    ])

pub unmerged : (g : Digraph) → Merged g (whole g)
unmerged g = record { class = λ u. u; merged = apart (λ u. refl); stands = stands_whole g (λ u. u) (λ u. refl) }

pub reduction_has_one_end : ReductionHasOneEnd
reduction_has_one_end g left other reached l k =
    let a = classes_after l.steps (unmerged g) in
    let b = classes_after k.steps (unmerged g) in
    let same = same_names reached a.merged (none_can_merge a.stands l.reduced) b.merged (none_can_merge b.stands k.reduced) in
    let e : 0 ∷ left ≡ 0 ∷ other = sym l.nodes ∙ a.stands.nodes ∙ same ∙ sym b.stands.nodes ∙ k.nodes in
    cc

-- a walk of one part and of another, one after the other
pub walk_on : {g : Digraph} {u v w : ℕ} {ns ms : List ℕ} → Walk g u v ns → Walk g v w ms → (ks : List ℕ) × Walk g u w ks
walk_on {ms = ms} stay t = (ms, t)
walk_on (along {u} e r) t = let k = walk_on r t in (u ∷ k.0, along e k.1)

-- each node is reached from the node into which it is merged
reached_from_name : {g : Digraph} {c : ℕ → ℕ} → AreMerged g c → (u : ℕ) → (ns : List ℕ) × Walk g (c u) u ns
reached_from_name {g} (apart {c} e) u =
    let P : ℕ → Type 0 = λ z. (ns : List ℕ) × Walk g z u ns in subst P (sym (e u)) (u ∷ [], stay)
reached_from_name {g} (merged {c} {d} x p m can is) u =
    let P : ℕ → Type 0 = λ z. (ns : List ℕ) × Walk g z u ns in
    elim (class_cases c d x p is u) [
      | inl gone ↦
          let to_source = reached_from_name m can.source in
          let to_u = reached_from_name m u in
          let at_x : can.target ≡ c u =
          sym (enters_at_name m can.source can.target can.edge (λ e. can.other (sym can.enters ∙ sym e ∙ can.leaves))) ∙ can.enters ∙ sym gone.0 in
          let Q : ℕ → Type 0 = λ z. (ns : List ℕ) × Walk g z u ns in
          let from_target = subst Q (sym at_x) to_u in
          let rest = walk_on to_source.1 (along can.edge from_target.1) in
          subst P (can.leaves ∙ sym gone.1) rest
      | inr stays ↦ subst P (sym stays.1) (reached_from_name m u)
    ]

pub ends_within : {g : Digraph} → IsDigraph g → (u v : ℕ) → Edge g u v → (u < g.nodes) × (v < g.nodes)
ends_within {g} d u v e = All-contains (λ x. (x.0 < g.nodes) × (x.1 < g.nodes)) g.edges (u, v) d.edges.ends e

pub names_within : {g : Digraph} {c : ℕ → ℕ} → IsDigraph g → AreMerged g c → (u : ℕ) → u < g.nodes → c u < g.nodes
names_within {g} wf (apart {c} e) u below = let P : ℕ → Type 0 = λ z. z < g.nodes in subst P (sym (e u)) below
names_within {g} wf (merged {c} {d} x p m can is) u below =
    let P : ℕ → Type 0 = λ z. z < g.nodes in
    elim (class_cases c d x p is u) [
      | inl gone ↦ subst P (can.leaves ∙ sym gone.1) (names_within wf m can.source (ends_within wf can.source can.target can.edge).0)
      | inr stays ↦ subst P (sym stays.1) (names_within wf m u below)
    ]

-- where node 0 alone is left, every node is merged into it
pub all_merged : {g : Digraph} {c : ℕ → ℕ} → IsDigraph g → AreMerged g c → filter (λ a. eqb (c a) a) (range_with_len 0 g.nodes) ≡ 0 ∷ [] → (u : ℕ) → u < g.nodes → c u ≡ 0
all_merged {g} {c} wf m alone u below =
    let P : List ℕ → Type 0 = λ ns. Contains ns (c u) in
    let has = filter_contains (λ a. eqb (c a) a) (range_with_len 0 g.nodes) (c u) (eq-eqb (c (c u)) (c u) (idempotent m u)) (range_contains g.nodes (c u) (names_within wf m u below)) in
    elim (cons_cases 0 (c u) [] (subst P alone has)) [ inl same ↦ sym same | inr there ↦ absurd (nil_contains (c u) there) ]

pub reducible_is_reached : ReducibleIsReached
reducible_is_reached g wf l u below =
    let a = classes_after l.steps (unmerged g) in
    let P : ℕ → Type 0 = λ z. (ns : List ℕ) × Walk g z u ns in
    subst P (all_merged wf a.merged (sym a.stands.nodes ∙ l.nodes) u below) (reached_from_name a.merged u)

pub visited_within : {g : Digraph} {u v : ℕ} {ns : List ℕ} → IsDigraph g → Walk g u v ns → v < g.nodes → (w : ℕ) → Contains ns w → w < g.nodes
visited_within {g} wf (stay {u}) below w has =
    let P : ℕ → Type 0 = λ z. z < g.nodes in
    elim (cons_cases u w [] has) [ inl same ↦ subst P same below | inr there ↦ absurd (nil_contains w there) ]
visited_within {g} wf (along {u} {v} {w} {ns} e t) below y has =
    let P : ℕ → Type 0 = λ z. z < g.nodes in
    elim (cons_cases u y ns has) [ inl same ↦ subst P same (ends_within wf u v e).0 | inr there ↦ visited_within wf t below y there ]

pub cycles_take_back_edges : CyclesTakeBackEdges
cycles_take_back_edges g wf l u v ns e t =
    let a = classes_after l.steps (unmerged g) in
    let inside = ends_within wf u v e in
    let zero' = all_merged wf a.merged (sym a.stands.nodes ∙ l.nodes) in
    cycle_takes_back_edge a.merged u v ns e t (λ w has. zero' w (visited_within wf (along e t) inside.0 w has) ∙ sym (zero' u inside.0))
