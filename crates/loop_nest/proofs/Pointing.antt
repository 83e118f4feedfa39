-- Pointers to the nodes into which nodes are merged.
use Rattle.std.proofs.Common.{◌≡◌, ◌≢◌, ℕ, ◌+◌, ◌<◌, ◌≤◌, ◌↔◌, Bool, true, cond, suc, ◌-◌, max, List, length, get_or, set, map, All, Contains, eqb, filter, refl, sym, ap, ◌∙◌, subst, inl, inr, arith}
use Rattle.std.proofs.lemmas.Bool.{cases_eq, cases_lt, eq-eqb, ne_eqb, eqb-true}
use Rattle.std.proofs.lemmas.List.{length-set, get_or-set_same, get_or-set_other, get_or_past, get_or_default}
use Rattle.std.proofs.lemmas.List.Elements.{All-set, All-get_or, All-from_get_or, Contains-get_or}
use Rattle.loop_nest.specs.Digraph.{Digraph, Edge, IsDigraph, AreSources}
use Rattle.loop_nest.specs.Reduction.{renamed}
use Rattle.loop_nest.specs.Classes.{CanMergeClass, AreMerged, NoneCanMerge}
use Rattle.loop_nest.specs.Classes.AreMerged.{apart, merged}
use Rattle.loop_nest.specs.Entered.{class_of, names, edge_at, IsEnteredFromOne, IsClassList, AreBackEdgesMarked}
use Rattle.std.specs.List.{range_with_len}
use Rattle.std.proofs.lemmas.List.FromFn.{get_or-range_with_len, length-range_with_len}
use Rattle.lists.specs.Members.{map_contains}
use Rattle.loop_nest.specs.Pointers.{AreFollowed, DoEnd, ArePointers, AreIncoming, AreNumbered, IsScanned, KeepsMarks, AreNames, CannotMerge, AreAllNodes}
use Rattle.loop_nest.proofs.Searching.{sources_has, from_sources}
use Rattle.loop_nest.proofs.Elements.{from_map, filter_all, filter_at_most, range_contains, from_range, less_within, fewer_kept}
use Rattle.loop_nest.proofs.Classes.{renamed_same, renamed_other, idempotent, enters_at_name, name_of_source, name_of_target}
use Rattle.loop_nest.proofs.Ends.{ends_within, names_within}
use Rattle.loop_nest.proofs.BackEdges.{marked_by}
use Rattle.loop_nest.proofs.ClassLists.{target_below}

edge_number : (es : List (ℕ × ℕ)) (e : ℕ × ℕ) → Contains es e → (i : ℕ) × (i < length es) × (edge_at es i ≡ e)
edge_number es e has = (has.0, has.1, get_or_default es has.0 (0, 0) e has.1 ∙ has.2)

-- what the edges to a node that is left tell is so for all edges to the nodes merged into it
scanned_merge : {g : Digraph} {c : ℕ → ℕ} {x p : ℕ} {numbers : List ℕ} {back : List Bool} → AreMerged g c → x ≢ 0 → c x ≡ x → ((i : ℕ) → Contains numbers i ↔ ((i < length g.edges) × ((edge_at g.edges i).1 ≡ x))) → IsScanned g.edges c numbers p x back → CanMergeClass g c p x
scanned_merge {g} {c} {x} {p} {numbers} {back} m inner named all s =
    let e = s.entered in
    let at = from_map (edge_at g.edges) numbers (e.source, e.target) e.edge in
    let i = at.0 in
    let told = (all i).0 at.1 in
    let target_is : e.target ≡ x = ap (λ z. z.1) (sym at.2) ∙ told.1 in
    let edge : Edge g e.source e.target =
    let P : ℕ × ℕ → Type 0 = λ z. Contains g.edges z in subst P at.2 (Contains-get_or g.edges i (0, 0) told.0) in
    record {
      not_entry = inner;
      other = e.other;
      source = e.source;
      target = e.target;
      edge = edge;
      leaves = e.leaves;
      enters = e.enters;
      alone = λ u v uv into_x.
          elim (cases_eq (c u) (c v)) [
            | inl same ↦ inl (same ∙ into_x)
            | inr differ ↦
                let v_is : v ≡ x = sym (enters_at_name m u v uv differ) ∙ into_x in
                let n = edge_number g.edges (u, v) uv in
                let P : ℕ × ℕ → Type 0 = λ z. Contains (map (edge_at g.edges) numbers) z in
                let listed = map_contains (edge_at g.edges) numbers n.0 ((all n.0).1 (n.1, ap (λ z. z.1) n.2 ∙ v_is)) in
                e.alone u v (subst P n.2 listed) into_x
          ];
    }

-- a node that can be merged is entered from one alone, as the edges to it tell
entered_alone : {g : Digraph} {c : ℕ → ℕ} {x p : ℕ} (numbers : List ℕ) → AreMerged g c → c x ≡ x → ((i : ℕ) → Contains numbers i ↔ ((i < length g.edges) × ((edge_at g.edges i).1 ≡ x))) → CanMergeClass g c p x → IsEnteredFromOne (map (edge_at g.edges) numbers) c p x
entered_alone {g} {c} {x} {p} numbers m named all can =
    let source = can.source in
    let target = can.target in
    let outside : c source ≢ c target = λ e. can.other (sym can.enters ∙ sym e ∙ can.leaves) in
    let target_is : target ≡ x = sym (enters_at_name m source target can.edge outside) ∙ can.enters in
    let n = edge_number g.edges (source, target) can.edge in
    let P : ℕ × ℕ → Type 0 = λ z. Contains (map (edge_at g.edges) numbers) z in
    record {
      other = can.other;
      source = source;
      target = target;
      edge = subst P n.2 (map_contains (edge_at g.edges) numbers n.0 ((all n.0).1 (n.1, ap (λ z. z.1) n.2 ∙ target_is)));
      leaves = can.leaves;
      enters = can.enters;
      alone = λ u v uv into_x.
          let at = from_map (edge_at g.edges) numbers (u, v) uv in
          let Q : ℕ × ℕ → Type 0 = λ z. Contains g.edges z in
          can.alone u v (subst Q at.2 (Contains-get_or g.edges at.0 (0, 0) ((all at.0).0 at.1).0)) into_x;
    }

pub cannot_merge : {g : Digraph} {into : List ℕ} {x : ℕ} (numbers : List ℕ) → x < length into → ((i : ℕ) → Contains numbers i ↔ ((i < length g.edges) × ((edge_at g.edges i).1 ≡ x))) → ((c : ℕ → ℕ) → AreFollowed c into → (p : ℕ) → IsEnteredFromOne (map (edge_at g.edges) numbers) c p x → ⊥) → CannotMerge g into x
cannot_merge {g} {into} {x} numbers lt all none left c m followed p can =
    none c followed p (entered_alone numbers m (followed.named x lt left) all can)

pub names_fall : (into : List ℕ) (x p : ℕ) → x < length into → class_of into x ≡ x → p ≢ x → length (names (set into x p)) < length (names into)
names_fall into x p lt left other =
    let new' = set into x p in
    let long = length-set into x p in
    let P : ℕ → Type 0 = λ k. length (filter (λ a. eqb (class_of new' a) a) (range_with_len 0 k)) < length (names into) in
    let at_x : class_of new' x ≡ p = get_or-set_same into x p x lt in
    subst P (sym long) (fewer_kept (λ a. eqb (class_of into a) a) (λ a. eqb (class_of new' a) a) (range_with_len 0 (length into)) x (λ a yes'.
    elim (cases_eq a x) [
      | inl same ↦ eq-eqb (class_of into a) a (ap (class_of into) same ∙ left ∙ sym same)
      | inr off ↦ eq-eqb (class_of into a) a (sym (get_or-set_other into x a p a off) ∙ eqb-true (class_of new' a) a yes')
    ]) (eq-eqb (class_of into x) x left) (ne_eqb (class_of new' x) x (λ e. other (sym at_x ∙ e))) (range_contains (length into) x lt))

abbrev raised : (ℕ → ℕ) → ℕ → ℕ → ℕ → ℕ
raised h x p u = cond (eqb u p) (max (h p) (suc (h x))) (h u)

raised_at : (h : ℕ → ℕ) (x p : ℕ) → raised h x p p ≡ max (h p) (suc (h x))
raised_at h x p = ap (λ b. cond b (max (h p) (suc (h x))) (h p)) (eq-eqb p p refl)

raised_off : (h : ℕ → ℕ) (x p u : ℕ) → u ≢ p → raised h x p u ≡ h u
raised_off h x p u ne = ap (λ b. cond b (max (h p) (suc (h x))) (h u)) (ne_eqb u p ne)

-- another node is merged into p, which is left
pub ends_merged : (into : List ℕ) (x p : ℕ) → x < length into → p < length into → class_of into x ≡ x → class_of into p ≡ p → p ≢ x → DoEnd into → DoEnd (set into x p)
ends_merged into x p lt p_lt left p_left other e =
    let new' = set into x p in
    let long = length-set into x p in
    let fall = names_fall into x p lt left other in
    let h = e.height in
    let at_p = raised_at h x p in
    let above : (u : ℕ) → h u ≤ raised h x p u = λ u. elim (cases_eq u p) [ inl same ↦ (let f = ap h same in let k = ap (raised h x p) same in omega arith) | inr off ↦ (let k = raised_off h x p u off in omega arith) ] in
    record {
      height = raised h x p;
      rising = λ u below moved.
          elim (cases_eq u x) [
            | inl same ↦
                let value : class_of new' u ≡ p = ap (λ (z : ℕ). get_or new' z z) same ∙ get_or-set_same into x p x lt in
                let a = raised_off h x p x (λ s. other (sym s)) in
                let b = ap (raised h x p) same in
                let c = ap (raised h x p) value in
                omega arith
            | inr off ↦
                let value : class_of new' u ≡ class_of into u = get_or-set_other into x u p u off in
                let old = e.rising u (omega arith) (λ s. moved (value ∙ s)) in
                let not_p : u ≢ p = λ s. moved (value ∙ ap (class_of into) s ∙ p_left ∙ sym s) in
                let a = raised_off h x p u not_p in
                let b = above (class_of into u) in
                let c = ap (raised h x p) value in
                omega arith
          ];
      low = λ u below.
          elim (cases_eq u p) [
            | inl same ↦
                let a = ap (raised h x p) same in
                let b = e.low x lt in
                let c = e.low p p_lt in
                omega arith
            | inr off ↦
                let a = raised_off h x p u off in
                let b = e.low u (omega arith) in
                omega arith
          ];
    }

-- names are their own names
pub ends_named : (class : List ℕ) → ((u : ℕ) → class_of class (class_of class u) ≡ class_of class u) → DoEnd class
ends_named class idem =
    let n = length class in
    let left = length (names class) in
    let h : ℕ → ℕ = λ u. cond (eqb (class_of class u) u) (n - left) 0 in
    let at : (u : ℕ) → class_of class u ≡ u → h u ≡ n - left = λ u is. ap (λ b. cond b (n - left) 0) (eq-eqb (class_of class u) u is) in
    let off : (u : ℕ) → class_of class u ≢ u → h u ≡ 0 = λ u ne. ap (λ b. cond b (n - left) 0) (ne_eqb (class_of class u) u ne) in
    let size = length-range_with_len 0 n in
    let most = filter_at_most (λ a. eqb (class_of class a) a) (range_with_len 0 n) in
    record {
      height = h;
      rising = λ u below moved.
          let a = off u moved in
          let b = at (class_of class u) (idem u) in
          let fewer = fewer_kept (λ _. true) (λ a. eqb (class_of class a) a) (range_with_len 0 n) u (λ _ _. refl) refl (ne_eqb (class_of class u) u moved) (range_contains n u below) in
          let all = ap length (sym (filter_all (λ _. true) (λ _. refl) (range_with_len 0 n))) in
          omega arith;
      low = λ u below.
          elim (cases_eq (class_of class u) u) [
            | inl is ↦ let a = at u is in omega arith
            | inr ne ↦ let a = off u ne in omega arith
          ];
    }

pub pointers_merged : {g : Digraph} {into : List ℕ} {old new : List Bool} {x p : ℕ} {numbers : List ℕ} → IsDigraph g → (h : ArePointers g into old) → x ≢ 0 → x < length into → class_of into x ≡ x → ((i : ℕ) → Contains numbers i ↔ ((i < length g.edges) × ((edge_at g.edges i).1 ≡ x))) → class_of into p ≡ p → IsScanned g.edges h.class numbers p x new → KeepsMarks g.edges x old new → ArePointers g (set into x p) new
pointers_merged {g} {into} {old} {new} {x} {p} {numbers} wf h inner lt left all p_left s kept =
    let c = h.class in
    let d : ℕ → ℕ = λ u. renamed x p (c u) in
    let m = h.merged in
    let named : c x ≡ x = h.followed.named x lt left in
    let can = scanned_merge m inner named all s in
    let n : AreMerged g d = merged {c = c} {d = d} x p m can (λ u. refl) in
    let p_name : c p ≡ p = name_of_source (idempotent m) can in
    let p_below : p < g.nodes =
    let P : ℕ → Type 0 = λ z. z < g.nodes in subst P can.leaves (names_within wf m can.source (ends_within wf can.source can.target can.edge).0) in
    let long = h.long in
    record {
      class = d;
      merged = n;
      followed = record {
        same = λ u below.
            let short : u < length into = omega (arith, length-set into x p) in
            elim (cases_eq u x) [
              | inl same ↦
                  let value : class_of (set into x p) u ≡ p = ap (λ (z : ℕ). get_or (set into x p) z z) same ∙ get_or-set_same into x p x lt in
                  ap d value ∙ ap (renamed x p) p_name ∙ renamed_other x p p (λ e. can.other (sym e)) ∙ sym (ap d same ∙ renamed_same x p (c x) named)
              | inr other ↦
                  let value : class_of (set into x p) u ≡ class_of into u = get_or-set_other into x u p u other in
                  ap d value ∙ ap (renamed x p) (h.followed.same u short)
            ];
        named = λ u below at_u.
            let short : u < length into = omega (arith, length-set into x p) in
            elim (cases_eq u x) [
              | inl same ↦
                  let value : class_of (set into x p) u ≡ p = ap (λ (z : ℕ). get_or (set into x p) z z) same ∙ get_or-set_same into x p x lt in
                  absurd (can.other (sym same ∙ sym at_u ∙ value))
              | inr other ↦
                  let value : class_of (set into x p) u ≡ class_of into u = get_or-set_other into x u p u other in
                  let stays : c u ≡ u = h.followed.named u short (sym value ∙ at_u) in
                  ap (renamed x p) stays ∙ renamed_other x p u other
            ];
      };
      beyond = λ u past.
          let far : length into ≤ u = omega (arith, length-set into x p) in
          let other : u ≢ x = λ e. let bad : ⊥ = omega arith in bad in
          ap (renamed x p) (h.beyond u far) ∙ renamed_other x p u other;
      long = length-set into x p ∙ long;
      within = All-set (λ a. a < g.nodes) into x p p_below h.within;
      marked = marked_by {c = c} {d = d} m can (λ u. refl) p_below h.marked (record {
        long = kept.long;
        to_x = λ i below to. s.marked i ((all i).1 (below, to));
        others = kept.others;
      });
      ends = ends_merged into x p lt (omega arith) left p_left (λ e. can.other (sym e)) h.ends;
    }

-- other marks of the edges to a node that is left change nothing
pub pointers_remarked : {g : Digraph} {into : List ℕ} {old new : List Bool} {x : ℕ} → (h : ArePointers g into old) → x < length into → class_of into x ≡ x → KeepsMarks g.edges x old new → ArePointers g into new
pointers_remarked {g} {into} {old} {new} {x} h lt left kept =
    let named = h.followed.named x lt left in
    let back = h.marked in
    record {
      class = h.class;
      merged = h.merged;
      followed = h.followed;
      beyond = h.beyond;
      long = h.long;
      within = h.within;
      marked = record {
        long = kept.long ∙ back.long;
        each = λ reached i below moved.
            let v = (edge_at g.edges i).1 in
            elim (cases_eq v x) [
              | inl to ↦ absurd (moved (ap h.class to ∙ named ∙ sym to))
              | inr off ↦
                  let told = back.each reached i below moved in
                  (λ t. told.0 (sym (kept.others i off) ∙ t), λ b. kept.others i off ∙ told.1 b)
            ];
      };
      ends = h.ends;
    }

same_merges : {g : Digraph} {c d : ℕ → ℕ} → ((u : ℕ) → d u ≡ c u) → AreMerged g c → AreMerged g d
same_merges {g} {c} {d} e (apart is) = apart {c = d} (λ u. e u ∙ is u)
same_merges {g} e (merged {c} {d} x p m can is) = merged x p m can (λ u. e u ∙ is u)

names_are : {g : Digraph} {into class : List ℕ} {back : List Bool} → (h : ArePointers g into back) → AreNames into class → (u : ℕ) → class_of class u ≡ h.class u
names_are {g} {into} {class} {back} h n u =
    let long = n.long in
    elim (cases_lt u (length into)) [
      | inl below ↦ sym (n.each u below h.class h.followed)
      | inr past ↦ get_or_past class u u (omega arith) ∙ sym (h.beyond u past)
    ]

-- the names are the classes
pub named_classes : {g : Digraph} {into class : List ℕ} {back : List Bool} → ArePointers g into back → AreNames into class → IsClassList g class × AreBackEdgesMarked g class back
named_classes {g} {into} {class} {back} h n =
    let is = names_are h n in
    let long = n.long in
    let b = h.marked in (
      record {
        long = long ∙ h.long;
        within = let P : ℕ → Type 0 = λ k. All (λ a. a < k) class in subst P h.long n.within;
        merged = same_merges {c = h.class} {d = class_of class} is h.merged;
      },
      record {
        long = b.long;
        each = λ reached i below moved. b.each reached i below (λ e. moved (is (edge_at g.edges i).1 ∙ e));
      },
    )

-- marks by what the pointers stand for are marks by the classes, where these are the pointers
pub kept_marks : {g : Digraph} {class : List ℕ} {back : List Bool} → IsClassList g class → ArePointers g class back → AreBackEdgesMarked g class back
kept_marks {g} {class} {back} k h =
    let idem = idempotent k.merged in
    let b = h.marked in
    let is : (u : ℕ) → h.class u ≡ class_of class u =
    λ u.
    elim (cases_lt u (length class)) [
      | inl below ↦
          let inside : class_of class u < length class =
          let P : ℕ → Type 0 = λ n. class_of class u < n in
          subst P (sym k.long) (All-get_or (λ a. a < g.nodes) class u u below k.within) in
          sym (h.followed.same u below) ∙ h.followed.named (class_of class u) inside (idem u)
      | inr past ↦ h.beyond u past ∙ sym (get_or_past class u u past)
    ] in
    record { long = b.long; each = λ reached i below moved. b.each reached i below (λ e. moved (sym (is (edge_at g.edges i).1) ∙ e)) }

-- classes are pointers
pub class_pointers : {g : Digraph} {class : List ℕ} {back : List Bool} → IsClassList g class → AreBackEdgesMarked g class back → ArePointers g class back
class_pointers {g} {class} {back} h marks =
    let idem = idempotent h.merged in
    record {
      class = class_of class;
      merged = h.merged;
      followed = record { same = λ u below. idem u; named = λ u below at. at };
      beyond = λ u past. get_or_past class u u past;
      long = h.long;
      within = h.within;
      marked = marks;
      ends = ends_named class idem;
    }

-- as many nodes are left by name as by pointers
pub as_many_left : (into class : List ℕ) → AreNames into class → length (names class) ≤ length (names into)
as_many_left into class n =
    let P : ℕ → Type 0 = λ k. length (filter (λ a. eqb (class_of class a) a) (range_with_len 0 k)) ≤ length (names into) in
    subst P (sym n.long) (less_within (λ a. eqb (class_of into a) a) (λ a. eqb (class_of class a) a) (range_with_len 0 (length into)) (λ a has yes'.
    let at : class_of class a ≡ a = eqb-true (class_of class a) a yes' in
    eq-eqb (class_of into a) a (ap (class_of into) (sym at) ∙ n.left a (from_range (length into) a has) ∙ at)))

-- where no node can be merged, in an order that has all, the reduction has ended
pub none_left : {g : Digraph} {class order : List ℕ} → IsDigraph g → IsClassList g class → AreAllNodes g.nodes order → ((x : ℕ) → Contains order x → CannotMerge g class x) → NoneCanMerge g (class_of class)
none_left {g} {class} {order} wf h all none x p can =
    let idem = idempotent h.merged in
    let below = (target_below wf h can).1 in
    none x (all.each x below) (name_of_target idem can) (class_of class) h.merged (record { same = λ u lt. idem u; named = λ u lt at. at }) p can

pub numbered_within : (g : Digraph) (numbered : List (ℕ × ℕ)) → IsDigraph g → AreNumbered g.edges numbered → All (λ (e : ℕ × ℕ). e.1 < g.nodes) numbered
numbered_within g numbered wf h = All-from_get_or (λ (e : ℕ × ℕ). e.1 < g.nodes) numbered (0, 0) (λ k lt.
    let e = get_or numbered k (0, 0) in
    let r = (h e.0 e.1).0 (Contains-get_or numbered k (0, 0) lt) in
    let d = edge_at g.edges e.0 in
    let P : ℕ → Type 0 = λ z. z < g.nodes in
    subst P r.1 (ends_within wf d.0 d.1 (Contains-get_or g.edges e.0 (0, 0) r.0)).1)

pub incoming_of : (g : Digraph) (numbered : List (ℕ × ℕ)) (numbers : List (List ℕ)) → AreSources numbered g.nodes numbers → AreNumbered g.edges numbered → AreIncoming g numbers
incoming_of g numbered numbers h n = record {
  long = h.long;
  each = λ x i lt.
      let is = h.each x lt in
      let P : List ℕ → Type 0 = λ ls. Contains ls i in
      (λ has. (n i x).0 (from_sources numbered i x (subst P is has)), λ r. subst P (sym is) (sources_has numbered i x ((n i x).1 r)));
}

single_is : (n u : ℕ) → class_of (range_with_len 0 n) u ≡ u
single_is n u =
    elim (cases_lt u n) [
      | inl below ↦ get_or-range_with_len 0 n u u below ∙ (let e : 0 + u ≡ u = omega arith in e)
      | inr above ↦ get_or_past (range_with_len 0 n) u u (omega (arith, length-range_with_len 0 n))
    ]

pub unmerged_marked : (g : Digraph) (class : List ℕ) (back : List Bool) → class ≡ range_with_len 0 g.nodes → length back ≡ length g.edges → AreBackEdgesMarked g class back
unmerged_marked g class back alone long = record {
  long = long;
  each = λ reached i below moved.
      let v = (edge_at g.edges i).1 in
      absurd (moved (ap (λ (ls : List ℕ). class_of ls v) alone ∙ single_is g.nodes v));
}
