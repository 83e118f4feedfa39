-- Lists that have the node into which each node is merged.
use Rattle.std.proofs.Common.{◌≡◌, ℕ, zero, suc, ◌+◌, ◌<◌, Bool, cond, List, [], ◌∷◌, ◌++◌, filter, sym, ap, ◌∙◌, subst, inl, inr, arith}
use Rattle.std.specs.List.{range_with_len}
use Rattle.std.proofs.lemmas.Bool.{cases_lt, cases_Bool}
use Rattle.std.proofs.lemmas.List.{get_or_past}
use Rattle.std.proofs.lemmas.List.Elements.{All-get_or, All-contains, All-from_get_or}
use Rattle.std.proofs.lemmas.List.FromFn.{length-range_with_len, get_or-range_with_len}
use Rattle.loop_nest.specs.Digraph.{Digraph, IsDigraph}
use Rattle.loop_nest.specs.Classes.{CanMergeClass}
use Rattle.loop_nest.specs.Classes.AreMerged.{apart}
use Rattle.loop_nest.specs.Entered.{class_of, IsClassList}
use Rattle.loop_nest.proofs.Elements.{kept_at, dropped_at}

pub single_class_list : (g : Digraph) → IsClassList g (range_with_len 0 g.nodes)
single_class_list g =
    let n = g.nodes in
    let ns = range_with_len 0 n in
    let long = length-range_with_len 0 n in
    record {
      long = long;
      within = All-from_get_or (λ a. a < n) ns 0 (λ i lt. let short : i < n = omega arith in omega (arith, get_or-range_with_len 0 n i 0 short));
      merged = apart (λ u.
          elim (cases_lt u n) [
            | inl below ↦ get_or-range_with_len 0 n u u below ∙ (let e : 0 + u ≡ u = omega arith in e)
            | inr above ↦ get_or_past ns u u (omega arith)
          ]);
    }

pub target_below : {g : Digraph} {class : List ℕ} {x p : ℕ} → IsDigraph g → IsClassList g class → CanMergeClass g (class_of class) p x → (p < g.nodes) × (x < g.nodes)
target_below {g} {class} {x} {p} wf h can =
    let long = h.long in
    let ends = All-contains (λ (e : ℕ × ℕ). (e.0 < g.nodes) × (e.1 < g.nodes)) g.edges (can.source, can.target) wf.edges.ends can.edge in
    let P : ℕ → Type 0 = λ y. y < g.nodes in
    let at : (u : ℕ) → u < g.nodes → class_of class u < g.nodes = λ u lt. All-get_or P class u u (omega arith) h.within in
    (subst P can.leaves (at can.source ends.0), subst P can.enters (at can.target ends.1))

pub filter_range_more : (p : ℕ → Bool) (a n : ℕ) → filter p (range_with_len a (suc n)) ≡ filter p (range_with_len a n) ++ cond (p (a + n)) ((a + n) ∷ []) []
filter_range_more p a zero = ap (λ (k : ℕ). cond (p k) (k ∷ []) []) (let e : a ≡ a + 0 = omega arith in e)
filter_range_more p a (suc n) =
    let m = a + 1 in
    let last : m + n ≡ a + suc n = omega arith in
    let more = filter_range_more p m n ∙ ap (λ (k : ℕ). filter p (range_with_len m n) ++ cond (p k) (k ∷ []) []) last in
    elim (cases_Bool (p a)) [
      | inl yes' ↦
          kept_at p a (range_with_len m (suc n)) yes' ∙ ap (λ ks. a ∷ ks) more
          ∙ ap (λ ks. ks ++ cond (p (a + suc n)) ((a + suc n) ∷ []) []) (sym (kept_at p a (range_with_len m n) yes'))
      | inr no' ↦
          dropped_at p a (range_with_len m (suc n)) no' ∙ more
          ∙ ap (λ ks. ks ++ cond (p (a + suc n)) ((a + suc n) ∷ []) []) (sym (dropped_at p a (range_with_len m n) no'))
    ]

pub range_more : (a n : ℕ) → range_with_len a (suc n) ≡ range_with_len a n ++ (a + n) ∷ []
range_more a zero = ap (λ (k : ℕ). k ∷ []) (let e : a ≡ a + 0 = omega arith in e)
range_more a (suc n) =
    ap (λ ks. a ∷ ks) (range_more (a + 1) n ∙ ap (λ (k : ℕ). range_with_len (a + 1) n ++ k ∷ []) (let e : (a + 1) + n ≡ a + suc n = omega arith in e))
