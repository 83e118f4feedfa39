-- The search for the nodes that are reached, step by step.
use Rattle.std.proofs.Common.{◌≡◌, ℕ, zero, suc, ◌+◌, ◌*◌, ◌<◌, ◌⊎◌, Bool, true, false, not, List, [], ◌∷◌, ◌++◌, length, get_or, set, replicate, filter, All, Contains, refl, sym, ap, ◌∙◌, subst, inl, inr, arith}
use Rattle.std.proofs.lemmas.Bool.{both_ways}
use Rattle.std.proofs.lemmas.List.{length-append, length-set, length-replicate}
use Rattle.std.proofs.lemmas.List.Elements.{All-contains, All-append, All-from_get_or, Contains-append_left, Contains-append_right, Contains-push, Contains-push_cases, Contains-append_cases, Contains-get_or}
use Rattle.lists.specs.Members.{nil_contains, at_head, cons_cases}
use Rattle.loop_nest.specs.Digraph.{Digraph, Edge, IsDigraph}
use Rattle.loop_nest.proofs.Searching.{fewer-set, fewer_left, shorter}
use Rattle.flow_graph.specs.Reach.{ArePushed}
use Rattle.loop_marks.specs.Reach.{Reaches, AreReached, IsSearch, flag_at}
use Rattle.loop_marks.specs.Reach.Reaches.{first, along}
use Rattle.loop_marks.proofs.Flagging.{flag_within, none_flagged, flagged_at, flagged_still, flagged_cases}

-- ---- flags

-- how many nodes are not flagged
pub unflagged : List Bool → ℕ
unflagged flags = length (filter not flags)

pub unflagged-set : (x : ℕ) (flags : List Bool) → x < length flags → flag_at flags x ≡ false → unflagged (set flags x true) < unflagged flags
unfolding unflagged
unflagged-set x flags lt fresh = fewer-set not flags x true false lt (ap not fresh) refl

-- ---- the search

target_within : (g : Digraph) (u v : ℕ) → IsDigraph g → Edge g u v → v < g.nodes
target_within g u v wf has = (All-contains (λ (e : ℕ × ℕ). (e.0 < g.nodes) × (e.1 < g.nodes)) g.edges (u, v) wf.edges.ends has).1

pub search_start : (g : Digraph) (allowed : List Bool) (start : ℕ) (stack : List ℕ) (flags : List Bool) → start < g.nodes → stack ≡ start ∷ [] → flags ≡ replicate (length allowed) false → IsSearch g allowed start stack flags
search_start g allowed start stack flags below one none =
    let P : List Bool → Type 0 = λ fs. IsSearch g allowed start stack fs in
    let Q : List ℕ → Type 0 = λ us. IsSearch g allowed start us (replicate (length allowed) false) in
    let fresh : (x : ℕ) → flag_at (replicate (length allowed) false) x ≡ true → ⊥ = λ x at. both_ways (flag_at (replicate (length allowed) false) x) (none_flagged (length allowed) x) at in
    subst P (sym none) (subst Q (sym one) (record {
      long = length-replicate (length allowed) false;
      stack_within = All-from_get_or (λ x. x < g.nodes) (start ∷ []) 0 (λ i lt. one_below g.nodes start below i lt);
      found = λ x at. absurd (fresh x at);
      waiting = λ x has ok. elim (cons_cases start x [] has) [ inl same ↦ moved start x same ok | inr there ↦ absurd (nil_contains x there) ];
      entry = λ ok. inr (at_head start []);
      closed = λ u v at e ok. absurd (fresh u at);
    }))
  where
    one_below : (n start : ℕ) → start < n → (i : ℕ) → i < 1 → get_or (start ∷ []) i 0 < n
    one_below n start some zero lt = some
    one_below n start some (suc i) lt = absurd (omega arith)

    moved : (a x : ℕ) → a ≡ x → flag_at allowed x ≡ true → Reaches g allowed a x
    moved a x same ok = let R : ℕ → Type 0 = λ z. Reaches g allowed z x in subst R (sym same) (first ok)

pub search_skips : (g : Digraph) (allowed : List Bool) (start : ℕ) (flags : List Bool) (left : List ℕ) (x : ℕ) → IsSearch g allowed start (left ++ x ∷ []) flags → (flag_at allowed x ≡ true → flag_at flags x ≡ true) → IsSearch g allowed start left flags
search_skips g allowed start flags left x s at =
    let settle : (y : ℕ) → flag_at allowed y ≡ true → (flag_at flags y ≡ true) ⊎ Contains (left ++ x ∷ []) y → (flag_at flags y ≡ true) ⊎ Contains left y =
    λ y ok o.
    elim o [
      | inl m ↦ inl m
      | inr w ↦ elim (Contains-push_cases left x y w) [ inl old ↦ inr old | inr same ↦ inl (flagged y ok same) ]
    ] in
    record {
      long = s.long;
      stack_within = shorter g.nodes x left s.stack_within;
      found = s.found;
      waiting = λ y has. s.waiting y (Contains-append_left left (x ∷ []) y has);
      entry = λ ok. settle start ok (s.entry ok);
      closed = λ u v m e ok. settle v ok (s.closed u v m e ok);
    }
  where
    flagged : (y : ℕ) → flag_at allowed y ≡ true → x ≡ y → flag_at flags y ≡ true
    flagged y ok same = let P : ℕ → Type 0 = λ z. flag_at allowed z ≡ true → flag_at flags z ≡ true in subst P same at ok

pub search_takes : (g : Digraph) (allowed : List Bool) (start : ℕ) (flags : List Bool) (left : List ℕ) (x : ℕ) (stack : List ℕ) → IsDigraph g → IsSearch g allowed start (left ++ x ∷ []) flags → flag_at allowed x ≡ true → ArePushed g.edges x left stack → IsSearch g allowed start stack (set flags x true)
search_takes g allowed start flags left x stack wf s fine p =
    let long = s.long in
    let next = p.next in
    let R : List ℕ → Type 0 = λ us. IsSearch g allowed start us (set flags x true) in
    let new' = set flags x true in
    let small = flag_within allowed x fine in
    let inside : x < length flags = omega arith in
    let reached : Reaches g allowed start x = s.waiting x (Contains-push left x) fine in
    let settle : (y : ℕ) → (flag_at flags y ≡ true) ⊎ Contains (left ++ x ∷ []) y → (flag_at new' y ≡ true) ⊎ Contains (left ++ next) y =
    λ y o.
    elim o [
      | inl m ↦ inl (flagged_still x y flags inside m)
      | inr w ↦
          elim (Contains-push_cases left x y w) [
            | inl old ↦ inr (Contains-append_left left next y old)
            | inr same ↦ let P : ℕ → Type 0 = λ z. flag_at new' z ≡ true in inl (subst P same (flagged_at x flags inside))
          ]
    ] in
    subst R (sym p.is) (record {
      long = length-set flags x true ∙ long;
      stack_within = All-append (λ y. y < g.nodes) left next (shorter g.nodes x left s.stack_within) (All-from_get_or (λ y. y < g.nodes) next 0 (λ i lt.
          target_within g x (get_or next i 0) wf ((p.each (get_or next i 0)).0 (Contains-get_or next i 0 lt))));
      found = λ y at.
          elim (flagged_cases x y flags at) [
            | inl same ↦ subst (Reaches g allowed start) (sym same) reached
            | inr old ↦ s.found y old
          ];
      waiting = λ y has ok.
          elim (Contains-append_cases left next y has) [
            | inl old ↦ s.waiting y (Contains-append_left left (x ∷ []) y old) ok
            | inr later ↦ along reached ((p.each y).0 later) ok
          ];
      entry = λ ok. settle start (s.entry ok);
      closed = λ u v at e ok.
          elim (flagged_cases x u flags at) [
            | inl same ↦
                let P : ℕ → Type 0 = λ z. Contains g.edges (z, v) in
                inr (Contains-append_right left next v ((p.each v).1 (subst P same e)))
            | inr old ↦ settle v (s.closed u v old e ok)
          ];
    })

all_found : {g : Digraph} {allowed : List Bool} {start : ℕ} {flags : List Bool} → IsSearch g allowed start [] flags → {x : ℕ} → Reaches g allowed start x → flag_at flags x ≡ true
all_found {start = start} s (first ok) = elim (s.entry ok) [ inl m ↦ m | inr w ↦ absurd (nil_contains start w) ]
all_found s (along {u} {v} r e ok) = elim (s.closed u v (all_found s r) e ok) [ inl m ↦ m | inr w ↦ absurd (nil_contains v w) ]

pub search_ends : (g : Digraph) (allowed : List Bool) (start : ℕ) (flags : List Bool) → IsSearch g allowed start [] flags → AreReached g allowed start flags
search_ends g allowed start flags s = λ x. (s.found x, λ r. all_found s r)

-- ---- it ends

pub stacked_within : (n x : ℕ) (stack left : List ℕ) → stack ≡ left ++ x ∷ [] → All (λ y. y < n) stack → x < n
stacked_within n x stack left is all = let P : List ℕ → Type 0 = λ ls. Contains ls x in All-contains (λ y. y < n) stack x all (subst P (sym is) (Contains-push left x))

pub smaller : (es : List (ℕ × ℕ)) (x : ℕ) (flags : List Bool) (stack left new : List ℕ) → x < length flags → flag_at flags x ≡ false → stack ≡ left ++ x ∷ [] → ArePushed es x left new → unflagged (set flags x true) * suc (length es) + length new < unflagged flags * suc (length es) + length stack
smaller es x flags stack left new lt fresh is p =
    let a = ap length is in
    let b = ap length p.is in
    let l = length-append left (x ∷ []) in
    let k = length-append left p.next in
    let e : length stack ≡ suc (length left) = omega arith in
    let f : length new ≡ length left + length p.next = omega arith in
    rw (e, f) (fewer_left (unflagged (set flags x true)) (unflagged flags) (length es) (length left) (length p.next) (unflagged-set x flags lt fresh) p.few)
