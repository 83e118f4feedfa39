-- The search for the nodes that are reached, step by step.
use Rattle.std.proofs.Common.{◌≡◌, ℕ, zero, suc, ◌+◌, ◌*◌, ◌<◌, ◌⊎◌, Bool, true, false, not, List, [], ◌∷◌, ◌++◌, length, get_or, set, replicate, filter, All, Contains, refl, sym, ap, ◌∙◌, subst, inl, inr, arith}
use Rattle.std.proofs.lemmas.Bool.{cases_eq, both_ways}
use Rattle.std.proofs.lemmas.List.{length-append, length-set, get_or-set_same, get_or-set_other, length-replicate}
use Rattle.std.proofs.lemmas.List.Elements.{All-contains, All-append, All-from_get_or, Contains-append_left, Contains-append_right, Contains-push, Contains-push_cases, Contains-append_cases, Contains-get_or}
use Rattle.lists.specs.Members.{nil_contains, at_head, cons_cases}
use Rattle.loop_nest.proofs.Searching.{same_everywhere, fewer-set, fewer_left, shorter}
use Rattle.flow_graph.specs.Reach.{Reaches, ArePushed, AreReached, AreWithin, IsSearch, flag_at}
use Rattle.flow_graph.specs.Reach.Reaches.{entry, along}

-- ---- flags

-- how many nodes are not flagged
pub unflagged : List Bool → ℕ
unflagged flags = length (filter not flags)

pub unflagged-set : (x : ℕ) (flags : List Bool) → x < length flags → flag_at flags x ≡ false → unflagged (set flags x true) < unflagged flags
unfolding unflagged
unflagged-set x flags lt fresh = fewer-set not flags x true false lt (ap not fresh) refl

flagged_at : (x : ℕ) (flags : List Bool) → x < length flags → flag_at (set flags x true) x ≡ true
flagged_at x flags lt = get_or-set_same flags x true false lt

flagged_still : (x y : ℕ) (flags : List Bool) → x < length flags → flag_at flags y ≡ true → flag_at (set flags x true) y ≡ true
flagged_still x y flags lt at =
    elim (cases_eq y x) [
      | inl same ↦ ap (λ (z : ℕ). flag_at (set flags x true) z) same ∙ flagged_at x flags lt
      | inr other ↦ get_or-set_other flags x y true false other ∙ at
    ]

flagged_cases : (x y : ℕ) (flags : List Bool) → flag_at (set flags x true) y ≡ true → (y ≡ x) ⊎ (flag_at flags y ≡ true)
flagged_cases x y flags at =
    elim (cases_eq y x) [
      | inl same ↦ inl same
      | inr other ↦ inr (sym (get_or-set_other flags x y true false other) ∙ at)
    ]

-- ---- the search

target_within : (es : List (ℕ × ℕ)) (n u v : ℕ) → AreWithin n es → Contains es (u, v) → v < n
target_within es n u v within has = (All-contains (λ (e : ℕ × ℕ). (e.0 < n) × (e.1 < n)) es (u, v) within has).1

pub search_start : (es : List (ℕ × ℕ)) (n : ℕ) (stack : List ℕ) (flags : List Bool) → 0 < n → stack ≡ 0 ∷ [] → flags ≡ replicate n false → IsSearch es n stack flags
search_start es n stack flags some one none =
    let P : List Bool → Type 0 = λ fs. IsSearch es n stack fs in
    let Q : List ℕ → Type 0 = λ us. IsSearch es n us (replicate n false) in
    let fresh : (x : ℕ) → flag_at (replicate n false) x ≡ true → ⊥ = λ x at. both_ways (flag_at (replicate n false) x) (same_everywhere n x false) at in
    subst P (sym none) (subst Q (sym one) (record {
      long = length-replicate n false;
      stack_within = All-from_get_or (λ x. x < n) (0 ∷ []) 0 (λ i lt. zero_below n some i lt);
      found = λ x at. absurd (fresh x at);
      waiting = λ x has. elim (cons_cases 0 x [] has) [ inl same ↦ subst (Reaches es) same entry | inr there ↦ absurd (nil_contains x there) ];
      entry = inr (at_head 0 []);
      closed = λ u v at e. absurd (fresh u at);
    }))
  where
    zero_below : (n : ℕ) → 0 < n → (i : ℕ) → i < 1 → get_or (0 ∷ []) i 0 < n
    zero_below n some zero lt = some
    zero_below n some (suc i) lt = absurd (omega arith)

pub search_skips : (es : List (ℕ × ℕ)) (n : ℕ) (flags : List Bool) (left : List ℕ) (x : ℕ) → IsSearch es n (left ++ x ∷ []) flags → flag_at flags x ≡ true → IsSearch es n left flags
search_skips es n flags left x s at =
    let P : ℕ → Type 0 = λ y. flag_at flags y ≡ true in
    let settle : (y : ℕ) → (flag_at flags y ≡ true) ⊎ Contains (left ++ x ∷ []) y → (flag_at flags y ≡ true) ⊎ Contains left y =
    λ y o.
    elim o [
      | inl m ↦ inl m
      | inr w ↦ elim (Contains-push_cases left x y w) [ inl old ↦ inr old | inr same ↦ inl (subst P same at) ]
    ] in
    record {
      long = s.long;
      stack_within = shorter n x left s.stack_within;
      found = s.found;
      waiting = λ y has. s.waiting y (Contains-append_left left (x ∷ []) y has);
      entry = settle 0 s.entry;
      closed = λ u v m e. settle v (s.closed u v m e);
    }

pub search_takes : (es : List (ℕ × ℕ)) (n : ℕ) (flags : List Bool) (left : List ℕ) (x : ℕ) (stack : List ℕ) → AreWithin n es → IsSearch es n (left ++ x ∷ []) flags → ArePushed es x left stack → IsSearch es n stack (set flags x true)
search_takes es n flags left x stack within s p =
    let long = s.long in
    let next = p.next in
    let R : List ℕ → Type 0 = λ us. IsSearch es n us (set flags x true) in
    let new' = set flags x true in
    let below : x < n = All-contains (λ y. y < n) (left ++ x ∷ []) x s.stack_within (Contains-push left x) in
    let inside : x < length flags = omega arith in
    let reached : Reaches es x = s.waiting x (Contains-push left x) in
    let settle : (y : ℕ) → (flag_at flags y ≡ true) ⊎ Contains (left ++ x ∷ []) y → (flag_at new' y ≡ true) ⊎ Contains (left ++ next) y =
    λ y o.
    elim o [
      | inl m ↦ inl (flagged_still x y flags inside m)
      | inr w ↦
          elim (Contains-push_cases left x y w) [
            | inl old ↦ inr (Contains-append_left left next y old)
            | inr same ↦ let P : ℕ → Type 0 = λ z. flag_at new' z ≡ true in inl (subst P same (flagged_at x flags inside))
          ]
    ] in
    subst R (sym p.is) (record {
      long = length-set flags x true ∙ long;
      stack_within = All-append (λ y. y < n) left next (shorter n x left s.stack_within) (All-from_get_or (λ y. y < n) next 0 (λ i lt.
          target_within es n x (get_or next i 0) within ((p.each (get_or next i 0)).0 (Contains-get_or next i 0 lt))));
      found = λ y at.
          elim (flagged_cases x y flags at) [
            | inl same ↦ subst (Reaches es) (sym same) reached
            | inr old ↦ s.found y old
          ];
      waiting = λ y has.
          elim (Contains-append_cases left next y has) [
            | inl old ↦ s.waiting y (Contains-append_left left (x ∷ []) y old)
            | inr later ↦ along reached ((p.each y).0 later)
          ];
      entry = settle 0 s.entry;
      closed = λ u v at e.
          elim (flagged_cases x u flags at) [
            | inl same ↦
                let P : ℕ → Type 0 = λ z. Contains es (z, v) in
                inr (Contains-append_right left next v ((p.each v).1 (subst P same e)))
            | inr old ↦ settle v (s.closed u v old e)
          ];
    })

all_found : {es : List (ℕ × ℕ)} {n : ℕ} {flags : List Bool} → IsSearch es n [] flags → {x : ℕ} → Reaches es x → flag_at flags x ≡ true
all_found s entry = elim s.entry [ inl m ↦ m | inr w ↦ absurd (nil_contains 0 w) ]
all_found s (along {u} {v} r e) = elim (s.closed u v (all_found s r) e) [ inl m ↦ m | inr w ↦ absurd (nil_contains v w) ]

pub search_ends : (es : List (ℕ × ℕ)) (n : ℕ) (flags : List Bool) → IsSearch es n [] flags → AreReached es n flags
search_ends es n flags s = record { long = s.long; each = λ x. (s.found x, λ r. all_found s r) }

-- ---- it ends

pub stacked_within : (n x : ℕ) (stack left : List ℕ) → stack ≡ left ++ x ∷ [] → All (λ y. y < n) stack → x < n
stacked_within n x stack left is all = let P : List ℕ → Type 0 = λ ls. Contains ls x in All-contains (λ y. y < n) stack x all (subst P (sym is) (Contains-push left x))

pub smaller : (es : List (ℕ × ℕ)) (x : ℕ) (flags : List Bool) (stack left new : List ℕ) → x < length flags → flag_at flags x ≡ false → stack ≡ left ++ x ∷ [] → ArePushed es x left new → unflagged (set flags x true) * suc (length es) + length new < unflagged flags * suc (length es) + length stack
smaller es x flags stack left new lt fresh is p =
    let a = ap length is in
    let b = ap length p.is in
    let l = length-append left (x ∷ []) in
    let k = length-append left p.next in
    let e : length stack ≡ suc (length left) = omega arith in
    let f : length new ≡ length left + length p.next = omega arith in
    rw (e, f) (fewer_left (unflagged (set flags x true)) (unflagged flags) (length es) (length left) (length p.next) (unflagged-set x flags lt fresh) p.few)
