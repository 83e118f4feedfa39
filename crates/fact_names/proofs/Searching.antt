-- The search for the nodes that are led to, step by step.
use Rattle.std.proofs.Common.{◌≡◌, ℕ, zero, suc, ◌+◌, ◌*◌, ◌<◌, ◌≤◌, ◌⊎◌, Bool, true, false, not, List, [], ◌∷◌, ◌++◌, length, get_or, set, replicate, filter, All, Contains, refl, sym, ap, ◌∙◌, subst, inl, inr, arith}
use Rattle.std.proofs.lemmas.Bool.{both_ways, cases_eq}
use Rattle.std.proofs.lemmas.List.{length-append, length-set, length-replicate, get_or-set_same, get_or-set_other}
use Rattle.std.proofs.lemmas.List.Elements.{All-contains, All-append, All-from_get_or, Contains-append_left, Contains-append_right, Contains-push, Contains-push_cases, Contains-append_cases, Contains-get_or}
use Rattle.lists.specs.Members.{nil_contains, at_head, cons_cases}
use Rattle.loop_nest.proofs.Searching.{fewer-set, fewer_left, shorter, same_everywhere}
use Rattle.fact_names.specs.Reach.{LeadTo, AreLedTo, AreWithin, IsSearch, flag_at, list_at}
use Rattle.fact_names.specs.Reach.LeadTo.{first, along}

-- ---- flags

-- how many nodes are not flagged
pub unflagged : List Bool → ℕ
unflagged flags = length (filter not flags)

pub unflagged-set : (x : ℕ) (flags : List Bool) → x < length flags → flag_at flags x ≡ false → unflagged (set flags x true) < unflagged flags
unfolding unflagged
unflagged-set x flags lt fresh = fewer-set not flags x true false lt (ap not fresh) refl

flagged_at : (x : ℕ) (flags : List Bool) → x < length flags → flag_at (set flags x true) x ≡ true
flagged_at x flags lt = get_or-set_same flags x true false lt

flagged_still : (x y : ℕ) (flags : List Bool) → x < length flags → flag_at flags y ≡ true → flag_at (set flags x true) y ≡ true
flagged_still x y flags lt at =
    elim (cases_eq y x) [
      | inl same ↦ ap (λ (z : ℕ). flag_at (set flags x true) z) same ∙ flagged_at x flags lt
      | inr other ↦ get_or-set_other flags x y true false other ∙ at
    ]

flagged_cases : (x y : ℕ) (flags : List Bool) → flag_at (set flags x true) y ≡ true → (y ≡ x) ⊎ (flag_at flags y ≡ true)
flagged_cases x y flags at =
    elim (cases_eq y x) [
      | inl same ↦ inl same
      | inr other ↦ inr (sym (get_or-set_other flags x y true false other) ∙ at)
    ]

-- ---- lists

-- how many items all lists have
pub total : List (List ℕ) → ℕ
total [] = 0
total (us ∷ lists) = length us + total lists

pub few : (lists : List (List ℕ)) (v : ℕ) → length (list_at lists v) ≤ total lists
unfolding total
few [] v = let e : length (list_at [] v) ≡ 0 = refl in omega arith
few (us ∷ lists) zero = omega arith
few (us ∷ lists) (suc v) = let h = few lists v in omega arith

pub listed_within : (lists : List (List ℕ)) (u v : ℕ) → u < length lists → AreWithin lists → Contains (list_at lists u) v → v < length lists
listed_within lists u v lt within has =
    let us = All-contains (λ (us : List ℕ). All (λ x. x < length lists) us) lists (list_at lists u) within (Contains-get_or lists u [] lt) in
    All-contains (λ (x : ℕ). x < length lists) (list_at lists u) v us has

-- ---- the search

module _ (lists : List (List ℕ)) (barred : List Bool) (start : ℕ) where
  pub search_start : (stack : List ℕ) (flags : List Bool) → start < length lists → stack ≡ start ∷ [] → flags ≡ replicate (length lists) false → IsSearch lists barred start stack flags
  search_start stack flags below one none =
      let P : List Bool → Type 0 = λ fs. IsSearch lists barred start stack fs in
      let Q : List ℕ → Type 0 = λ us. IsSearch lists barred start us (replicate (length lists) false) in
      let fresh : (x : ℕ) → flag_at (replicate (length lists) false) x ≡ true → ⊥ = λ x at. both_ways (flag_at (replicate (length lists) false) x) (same_everywhere (length lists) x false) at in
      subst P (sym none) (subst Q (sym one) (record {
        long = length-replicate (length lists) false;
        stack_within = All-from_get_or (λ x. x < length lists) (start ∷ []) 0 (λ i lt. one_below (length lists) start below i lt);
        found = λ x at. absurd (fresh x at);
        waiting = λ x has ok. elim (cons_cases start x [] has) [ inl same ↦ moved x same ok | inr there ↦ absurd (nil_contains x there) ];
        entry = λ ok. inr (at_head start []);
        closed = λ u v at e ok. absurd (fresh u at);
      }))
    where
      one_below : (n start : ℕ) → start < n → (i : ℕ) → i < 1 → get_or (start ∷ []) i 0 < n
      one_below n start some zero lt = some
      one_below n start some (suc i) lt = absurd (omega arith)

      moved : (x : ℕ) → start ≡ x → flag_at barred x ≡ false → LeadTo lists barred start x
      moved x same ok = let R : ℕ → Type 0 = λ z. flag_at barred z ≡ false in let T : ℕ → Type 0 = λ z. LeadTo lists barred start z in subst T same (first (subst R (sym same) ok))

  pub search_skips : (flags : List Bool) (left : List ℕ) (x : ℕ) → IsSearch lists barred start (left ++ x ∷ []) flags → (flag_at barred x ≡ false → flag_at flags x ≡ true) → IsSearch lists barred start left flags
  search_skips flags left x s at =
      let settle : (y : ℕ) → flag_at barred y ≡ false → (flag_at flags y ≡ true) ⊎ Contains (left ++ x ∷ []) y → (flag_at flags y ≡ true) ⊎ Contains left y =
      λ y ok o.
      elim o [
        | inl m ↦ inl m
        | inr w ↦ elim (Contains-push_cases left x y w) [ inl old ↦ inr old | inr same ↦ inl (flagged y ok same) ]
      ] in
      record {
        long = s.long;
        stack_within = shorter (length lists) x left s.stack_within;
        found = s.found;
        waiting = λ y has. s.waiting y (Contains-append_left left (x ∷ []) y has);
        entry = λ ok. settle start ok (s.entry ok);
        closed = λ u v m e ok. settle v ok (s.closed u v m e ok);
      }
    where
      flagged : (y : ℕ) → flag_at barred y ≡ false → x ≡ y → flag_at flags y ≡ true
      flagged y ok same = let P : ℕ → Type 0 = λ z. flag_at barred z ≡ false → flag_at flags z ≡ true in subst P same at ok

  pub search_takes : (flags : List Bool) (left : List ℕ) (x : ℕ) (stack : List ℕ) → AreWithin lists → IsSearch lists barred start (left ++ x ∷ []) flags → flag_at barred x ≡ false → stack ≡ left ++ list_at lists x → IsSearch lists barred start stack (set flags x true)
  search_takes flags left x stack within s fine is =
      let long = s.long in
      let next = list_at lists x in
      let R : List ℕ → Type 0 = λ us. IsSearch lists barred start us (set flags x true) in
      let new' = set flags x true in
      let small : x < length lists = All-contains (λ (y : ℕ). y < length lists) (left ++ x ∷ []) x s.stack_within (Contains-push left x) in
      let inside : x < length flags = omega arith in
      let reached : LeadTo lists barred start x = s.waiting x (Contains-push left x) fine in
      let settle : (y : ℕ) → (flag_at flags y ≡ true) ⊎ Contains (left ++ x ∷ []) y → (flag_at new' y ≡ true) ⊎ Contains (left ++ next) y =
      λ y o.
      elim o [
        | inl m ↦ inl (flagged_still x y flags inside m)
        | inr w ↦
            elim (Contains-push_cases left x y w) [
              | inl old ↦ inr (Contains-append_left left next y old)
              | inr same ↦ let P : ℕ → Type 0 = λ z. flag_at new' z ≡ true in inl (subst P same (flagged_at x flags inside))
            ]
      ] in
      subst R (sym is) (record {
        long = length-set flags x true ∙ long;
        stack_within = All-append (λ y. y < length lists) left next (shorter (length lists) x left s.stack_within) (All-from_get_or (λ y. y < length lists) next 0 (λ i lt.
            listed_within lists x (get_or next i 0) small within (Contains-get_or next i 0 lt)));
        found = λ y at.
            elim (flagged_cases x y flags at) [
              | inl same ↦ subst (LeadTo lists barred start) (sym same) reached
              | inr old ↦ s.found y old
            ];
        waiting = λ y has ok.
            elim (Contains-append_cases left next y has) [
              | inl old ↦ s.waiting y (Contains-append_left left (x ∷ []) y old) ok
              | inr later ↦ along reached later ok
            ];
        entry = λ ok. settle start (s.entry ok);
        closed = λ u v at e ok.
            elim (flagged_cases x u flags at) [
              | inl same ↦
                  let P : ℕ → Type 0 = λ z. Contains (list_at lists z) v in
                  inr (Contains-append_right left next v (subst P same e))
              | inr old ↦ settle v (s.closed u v old e ok)
            ];
      })

  all_found : {flags : List Bool} → IsSearch lists barred start [] flags → {x : ℕ} → LeadTo lists barred start x → flag_at flags x ≡ true
  all_found s (first ok) = elim (s.entry ok) [ inl m ↦ m | inr w ↦ absurd (nil_contains start w) ]
  all_found s (along {u} {v} r e ok) = elim (s.closed u v (all_found s r) e ok) [ inl m ↦ m | inr w ↦ absurd (nil_contains v w) ]

  pub search_ends : (flags : List Bool) → IsSearch lists barred start [] flags → AreLedTo lists barred start flags
  search_ends flags s = record { long = s.long; each = λ x. (s.found x, λ r. all_found s r) }

-- ---- it ends

pub stacked_within : (n x : ℕ) (stack left : List ℕ) → stack ≡ left ++ x ∷ [] → All (λ y. y < n) stack → x < n
stacked_within n x stack left is all = let P : List ℕ → Type 0 = λ ls. Contains ls x in All-contains (λ y. y < n) stack x all (subst P (sym is) (Contains-push left x))

pub smaller : (lists : List (List ℕ)) (x : ℕ) (flags : List Bool) (stack left new : List ℕ) → x < length flags → flag_at flags x ≡ false → stack ≡ left ++ x ∷ [] → new ≡ left ++ list_at lists x → unflagged (set flags x true) * suc (total lists) + length new < unflagged flags * suc (total lists) + length stack
smaller lists x flags stack left new lt fresh is more =
    let a = ap length is in
    let b = ap length more in
    let l = length-append left (x ∷ []) in
    let k = length-append left (list_at lists x) in
    let e : length stack ≡ suc (length left) = omega arith in
    let f : length new ≡ length left + length (list_at lists x) = omega arith in
    rw (e, f) (fewer_left (unflagged (set flags x true)) (unflagged flags) (total lists) (length left) (length (list_at lists x)) (unflagged-set x flags lt fresh) (few lists x))
