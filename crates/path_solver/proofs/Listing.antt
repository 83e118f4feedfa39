-- The listed nodes with their potentials, node by node.
use Rattle.std.proofs.Common.{◌≡◌, ◌≢◌, ℕ, ◌+◌, ◌<◌, ℤ, pos, ◌-ℤ◌, Bool, cond, eqb, List, [], ◌∷◌, ◌++◌, length, get_or, Contains, Option, Some, None, sym, ap, ◌∙◌, subst, inl, inr, arith}
use Rattle.std.specs.List.Sorted.{IsStrictlyIncreasing}
use Rattle.std.proofs.lemmas.Bool.{cases_eq, cases_lt, eq-eqb, ne_eqb, cond-true, cond-false}
use Rattle.std.proofs.lemmas.List.{get_or_append_left, get_or_push, length_push, map_push}
use Rattle.std.proofs.lemmas.List.Elements.{Contains-get_or, Contains-push_cases}
use Rattle.section_check.specs.Section.{listed, potential}
use Rattle.path_solver.specs.Reaching.{IsFlagged}

-- what is left of the value at a node
abbrev pub left : ℕ → List ℕ → ℕ → ℤ
left value dist u = pos value -ℤ pos (get_or dist u 0)

-- exactly the flagged nodes below n are listed
pub record IsListing (flags : List Bool) (value : ℕ) (dist : List ℕ) (n : ℕ) (nodes : List (ℕ × ℤ)) : Type 0 where
  pub rising : IsStrictlyIncreasing (listed nodes)
  pub below : (u : ℕ) → Contains (listed nodes) u → u < n
  pub each : (u : ℕ) → u < n → IsFlagged flags u → potential nodes u ≡ Some (left value dist u)
  pub others : (u : ℕ) → (u < n → IsFlagged flags u → ⊥) → potential nodes u ≡ None

push_other : (ps : List (ℕ × ℤ)) (p : ℕ × ℤ) (u : ℕ) → p.0 ≢ u → potential (ps ++ p ∷ []) u ≡ potential ps u
push_other [] p u other = cond-false (eqb p.0 u) (Some p.1) None (ne_eqb p.0 u other)
push_other (q ∷ qs) p u other = ap (λ (o : Option ℤ). cond (eqb q.0 u) (Some q.1) o) (push_other qs p u other)

push_same : (ps : List (ℕ × ℤ)) (p : ℕ × ℤ) (u : ℕ) → potential ps u ≡ None → p.0 ≡ u → potential (ps ++ p ∷ []) u ≡ Some p.1
push_same [] p u none same = cond-true (eqb p.0 u) (Some p.1) None (eq-eqb p.0 u same)
push_same (q ∷ qs) p u none same =
    elim (cases_eq q.0 u) [
      | inl here ↦ let is : Some q.1 ≡ None = sym (cond-true (eqb q.0 u) (Some q.1) (potential qs u) (eq-eqb q.0 u here)) ∙ none in let bad : ⊥ = cc in absurd bad
      | inr other ↦
          let skip = ne_eqb q.0 u other in
          cond-false (eqb q.0 u) (Some q.1) (potential (qs ++ p ∷ []) u) skip ∙ push_same qs p u (sym (cond-false (eqb q.0 u) (Some q.1) (potential qs u) skip) ∙ none) same
    ]

rising_push : (xs : List ℕ) (v : ℕ) → IsStrictlyIncreasing xs → ((u : ℕ) → Contains xs u → u < v) → IsStrictlyIncreasing (xs ++ v ∷ [])
rising_push xs v rise low k lt =
    let long = length_push xs v in
    let here : k < length xs = omega arith in
    let at : get_or (xs ++ v ∷ []) k 0 ≡ get_or xs k 0 = get_or_append_left xs (v ∷ []) 0 k here in
    elim (cases_lt (k + 1) (length xs)) [
      | inl more ↦
          let next : get_or (xs ++ v ∷ []) (k + 1) 0 ≡ get_or xs (k + 1) 0 = get_or_append_left xs (v ∷ []) 0 (k + 1) more in
          let up = rise k more in
          omega arith
      | inr last ↦
          let next : get_or (xs ++ v ∷ []) (k + 1) 0 ≡ v = get_or_push xs v 0 (k + 1) (omega arith) in
          let up = low (get_or xs k 0) (Contains-get_or xs k 0 here) in
          omega arith
    ]

module _ (flags : List Bool) (value : ℕ) (dist : List ℕ) (n : ℕ) (nodes : List (ℕ × ℤ)) (h : IsListing flags value dist n nodes) where
  pub listing_push : (p : ℕ × ℤ) → IsFlagged flags n → p.0 ≡ n → p.1 ≡ left value dist n → IsListing flags value dist (n + 1) (nodes ++ p ∷ [])
  listing_push p flag at is =
      let list : listed (nodes ++ p ∷ []) ≡ listed nodes ++ p.0 ∷ [] = map_push (λ (q : ℕ × ℤ). q.0) nodes p in
      let P : List ℕ → Type 0 = λ us. IsStrictlyIncreasing us in
      let fresh : potential nodes n ≡ None = h.others n (λ lt. absurd (omega arith)) in
      record {
        rising = subst P (sym list) (rising_push (listed nodes) p.0 h.rising (λ u has. let lt = h.below u has in omega arith));
        below = λ u has.
            let Q : List ℕ → Type 0 = λ us. Contains us u in
            elim (Contains-push_cases (listed nodes) p.0 u (subst Q list has)) [
              | inl old ↦ let lt = h.below u old in omega arith
              | inr same ↦ omega arith
            ];
        each = λ u lt flagged.
            elim (cases_eq u n) [
              | inl same ↦ push_same nodes p u (ap (potential nodes) same ∙ fresh) (at ∙ sym same) ∙ ap (λ (z : ℤ). Some z) is ∙ ap (λ (v : ℕ). Some (left value dist v)) (sym same)
              | inr other ↦ push_other nodes p u (λ same. other (sym same ∙ at)) ∙ h.each u (omega arith) flagged
            ];
        others = λ u off.
            let P : ℕ → Type 0 = λ v. IsFlagged flags v in
            push_other nodes p u (λ same. off (omega arith) (subst P (sym at ∙ same) flag)) ∙ h.others u (λ lt flagged. off (omega arith) flagged);
      }

  pub listing_skip : (IsFlagged flags n → ⊥) → IsListing flags value dist (n + 1) nodes
  listing_skip off = record {
    rising = h.rising;
    below = λ u has. let lt = h.below u has in omega arith;
    each = λ u lt flagged.
        elim (cases_eq u n) [
          | inl same ↦ let P : ℕ → Type 0 = λ v. IsFlagged flags v in absurd (off (subst P same flagged))
          | inr other ↦ h.each u (omega arith) flagged
        ];
    others = λ u none. h.others u (λ lt flagged. none (omega arith) flagged);
  }
