-- The nodes to which edges lead, edge by edge.
use Rattle.std.proofs.Common.{◌≡◌, ℕ, ◌+◌, ◌<◌, ◌≤◌, ◌⊎◌, ◌↔◌, Bool, true, false, List, [], ◌∷◌, ◌++◌, length, get_or, set, take, take_all, replicate, Contains, sym, ap, ◌∙◌, subst, inl, inr, arith}
use Rattle.std.proofs.lemmas.Bool.{cases_eq, cases_lt, both_ways}
use Rattle.std.proofs.lemmas.List.{take_more, get_or-replicate, length-replicate, get_or-set_same, get_or-set_other, length-set, get_or_past}
use Rattle.std.proofs.lemmas.List.Elements.{Contains-append_left, Contains-push, Contains-push_cases}
use Rattle.lists.specs.Members.{nil_contains}
use Rattle.flow_graph.specs.Reach.{flag_at}

-- the flags of so many nodes are those of node 0 and of the targets of these edges
pub record AreTargets (n : ℕ) (es : List (ℕ × ℕ)) (flags : List Bool) : Type 0 where
  pub long : length flags ≡ n
  pub each : (u : ℕ) → (flag_at flags u ≡ true) ↔ ((u ≡ 0) ⊎ ((v : ℕ) × Contains es (v, u)))

flag_kept : (flags : List Bool) (k u : ℕ) → k < length flags → flag_at flags u ≡ true → flag_at (set flags k true) u ≡ true
flag_kept flags k u below is =
    elim (cases_eq u k) [
      | inl same ↦ let P : ℕ → Type 0 = λ x. flag_at (set flags k true) x ≡ true in subst P (sym same) (get_or-set_same flags k true false below)
      | inr other ↦ get_or-set_other flags k u true false other ∙ is
    ]

flag_set : (flags : List Bool) (k : ℕ) → k < length flags → flag_at (set flags k true) k ≡ true
flag_set flags k below = get_or-set_same flags k true false below

none_flagged : (n u : ℕ) → flag_at (replicate n false) u ≡ true → ⊥
none_flagged n u is =
    elim (cases_lt u n) [
      | inl lt ↦ both_ways (flag_at (replicate n false) u) (get_or-replicate n u false false lt) is
      | inr ge ↦ let long = length-replicate n false in both_ways (flag_at (replicate n false) u) (get_or_past (replicate n false) u false (omega arith)) is
    ]

-- node 0 alone, before any edge
pub targets_none : (n : ℕ) (es : List (ℕ × ℕ)) (flags : List Bool) → 0 < n → flags ≡ replicate n false → AreTargets n (take 0 es) (set flags 0 true)
targets_none n es flags some is =
    let P : List Bool → Type 0 = λ fs. AreTargets n (take 0 es) (set fs 0 true) in
    subst P (sym is) (record {
      long = length-set (replicate n false) 0 true ∙ length-replicate n false;
      each = λ u. (
        λ flagged. elim (cases_eq u 0) [
          | inl zero ↦ inl zero
          | inr other ↦ absurd (none_flagged n u (sym (get_or-set_other (replicate n false) 0 u true false other) ∙ flagged))
        ],
        λ come. elim come [
          | inl zero ↦ let long = length-replicate n false in let Q : ℕ → Type 0 = λ x. flag_at (set (replicate n false) 0 true) x ≡ true in subst Q (sym zero) (flag_set (replicate n false) 0 (omega arith))
          | inr edge ↦ absurd (nil_contains (edge.0, u) edge.1)
        ],
      );
    })

-- one edge more
targets_push : (n : ℕ) (es : List (ℕ × ℕ)) (e : ℕ × ℕ) (flags : List Bool) → e.1 < n → AreTargets n es flags → AreTargets n (es ++ e ∷ []) (set flags e.1 true)
targets_push n es e flags below h =
    let long = h.long in
    let inside : e.1 < length flags = omega arith in
    record {
      long = length-set flags e.1 true ∙ h.long;
      each = λ u. (
        λ flagged. elim (cases_eq u e.1) [
          | inl same ↦ let P : ℕ → Type 0 = λ x. Contains (es ++ e ∷ []) (e.0, x) in inr (e.0, subst P (sym same) (Contains-push es e))
          | inr other ↦
              elim ((h.each u).0 (sym (get_or-set_other flags e.1 u true false other) ∙ flagged)) [
                | inl zero ↦ inl zero
                | inr edge ↦ inr (edge.0, Contains-append_left es (e ∷ []) (edge.0, u) edge.1)
              ]
        ],
        λ come. elim come [
          | inl zero ↦ flag_kept flags e.1 u inside ((h.each u).1 (inl zero))
          | inr edge ↦
              elim (Contains-push_cases es e (edge.0, u) edge.1) [
                | inl before ↦ flag_kept flags e.1 u inside ((h.each u).1 (inr (edge.0, before)))
                | inr is ↦
                    let P : ℕ → Type 0 = λ x. flag_at (set flags e.1 true) x ≡ true in
                    subst P (ap (λ (x : ℕ × ℕ). x.1) is) (flag_set flags e.1 inside)
              ]
        ],
      );
    }

pub targets_more : (n : ℕ) (es : List (ℕ × ℕ)) (i : ℕ) (e d : ℕ × ℕ) (flags : List Bool) → i < length es → e ≡ get_or es i d → e.1 < n → AreTargets n (take i es) flags → AreTargets n (take (i + 1) es) (set flags e.1 true)
targets_more n es i e d flags lt is below h =
    let P : List (ℕ × ℕ) → Type 0 = λ xs. AreTargets n xs (set flags e.1 true) in
    let Q : ℕ × ℕ → Type 0 = λ x. take (i + 1) es ≡ take i es ++ x ∷ [] in
    subst P (sym (subst Q (sym is) (take_more es i d lt))) (targets_push n (take i es) e flags below h)

pub targets_all : (n : ℕ) (es : List (ℕ × ℕ)) (i : ℕ) (flags : List Bool) → length es ≤ i → AreTargets n (take i es) flags → AreTargets n es flags
targets_all n es i flags all h =
    let P : List (ℕ × ℕ) → Type 0 = λ xs. AreTargets n xs flags in
    subst P (take_all i es all) h
