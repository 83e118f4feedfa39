-- The edges that are taken, edge by edge.
use Rattle.std.proofs.Common.{ℕ, ◌+◌, ◌<◌, Bool, List, [], ◌∷◌, ◌++◌, length, get_or, take, Contains, sym, subst, inl, inr}
use Rattle.std.proofs.lemmas.List.{take_more}
use Rattle.std.proofs.lemmas.List.Elements.{Contains-append_left, Contains-push, Contains-push_cases}
use Rattle.lists.specs.Members.{nil_contains}
use Rattle.loop_nest.specs.Nest.{NaturalLoop}
use Rattle.path_solver.specs.Ordering.{IsTaken, AreTaken}

module _ (loops : List NaturalLoop) (flags : List Bool) (back : Bool) where
  pub taken_none : AreTaken [] loops flags back []
  taken_none u v = (λ has. absurd (nil_contains (u, v) has), λ r. absurd (nil_contains (u, v) r.0))

  pub taken_push : (es found : List (ℕ × ℕ)) (e : ℕ × ℕ) → IsTaken loops flags back e.0 e.1 → AreTaken es loops flags back found → AreTaken (es ++ e ∷ []) loops flags back (found ++ e ∷ [])
  taken_push es found e b h u v = (
    λ has.
        elim (Contains-push_cases found e (u, v) has) [
          | inl old ↦ let r = (h u v).0 old in (Contains-append_left es (e ∷ []) (u, v) r.0, r.1)
          | inr same ↦
              let P : ℕ × ℕ → Type 0 = λ z. Contains (es ++ e ∷ []) z × IsTaken loops flags back z.0 z.1 in
              subst P same (Contains-push es e, b)
        ],
    λ r.
        elim (Contains-push_cases es e (u, v) r.0) [
          | inl old ↦ Contains-append_left found (e ∷ []) (u, v) ((h u v).1 (old, r.1))
          | inr same ↦ let P : ℕ × ℕ → Type 0 = λ z. Contains (found ++ e ∷ []) z in subst P same (Contains-push found e)
        ],
  )

  pub taken_skip : (es found : List (ℕ × ℕ)) (e : ℕ × ℕ) → (IsTaken loops flags back e.0 e.1 → ⊥) → AreTaken es loops flags back found → AreTaken (es ++ e ∷ []) loops flags back found
  taken_skip es found e off h u v = (
    λ has. let r = (h u v).0 has in (Contains-append_left es (e ∷ []) (u, v) r.0, r.1),
    λ r.
        elim (Contains-push_cases es e (u, v) r.0) [
          | inl old ↦ (h u v).1 (old, r.1)
          | inr same ↦ let P : ℕ × ℕ → Type 0 = λ z. IsTaken loops flags back z.0 z.1 in absurd (off (subst P (sym same) r.1))
        ],
  )

  pub taken_next : (es found : List (ℕ × ℕ)) (i : ℕ) → i < length es → IsTaken loops flags back (get_or es i (0, 0)).0 (get_or es i (0, 0)).1 → AreTaken (take i es) loops flags back found → AreTaken (take (i + 1) es) loops flags back (found ++ get_or es i (0, 0) ∷ [])
  taken_next es found i lt b h =
      let P : List (ℕ × ℕ) → Type 0 = λ qs. AreTaken qs loops flags back (found ++ get_or es i (0, 0) ∷ []) in
      subst P (sym (take_more es i (0, 0) lt)) (taken_push (take i es) found (get_or es i (0, 0)) b h)

  pub taken_not_next : (es found : List (ℕ × ℕ)) (i : ℕ) → i < length es → (IsTaken loops flags back (get_or es i (0, 0)).0 (get_or es i (0, 0)).1 → ⊥) → AreTaken (take i es) loops flags back found → AreTaken (take (i + 1) es) loops flags back found
  taken_not_next es found i lt off h =
      let P : List (ℕ × ℕ) → Type 0 = λ qs. AreTaken qs loops flags back found in
      subst P (sym (take_more es i (0, 0) lt)) (taken_skip (take i es) found (get_or es i (0, 0)) off h)
