-- Sums over walks and over loops of which one changes.
use Rattle.std.proofs.Common.{◌≡◌, ◌≢◌, ℕ, zero, suc, ◌+◌, ◌*◌, Bool, cond, List, [], ◌∷◌, refl, sym, ap, ap₂, ◌∙◌, subst, arith, inl, inr}
use Rattle.std.specs.Prelude.{◌==◌, sum_by}
use Rattle.std.proofs.lemmas.Bool.{cases_eq, eq-eqb, ne_eqb}
use Rattle.std.proofs.lemmas.List.Sums.{sum_by-cons}
use Rattle.section_check.specs.Placing.{IsEntryAt}
use Rattle.bound_report.proofs.VisitsLemmas.Expanding.{times, times-cons}

module _ (f f' : ℕ → ℕ) (h more : ℕ) (others : (u : ℕ) → u ≢ h → f u ≡ f' u) (here : f h ≡ f' h + more) where
  at_node : (u : ℕ) → f u ≡ f' u + cond (u == h) 1 0 * more
  at_node u = elim (cases_eq u h) [
    | inl same ↦
        let head : f u ≡ f' u + 1 * more = omega (arith, ap f same, here, ap f' same) in
        subst (λ (t : Bool). f u ≡ f' u + cond t 1 0 * more) (sym (eq-eqb u h same)) head
    | inr apart ↦
        let head : f u ≡ f' u + 0 * more = omega (arith, others u apart) in
        subst (λ (t : Bool). f u ≡ f' u + cond t 1 0 * more) (sym (ne_eqb u h apart)) head
  ]

  -- where a function has more at one node, the sum has it as often as the node is visited
  pub sum_apart : (us : List ℕ) → sum_by f us ≡ sum_by f' us + times h us * more
  sum_apart [] = omega arith
  sum_apart (u ∷ us) =
      let head = at_node u in
      let rest = sum_apart us in
      let both : f u + sum_by f us ≡ (f' u + sum_by f' us) + (cond (u == h) 1 0 + times h us) * more = omega (arith, head, rest) in
      sum_by-cons f u us ∙ (both ∙ sym (ap₂ (λ (a b : ℕ). a + b * more) (sum_by-cons f' u us) (times-cons h u us)))

module _ {X : Type 0} (f f' : X → ℕ) where
  pub sum_same : (ls : List X) → ((j : ℕ) (m : X) → IsEntryAt ls j m → f' m ≡ f m) → sum_by f' ls ≡ sum_by f ls
  sum_same [] same = refl
  sum_same (m ∷ ms) same =
      sum_by-cons f' m ms
      ∙ (ap₂ (λ (a b : ℕ). a + b) (same 0 m (omega arith, refl)) (sum_same ms (λ j k at. let lt = at.0 in same (suc j) k (omega arith, at.1))) ∙ sym (sum_by-cons f m ms))

  -- where a function has more at one place, the sum has it once
  pub sum_one : (ls : List X) (i : ℕ) (l : X) (d : ℕ) → IsEntryAt ls i l → f' l ≡ f l + d → ((j : ℕ) (m : X) → IsEntryAt ls j m → j ≢ i → f' m ≡ f m) → sum_by f' ls ≡ sum_by f ls + d
  sum_one [] i l d at more same = absurd (let lt = at.0 in omega arith)
  sum_one (m ∷ ms) zero l d at more same =
      let is : m ≡ l = at.1 in
      let rest : sum_by f' ms ≡ sum_by f ms = sum_same ms (λ j k there. let lt = there.0 in same (suc j) k (omega arith, there.1) (λ e. omega arith)) in
      let head : f' m ≡ f m + d = ap f' is ∙ (more ∙ ap (λ (x : X). f x + d) (sym is)) in
      sum_by-cons f' m ms ∙ (omega (arith, head, rest, sum_by-cons f m ms))
  sum_one (m ∷ ms) (suc i) l d at more same =
      let lt = at.0 in
      let head : f' m ≡ f m = same 0 m (omega arith, refl) (λ e. omega arith) in
      let rest : sum_by f' ms ≡ sum_by f ms + d = sum_one ms i l d (omega arith, at.1) more (λ j k there apart. let lt' = there.0 in same (suc j) k (omega arith, there.1) (λ e. apart (omega arith))) in
      sum_by-cons f' m ms ∙ (omega (arith, head, rest, sum_by-cons f m ms))
