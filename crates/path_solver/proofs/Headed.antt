-- Which loop a node heads.
use Rattle.std.proofs.Common.{◌≡◌, ℕ, zero, suc, ◌⊎◌, List, [], ◌∷◌, refl, ap, ◌∙◌, inl, inr, arith}
use Rattle.std.proofs.lemmas.Bool.{cases_eq}
use Rattle.loop_nest.specs.Nest.{NaturalLoop}
use Rattle.section_check.specs.Placing.{IsEntryAt}
use Rattle.path_solver.specs.Ordering.{NoLoopHas}

none_of : (l : NaturalLoop) (ls : List NaturalLoop) (v : ℕ) → (l.header ≡ v → ⊥) → NoLoopHas ls v → NoLoopHas (l ∷ ls) v
none_of l ls v other none zero k at same = other (ap (λ (z : NaturalLoop). z.header) at.1 ∙ same)
none_of l ls v other none (suc i) k at same = let lt = at.0 in none i k (omega arith, at.1) same

-- some loop has this header, or none
pub headed_or_not : (loops : List NaturalLoop) (v : ℕ) → ((i : ℕ) × (l : NaturalLoop) × IsEntryAt loops i l × (l.header ≡ v)) ⊎ NoLoopHas loops v
headed_or_not [] v = inr (λ k l at same. let lt = at.0 in omega arith)
headed_or_not (l ∷ ls) v =
    elim (cases_eq l.header v) [
      | inl same ↦ inl (0, l, (omega arith, refl), same)
      | inr other ↦
          elim (headed_or_not ls v) [
            | inl r ↦ let lt = r.2.0 in inl (suc r.0, r.1, (omega arith, r.2.1), r.3)
            | inr none ↦ inr (none_of l ls v other none)
          ]
    ]
