-- Parts of walks, and nodes that dominate each other.
use Rattle.std.proofs.Common.{◌≡◌, ◌≢◌, ℕ, List, [], ◌∷◌, Contains, refl, sym, subst, inl, inr}
use Rattle.std.proofs.lemmas.Bool.{cases_eq}
use Rattle.lists.specs.Members.{cons_cases, nil_contains}
use Rattle.loop_nest.specs.Digraph.{Digraph, Edge}
use Rattle.loop_nest.specs.Walks.{Walk, Dominates, IsReachable}
use Rattle.loop_nest.specs.Walks.Walk.{stay, along}
use Rattle.loop_nest.proofs.Around.{Around, not_around}
use Rattle.loop_nest.proofs.Around.Around.{rest, through}
use Rattle.loop_nest.proofs.Nesting.{first_of}

pub dominates_both : (g : Digraph) (a b : ℕ) → IsReachable g a → Dominates g a b → Dominates g b a → a ≡ b
dominates_both g a b reached ab ba =
    elim (cases_eq a b) [
      | inl same ↦ same
      | inr apart ↦
          elim (first_of b a (λ e. apart (sym e)) reached.1 (ba reached.0 reached.1)) [
            | inl to_b ↦ absurd (not_around ab to_b)
            | inr to_a ↦ absurd (not_around ba to_a)
          ]
    ]

pub leads_on : {g : Digraph} {u v : ℕ} {ns : List ℕ} (x : ℕ) → Walk g u v ns → Contains ns x → (ms : List ℕ) × Walk g x v ms
leads_on {g} x (stay {u}) has =
    elim (cons_cases u x [] has) [
      | inl same ↦ let P : ℕ → Type 0 = λ z. (ms : List ℕ) × Walk g z u ms in subst P same (u ∷ [], stay)
      | inr there ↦ absurd (nil_contains x there)
    ]
leads_on {g} x (along {u} {v} {w} {ns} e t) has =
    elim (cons_cases u x ns has) [
      | inl same ↦ let P : ℕ → Type 0 = λ z. (ms : List ℕ) × Walk g z w ms in subst P same (u ∷ ns, along e t)
      | inr there ↦ leads_on x t there
    ]

pub comes_by : {g : Digraph} {u w : ℕ} {ns : List ℕ} → Walk g u w ns → w ≢ u → (q : ℕ) × Edge g q w × Around g w u q
comes_by (stay {u}) other = absurd (other refl)
comes_by {g} (along {u} {v} {w} {ns} e t) other =
    elim (cases_eq w v) [
      | inl same ↦ let P : ℕ → Type 0 = λ z. Edge g u z in (u, subst P (sym same) e, rest (λ at. other (sym at)))
      | inr later ↦ let r = comes_by t later in (r.0, r.1, through (λ at. other (sym at)) e r.2)
    ]
