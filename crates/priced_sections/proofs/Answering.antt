-- A section whose facts have prices has one answer: the conditions are tried in one order.
use Rattle.std.proofs.Common.{◌≡◌, ℕ, ◌<◌, ◌⊎◌, List, Option, Ok, Err, sym, ap, ◌∙◌, inl, inr, arith}
use Rattle.std.proofs.lemmas.Bool.{cases_lt}
use Rattle.loop_nest.specs.Digraph.{Digraph, IsBefore}
use Rattle.section_check.specs.declared.section.SectionFault.TheVariants as faults
use Rattle.section_check.specs.Section.{Certified, PricedLoop}
use Rattle.priced_sections.specs.Prices.{PricedFact}
use Rattle.priced_sections.specs.Paid.{paying}
use Rattle.priced_sections.specs.Answers.{IsFirstOutOfPlace, IsFirstUnpaidEdge, IsFirstUnpaidExit}
use Rattle.priced_sections.specs.Laws.{PaidAnswersAreOne}
use Rattle.priced_sections.proofs.InPlace.{none_out}

compared : (u v : ℕ) → (u < v) ⊎ ((v < u) ⊎ (u ≡ v))
compared u v =
    elim (cases_lt u v) [
      | inl less ↦ inl less
      | inr not_less ↦ elim (cases_lt v u) [ inl more ↦ inr (inl more) | inr not_more ↦ inr (inr (omega arith)) ]
    ]

ordered : (u v x y : ℕ) → IsBefore (u, v) (x, y) ⊎ (IsBefore (x, y) (u, v) ⊎ ((u ≡ x) × (v ≡ y)))
ordered u v x y =
    elim (compared u x) [
      | inl less ↦ inl (inl less)
      | inr other ↦
          elim other [
            | inl more ↦ inr (inl (inl more))
            | inr same ↦
                elim (compared v y) [
                  | inl less ↦ inl (inr (same, less))
                  | inr other' ↦ elim other' [ inl more ↦ inr (inl (inr (sym same, more))) | inr same' ↦ inr (inr (same, same')) ]
                ]
          ]
    ]

one_node : (g : Digraph) (c : Certified) (bounds : List ℕ) (loads : List (Option ℕ)) (fs : List PricedFact) (u v : ℕ) → IsFirstOutOfPlace g c bounds loads fs u → IsFirstOutOfPlace g c bounds loads fs v → u ≡ v
one_node g c bounds loads fs u v a b =
    elim (compared u v) [
      | inl less ↦ absurd (b.first u less a.wrong)
      | inr other ↦ elim other [ inl more ↦ absurd (a.first v more b.wrong) | inr same ↦ same ]
    ]

one_exit : (g : Digraph) (costs : List ℕ) (back : ℕ → ℕ) (c : Certified) (u v : ℕ) → IsFirstUnpaidExit g costs back c u → IsFirstUnpaidExit g costs back c v → u ≡ v
one_exit g costs back c u v a b =
    elim (compared u v) [
      | inl less ↦ absurd (a.fails (b.first u a.exit less))
      | inr other ↦ elim other [ inl more ↦ absurd (b.fails (a.first v b.exit more)) | inr same ↦ same ]
    ]

one_edge : (g : Digraph) (costs : List ℕ) (back : ℕ → ℕ) (c : Certified) (ls : List PricedLoop) (u v x y : ℕ) → IsFirstUnpaidEdge g costs back c ls u v → IsFirstUnpaidEdge g costs back c ls x y → (u ≡ x) × (v ≡ y)
one_edge g costs back c ls u v x y a b =
    elim (ordered u v x y) [
      | inl before ↦ absurd (a.fails (b.first u v a.edge before))
      | inr other ↦ elim other [ inl behind ↦ absurd (b.fails (a.first x y b.edge behind)) | inr same ↦ same ]
    ]

pub paid_answers_are_one : PaidAnswersAreOne
paid_answers_are_one g costs back c bounds loads fs (Ok v) (Ok w) a b = ap (λ (o : Option ℕ). Ok o) (a.1 ∙ sym b.1)
paid_answers_are_one g costs back c bounds loads fs (Ok v) (Err (faults.Member u)) a b = absurd (none_out g c bounds loads fs a.0.nodes u b.wrong)
paid_answers_are_one g costs back c bounds loads fs (Ok v) (Err (faults.Edge x y)) a b = let e = b.1 in absurd (e.fails (a.0.edges x y e.edge))
paid_answers_are_one g costs back c bounds loads fs (Ok v) (Err (faults.Exit u)) a b = let e = b.2 in absurd (e.fails (a.0.exits u e.exit))
paid_answers_are_one g costs back c bounds loads fs (Err (faults.Member u)) (Ok w) a b = absurd (none_out g c bounds loads fs b.0.nodes u a.wrong)
paid_answers_are_one g costs back c bounds loads fs (Err (faults.Member u)) (Err (faults.Member v)) a b = ap (λ (z : ℕ). Err (faults.Member z)) (one_node g c bounds loads fs u v a b)
paid_answers_are_one g costs back c bounds loads fs (Err (faults.Member u)) (Err (faults.Edge x y)) a b = absurd (none_out g c bounds loads fs b.0 u a.wrong)
paid_answers_are_one g costs back c bounds loads fs (Err (faults.Member u)) (Err (faults.Exit v)) a b = absurd (none_out g c bounds loads fs b.0 u a.wrong)
paid_answers_are_one g costs back c bounds loads fs (Err (faults.Edge u v)) (Ok w) a b = let e = a.1 in absurd (e.fails (b.0.edges u v e.edge))
paid_answers_are_one g costs back c bounds loads fs (Err (faults.Edge u v)) (Err (faults.Member x)) a b = absurd (none_out g c bounds loads fs a.0 x b.wrong)
paid_answers_are_one g costs back c bounds loads fs (Err (faults.Edge u v)) (Err (faults.Edge x y)) a b =
    let same = one_edge g costs back c (paying c bounds loads fs) u v x y a.1 b.1 in cc (same.0, same.1)
paid_answers_are_one g costs back c bounds loads fs (Err (faults.Edge u v)) (Err (faults.Exit x)) a b = let e = a.1 in absurd (e.fails (b.1 u v e.edge))
paid_answers_are_one g costs back c bounds loads fs (Err (faults.Exit u)) (Ok w) a b = let e = a.2 in absurd (e.fails (b.0.exits u e.exit))
paid_answers_are_one g costs back c bounds loads fs (Err (faults.Exit u)) (Err (faults.Member v)) a b = absurd (none_out g c bounds loads fs a.0 v b.wrong)
paid_answers_are_one g costs back c bounds loads fs (Err (faults.Exit u)) (Err (faults.Edge x y)) a b = let e = b.1 in absurd (e.fails (a.1 x y e.edge))
paid_answers_are_one g costs back c bounds loads fs (Err (faults.Exit u)) (Err (faults.Exit v)) a b = ap (λ (z : ℕ). Err (faults.Exit z)) (one_exit g costs back c u v a.2 b.2)
