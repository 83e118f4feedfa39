-- Needs are one, and so is what lacks first.
use Rattle.std.proofs.Common.{◌≡◌, ℕ, ◌≤◌, sym, ◌∙◌, inl, inr, arith}
use Rattle.std.proofs.lemmas.Bool.{cases_order}
use Rattle.loop_nest.specs.Digraph.{IsBefore}
use Rattle.bytecode_model.specs.Program.{Program}
use Rattle.method_flow.specs.Keeping.{BoundOf}
use Rattle.lists.proofs.Lemmas.{none≢some}
use Rattle.memory_rules.specs.Stack.{IsStackNeedOf}
use Rattle.memory_rules.specs.Heap.{Part, IsMostMade}
use Rattle.memory_rules.specs.Given.{IsFirstLackingLine, HaveMakingLines, IsFirstLackingLength, HaveLengths}

pub stack_needs_are_one : (P : Program) (m a b : ℕ) → IsStackNeedOf P m a → IsStackNeedOf P m b → a ≡ b
stack_needs_are_one P m a b h k =
    let below : a ≤ b = (let le = k.greatest h.deepest h.chain in let e = h.attained in omega arith) in
    let above : b ≤ a = (let le = h.greatest k.deepest k.chain in let e = k.attained in omega arith) in
    omega arith

pub most_is_one : (P : Program) (bounds lengths : BoundOf) (part : Part) (a b : ℕ) → IsMostMade P bounds lengths part a → IsMostMade P bounds lengths part b
    → a ≡ b
most_is_one P bounds lengths part a b h k =
    let below : a ≤ b = k.greatest a h.attained in
    let above : b ≤ a = h.greatest b k.attained in
    omega arith

-- of two pairs none of which stands before the other
one_of_two : (m p x q : ℕ) → (IsBefore (x, q) (m, p) → ⊥) → (IsBefore (m, p) (x, q) → ⊥) → (m ≡ x) × (p ≡ q)
one_of_two m p x q h k =
    elim (cases_order m x) [
      | inl same ↦
          elim (cases_order p q) [
            | inl at ↦ (same, at)
            | inr apart ↦
                elim apart [
                  | inl lt ↦ absurd (k (inr (same, lt)))
                  | inr gt ↦ absurd (h (inr (sym same, gt)))
                ]
          ]
      | inr apart ↦
          elim apart [
            | inl lt ↦ absurd (k (inl lt))
            | inr gt ↦ absurd (h (inl gt))
          ]
    ]

pub first_line_is_one : (P : Program) (bounds : BoundOf) (m p x q : ℕ) → IsFirstLackingLine P bounds m p → IsFirstLackingLine P bounds x q → (m ≡ x) × (p ≡ q)
first_line_is_one P bounds m p x q h k = one_of_two m p x q (λ before. h.first x q before k.lacks) (λ before. k.first m p before h.lacks)

pub first_length_is_one : (P : Program) (lengths : BoundOf) (m p x q : ℕ) → IsFirstLackingLength P lengths m p → IsFirstLackingLength P lengths x q
    → (m ≡ x) × (p ≡ q)
first_length_is_one P lengths m p x q h k = one_of_two m p x q (λ before. h.first x q before k.lacks) (λ before. k.first m p before h.lacks)

pub lacking_line : (P : Program) (bounds : BoundOf) (m p : ℕ) → IsFirstLackingLine P bounds m p → HaveMakingLines P bounds → ⊥
lacking_line P bounds m p h all = all m p h.lacks

pub lacking_length : (P : Program) (lengths : BoundOf) (m p : ℕ) → IsFirstLackingLength P lengths m p → HaveLengths P lengths → ⊥
lacking_length P lengths m p h all =
    let l = h.lacks in
    elim (all m p l.within l.arrays) [
      | inl c ↦ l.no_constant c.0 c.1
      | inr n ↦ none≢some n.0 (sym l.none ∙ n.1)
    ]
