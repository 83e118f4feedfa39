-- The lines of all methods are one text.
use Rattle.std.proofs.Common.{◌≡◌, ℕ, zero, suc, ◌<◌, ◌↔◌, List, [], ◌∷◌, length, Some, IsSome, refl, sym, ◌∙◌, ap, ap₂, inl, inr, arith}
use Rattle.std.specs.Prelude.{slice_get}
use Rattle.std.proofs.lemmas.Bool.{cases_order}
use Rattle.lists.proofs.Lemmas.{none≢some}
use Rattle.bytecode_model.specs.Program.{Program, body_of}
use Rattle.method_flow.specs.Keeping.{BoundOf}
use Rattle.method_flow.specs.declared.timing.Timing.{Timing}
use Rattle.method_bounds.specs.declared.answer.BoundAnswer.{BoundAnswer}
use Rattle.method_bounds.specs.Lines.{AreBoundLines, lines_from}
use Rattle.answer_laws.specs.Answers.{IsCosted, AnswersAreOne, BoundLinesAreOne}

-- ---- lists that agree at each place

within : (xs : List BoundAnswer) (i : ℕ) (x : BoundAnswer) → slice_get xs i ≡ Some x → i < length xs
within [] i x at = absurd (none≢some x at)
within (y ∷ xs) zero x at = omega arith
within (y ∷ xs) (suc i) x at = let less = within xs i x at in omega arith

same_lists : (xs ys : List BoundAnswer) → length xs ≡ length ys → ((i : ℕ) (x y : BoundAnswer) → slice_get xs i ≡ Some x → slice_get ys i ≡ Some y → x ≡ y) → xs ≡ ys
same_lists [] [] long each = refl
same_lists [] (y ∷ ys) long each = absurd (omega (arith, long))
same_lists (x ∷ xs) [] long each = absurd (omega (arith, long))
same_lists (x ∷ xs) (y ∷ ys) long each =
    ap₂ (λ (z : BoundAnswer) (zs : List BoundAnswer). z ∷ zs) (each 0 x y refl refl) (same_lists xs ys (omega (arith, long)) (λ i. each (suc i)))

-- so many, where each counts the same
same_long : (K : ℕ → Type 0) (n m : ℕ) → ((i : ℕ) → K i ↔ (i < n)) → ((i : ℕ) → K i ↔ (i < m)) → n ≡ m
same_long K n m a b =
    elim (cases_order n m) [
      | inl same ↦ same
      | inr apart ↦
          elim apart [
            | inl less ↦ absurd (let more = (a n).0 ((b n).1 less) in omega (arith, more))
            | inr more ↦ absurd (let less = (b m).0 ((a m).1 more) in omega (arith, less))
          ]
    ]

pub bound_lines_are_one : AnswersAreOne → BoundLinesAreOne
bound_lines_are_one one P t bound_of name text other costed a b =
    let long : length a.answers ≡ length b.answers = same_long (λ m. IsSome (body_of P m)) (length a.answers) (length b.answers) a.coded b.coded in
    let same : a.answers ≡ b.answers =
    same_lists a.answers b.answers long
    (λ m x y at there. one P t bound_of m x y costed ((a.coded m).1 (within a.answers m x at)) (a.each m x at) (b.each m y there)) in
    a.text_is ∙ (ap (lines_from P.boot name 0) same ∙ sym b.text_is)
