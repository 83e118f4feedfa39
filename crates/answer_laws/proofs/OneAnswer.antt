-- A method has one answer.
use Rattle.std.proofs.Common.{◌≡◌, ℕ, List, [], Option, Some, None, IsSome, refl, sym, ◌∙◌, ap, ap₂, subst, inl, inr}
use Rattle.std.proofs.lemmas.Bool.{cases_order, false≢true}
use Rattle.lists.proofs.Lemmas.{none≢some, some_in, some_same}
use Rattle.opcodes.specs.Start.{IsStart}
use Rattle.bytecode_model.specs.Program.{Program, body_of}
use Rattle.method_flow.specs.Keeping.{BoundOf}
use Rattle.method_flow.specs.declared.timing.Timing.{Timing}
use Rattle.method_runs.specs.TypedGraphs.Laws.{TypedMethodsReachStarts}
use Rattle.answer_lines.specs.declared.bound.BoundCause.{BoundCause}
use Rattle.answer_lines.specs.declared.bound.BoundCause.TheVariants.{NoMethod, Recursion, Irreducible, MissingBound, TooLarge}
use Rattle.bound_rules.specs.Bounding.{HasNoRecursion, IsFirstIrreducible, AreReducible, IsFirstLacking, HaveLines, IsFirstTooLarge, HasNoCause}
use Rattle.bound_rules.specs.Laws.{MethodsHaveCode, PrintedIsOne}
use Rattle.bound_rules.specs.Numbers.{Numbers, AreNumbers, IsPrinted}
use Rattle.bound_laws.specs.Existing.{NumbersExist, CallsEndWithoutRecursion}
use Rattle.bound_laws.proofs.Causes.{LeftIsOne}
use Rattle.method_bounds.specs.declared.answer.BoundAnswer.{BoundAnswer}
use Rattle.method_bounds.specs.declared.answer.BoundAnswer.TheVariants.{Cycles, Never, Refused}
use Rattle.method_bounds.specs.Answers.{IsCauseFor, IsBoundAnswer}
use Rattle.answer_laws.specs.Answers.{IsCosted, AnswersAreOne}

-- ---- one cause

module _ (left_one : LeftIsOne) (P : Program) (t : Timing) (bound_of : BoundOf) (root : ℕ) where
  first_irreducible : (m x : ℕ) (nodes others : List ℕ) → IsFirstIrreducible P root m nodes → IsFirstIrreducible P root x others → m ≡ x
  first_irreducible m x nodes others h k =
      elim (cases_order m x) [
        | inl same ↦ same
        | inr apart ↦
            elim apart [
              | inl less ↦ absurd (h.some (left_one P m nodes [] h.left (k.first m less h.within)))
              | inr more ↦ absurd (k.some (left_one P x others [] k.left (h.first x more k.within)))
            ]
      ]

  not_reducible : (m : ℕ) (nodes : List ℕ) → IsFirstIrreducible P root m nodes → AreReducible P root → ⊥
  not_reducible m nodes h all = h.some (left_one P m nodes [] h.left (all m h.within))

  first_lacking : (m p x q : ℕ) → IsFirstLacking P bound_of root m p → IsFirstLacking P bound_of root x q → (m ≡ x) × (p ≡ q)
  first_lacking m p x q h k =
      elim (cases_order m x) [
        | inl same ↦
            elim (cases_order p q) [
              | inl alike ↦ (same, alike)
              | inr apart ↦
                  elim apart [
                    | inl less ↦ absurd (k.first m p (inr (same, less)) h.lacks)
                    | inr more ↦ absurd (h.first x q (inr (sym same, more)) k.lacks)
                  ]
            ]
        | inr apart ↦
            elim apart [
              | inl less ↦ absurd (k.first m p (inl less) h.lacks)
              | inr more ↦ absurd (h.first x q (inl more) k.lacks)
            ]
      ]

  first_large : (((N : Numbers) × AreNumbers P t bound_of root N → ⊥) → ⊥) → (m x : ℕ) → IsFirstTooLarge P t bound_of root m → IsFirstTooLarge P t bound_of root x → m ≡ x
  first_large exist m x h k =
      elim (cases_order m x) [
        | inl same ↦ same
        | inr apart ↦
            elim apart [
              | inl less ↦ absurd (exist (λ N. (k N.0 N.1).1 m less (h N.0 N.1).0))
              | inr more ↦ absurd (exist (λ N. (h N.0 N.1).1 x more (k N.0 N.1).0))
            ]
      ]

  module _ (exist : HasNoRecursion P root → AreReducible P root → HaveLines P bound_of root → ((N : Numbers) × AreNumbers P t bound_of root N → ⊥) → ⊥) where
    one_cause : (a b : BoundCause) → IsCauseFor P t bound_of root a → IsCauseFor P t bound_of root b → a ≡ b
    one_cause NoMethod b h k = absurd h
    one_cause Recursion NoMethod h k = absurd k
    one_cause Recursion Recursion h k = refl
    one_cause Recursion (Irreducible x) h k = absurd (k.0 h.0 h.1)
    one_cause Recursion (MissingBound x q) h k = absurd (k.0 h.0 h.1)
    one_cause Recursion (TooLarge x) h k = absurd (k.0 h.0 h.1)
    one_cause (Irreducible m) NoMethod h k = absurd k
    one_cause (Irreducible m) Recursion h k = absurd (h.0 k.0 k.1)
    one_cause (Irreducible m) (Irreducible x) h k = ap Irreducible (first_irreducible m x h.1.0 k.1.0 h.1.1 k.1.1)
    one_cause (Irreducible m) (MissingBound x q) h k = absurd (not_reducible m h.1.0 h.1.1 k.1)
    one_cause (Irreducible m) (TooLarge x) h k = absurd (not_reducible m h.1.0 h.1.1 k.1)
    one_cause (MissingBound m p) NoMethod h k = absurd k
    one_cause (MissingBound m p) Recursion h k = absurd (h.0 k.0 k.1)
    one_cause (MissingBound m p) (Irreducible x) h k = absurd (not_reducible x k.1.0 k.1.1 h.1)
    one_cause (MissingBound m p) (MissingBound x q) h k = let same = first_lacking m p x q h.2 k.2 in ap₂ MissingBound same.0 same.1
    one_cause (MissingBound m p) (TooLarge x) h k = absurd (k.2 m p h.2.lacks)
    one_cause (TooLarge m) NoMethod h k = absurd k
    one_cause (TooLarge m) Recursion h k = absurd (h.0 k.0 k.1)
    one_cause (TooLarge m) (Irreducible x) h k = absurd (not_reducible x k.1.0 k.1.1 h.1)
    one_cause (TooLarge m) (MissingBound x q) h k = absurd (h.2 x q k.2.lacks)
    one_cause (TooLarge m) (TooLarge x) h k = ap TooLarge (first_large (exist h.0 h.1 h.2) m x h.3 k.3)

  -- where there is no cause and something is printed, none stands
  no_cause : HasNoCause P t bound_of root → (printed : Option ℕ) → IsPrinted P t bound_of root printed → (cause : BoundCause) → IsCauseFor P t bound_of root cause → ⊥
  no_cause none printed is NoMethod h = h
  no_cause none printed is Recursion h = none.calls h.0 h.1
  no_cause none printed is (Irreducible m) h = not_reducible m h.1.0 h.1.1 none.reducible
  no_cause none printed is (MissingBound m p) h = none.lines m p h.2.lacks
  no_cause none printed is (TooLarge m) h = none.size is.numbers is.are m (h.3 is.numbers is.are).0

-- ---- one number

-- a value that is there
there : {X : Type 0} (o : Option X) → IsSome o → (x : X) × (o ≡ Some x)
there None h = absurd (false≢true h)
there (Some x) h = (x, refl)

module _ (printed : PrintedIsOne) (end : CallsEndWithoutRecursion) (have_code : MethodsHaveCode) (reach : TypedMethodsReachStarts) (P : Program) (t : Timing)
    (costed : IsCosted P t) (bound_of : BoundOf) (root : ℕ) (coded : IsSome (body_of P root)) where
  one_printed : HasNoRecursion P root → (a b : Option ℕ) → IsPrinted P t bound_of root a → IsPrinted P t bound_of root b → a ≡ b
  one_printed none a b =
      printed P t bound_of root a b (end P root costed.lawful coded none)
      (λ m within p reached.
      let body = there (body_of P m) (have_code P costed.lawful root m coded within) in
      some_in (body_of P m) body.0 (λ c. IsStart c.code p) body.1 (reach P costed.types costed.typed m body.0 body.1 p reached))

  module _ (left_one : LeftIsOne) (exist : NumbersExist) where
    one_answer : (a b : BoundAnswer) → IsBoundAnswer P t bound_of root a → IsBoundAnswer P t bound_of root b → a ≡ b
    one_answer (Cycles n) (Cycles k) h l = ap Cycles (some_same n k (one_printed h.0.calls (Some n) (Some k) h.1 l.1))
    one_answer (Cycles n) Never h l = absurd (none≢some n (one_printed h.0.calls None (Some n) l.1 h.1))
    one_answer (Cycles n) (Refused cause) h l = absurd (no_cause left_one P t bound_of root h.0 (Some n) h.1 cause l)
    one_answer Never (Cycles k) h l = absurd (none≢some k (one_printed h.0.calls None (Some k) h.1 l.1))
    one_answer Never Never h l = refl
    one_answer Never (Refused cause) h l = absurd (no_cause left_one P t bound_of root h.0 None h.1 cause l)
    one_answer (Refused cause) (Cycles k) h l = absurd (no_cause left_one P t bound_of root l.0 (Some k) l.1 cause h)
    one_answer (Refused cause) Never h l = absurd (no_cause left_one P t bound_of root l.0 None l.1 cause h)
    one_answer (Refused cause) (Refused other) h l =
        ap Refused
        (one_cause left_one P t bound_of root (λ calls reducible lines missing. exist P costed.types t bound_of root costed.typed costed.lawful costed.costs coded calls reducible lines missing) cause other h l)

pub answers_are_one : LeftIsOne → NumbersExist → PrintedIsOne → CallsEndWithoutRecursion → MethodsHaveCode → TypedMethodsReachStarts → AnswersAreOne
answers_are_one left_one exist printed end have_code reach P t bound_of m a b costed coded =
    one_answer printed end have_code reach P t costed bound_of m coded left_one exist a b
