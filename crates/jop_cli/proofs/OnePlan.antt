-- The lines of a plan are one.
use Rattle.std.proofs.Common.{◌≡◌, ℕ, suc, ◌<◌, List, [], ◌∷◌, length, Option, Some, None, IsSome, refl, sym, ◌∙◌, ap, ap₂, subst, arith}
use Rattle.std.specs.Prelude.{slice_get}
use Rattle.std.proofs.lemmas.Bool.{false≢true}
use Rattle.lists.proofs.Lemmas.{some_in, some_same}
use Rattle.opcodes.specs.Start.{IsStart}
use Rattle.program_tables.specs.Resolved.{resolved}
use Rattle.bytecode_model.specs.Program.{Program, body_of}
use Rattle.bytecode_typing.specs.Typed.{Typing, Typed}
use Rattle.bytecode_typing.specs.Lawful.{Lawful}
use Rattle.bound_texts.specs.Loops.Bounds.{LoopBound}
use Rattle.bound_texts.specs.Loops.Laws.{GivesOne}
use Rattle.method_flow.specs.Calls.{IsTarget}
use Rattle.method_flow.specs.Keeping.{BoundOf}
use Rattle.method_flow.specs.declared.timing.Timing.{Timing}
use Rattle.method_runs.specs.TypedGraphs.Laws.{TypedMethodsReachStarts}
use Rattle.slot_table.specs.declared.slot.Slot.{Slot}
use Rattle.slot_table.specs.Executive.{call_place}
use Rattle.bound_rules.specs.Bounding.{HasNoRecursion}
use Rattle.bound_rules.specs.Laws.{MethodsHaveCode, PrintedIsOne}
use Rattle.bound_rules.specs.Numbers.{IsPrinted}
use Rattle.bound_laws.specs.Existing.{CallsEndWithoutRecursion}
use Rattle.analysis_commands.specs.Analysis.{bounds_of, named_or_number, timing_of}
use Rattle.slot_plans.specs.Plan.{IsPlan, IsPlanOf, IsSlotBound, KeepsLength, plan_lines_from}
use Rattle.analysis_commands.specs.Executive.{IsSlotMethod, IsCyclicMain}
use Rattle.jop_cli.specs.promises.Plan.{PlansAreOne}
use Rattle.run_commands.proofs.Least.{one_least}

-- a value that is there
there : {X : Type 0} (o : Option X) → IsSome o → (x : X) × (o ≡ Some x)
there None h = absurd (false≢true h)
there (Some x) h = (x, refl)

-- a slot is one method's
module _ (P : Program) (name : ℕ → List ℕ) (slot : ℕ) where
  one_method : (m n : ℕ) → IsSlotMethod P name slot m → IsSlotMethod P name slot n → m ≡ n
  one_method m n a b =
      let same : a.executive ≡ b.executive = one_least (IsCyclicMain P name) a.executive b.executive a.is_executive b.is_executive in
      let runs : IsTarget P a.executive (call_place slot) m = (a.calls.runs m).1 refl in
      (b.calls.runs m).0 (subst (λ (e : ℕ). IsTarget P e (call_place slot) m) same runs)

module _ (printed : PrintedIsOne) (end : CallsEndWithoutRecursion) (have_code : MethodsHaveCode) (reach : TypedMethodsReachStarts) (P : Program) (types : Typing)
    (typed : Typed P types) (lawful : Lawful P) (t : Timing) (bound_of : BoundOf) where
  -- one number is printed of a method
  pub one_printed : (root : ℕ) → IsSome (body_of P root) → HasNoRecursion P root → (a b : Option ℕ) → IsPrinted P t bound_of root a → IsPrinted P t bound_of root b → a ≡ b
  one_printed root coded none a b =
      printed P t bound_of root a b (end P root lawful coded none)
      (λ m within p reached.
      let body = there (body_of P m) (have_code P lawful root m coded within) in
      some_in (body_of P m) body.0 (λ c. IsStart c.code p) body.1 (reach P types typed m body.0 body.1 p reached))

  one_bound : (name : ℕ → List ℕ) (slot : ℕ) (a b : Option ℕ) → IsSlotBound P t bound_of name slot a → IsSlotBound P t bound_of name slot b → a ≡ b
  one_bound name slot a b h k =
      let same : k.method ≡ h.method = one_method P name slot k.method h.method k.of_slot h.of_slot in
      let coded : IsSome (body_of P h.method) = subst (λ (m : ℕ). IsSome (body_of P m)) h.certified.of_method h.certified.meets.coded in
      one_printed h.method coded h.no_cause.calls a b h.printed (subst (λ (m : ℕ). IsPrinted P t bound_of m b) same k.printed)

  -- the bounds of the slots from one on
  one_bounds : (name : ℕ → List ℕ) (first : ℕ) (slots : List Slot) (xs ys : List ℕ) → length xs ≡ length slots → length ys ≡ length slots
      → ((i : ℕ) (s : Slot) (x y : ℕ) → slice_get slots i ≡ Some s → slice_get xs i ≡ Some x → slice_get ys i ≡ Some y → x ≡ y) → xs ≡ ys
  one_bounds name first slots [] [] a b each = refl
  one_bounds name first slots [] (y ∷ ys) a b each = absurd (omega (arith, a, b))
  one_bounds name first slots (x ∷ xs) [] a b each = absurd (omega (arith, a, b))
  one_bounds name first [] (x ∷ xs) (y ∷ ys) a b each = absurd (omega (arith, a))
  one_bounds name first (s ∷ slots) (x ∷ xs) (y ∷ ys) a b each =
      ap₂ (λ (z : ℕ) (zs : List ℕ). z ∷ zs) (each 0 s x y refl refl refl)
      (one_bounds name first slots xs ys (omega (arith, a)) (omega (arith, b)) (λ i. each (suc i)))

  pub one_plan : (name : ℕ → List ℕ) (slots : List Slot) (text other : List ℕ) → IsPlanOf P t bound_of name slots text → IsPlanOf P t bound_of name slots other → text ≡ other
  one_plan name slots text other a b =
      let same : a.bounds ≡ b.bounds =
      one_bounds name 0 slots a.bounds b.bounds a.long b.long
      (λ i s x y is at there'. some_same x y (one_bound name i (Some x) (Some y) (a.each i s x is at).is (b.each i s y is there').is)) in
      a.text_is ∙ (ap (plan_lines_from 0 slots) same ∙ sym b.text_is)

pub plans_are_one : GivesOne → PrintedIsOne → CallsEndWithoutRecursion → MethodsHaveCode → TypedMethodsReachStarts → PlansAreOne
plans_are_one gives printed end have_code reach cs setting s bounds_text slots text other a b =
    let bounds : a.bounds ≡ b.bounds = gives bounds_text a.bounds b.bounds a.bounds_read b.bounds_read in
    let moved : IsPlanOf (resolved cs) (timing_of s) (bounds_of cs b.bounds) (named_or_number cs) slots text =
    subst (λ (bs : List LoopBound). IsPlanOf (resolved cs) (timing_of s) (bounds_of cs bs) (named_or_number cs) slots text) bounds a.is in
    one_plan printed end have_code reach (resolved cs) _ setting.typed setting.lawful (timing_of s) (bounds_of cs b.bounds) (named_or_number cs) slots text other moved b.is
