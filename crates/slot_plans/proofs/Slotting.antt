-- What is answered of slots by the table of a program, one behind another, and that it holds of the program.
use Rattle.std.proofs.Common.{◌≡◌, ℕ, zero, suc, ◌+◌, ◌<◌, ◌≤◌, List, [], ◌∷◌, ◌++◌, length, take}
use Rattle.std.proofs.Common.{get_or, append-nil, append_assoc, length-append, Option, Some, refl, sym, ◌∙◌, ap, subst, inl, inr, arith}
use Rattle.std.specs.Prelude.{◌⊎◌, IfSome, slice_get, Result, Ok, Err, IfOk, IfErr, Vec}
use Rattle.std.specs.declared.alloc.Global.{Global}
use Rattle.std.proofs.Math.Path.{fun_ext}
use Rattle.std.proofs.lemmas.Option.{slice_get-get_or}
use Rattle.std.proofs.lemmas.List.{take_more, length-take-le}
use Rattle.lists.proofs.Lemmas.{none≢some, some_same}
use Rattle.class_pool.specs.declared.class.ClassFile.{ClassFile}
use Rattle.program_tables.specs.Resolved.{resolved}
use Rattle.slot_table.specs.declared.slot.Slot.{Slot}
use Rattle.command_line.specs.declared.command.Settings.{Settings}
use Rattle.bytecode_model.specs.Program.{Program}
use Rattle.method_flow.specs.declared.timing.Timing.{Timing}
use Rattle.method_flow.specs.Keeping.{BoundOf}
use Rattle.node_costs.specs.Costs as table
use Rattle.certificates.specs.Certificate.{Certificate}
use Rattle.bound_rules.specs.declared.faults.BoundRefusal.{BoundRefusal}
use Rattle.bound_rules.specs.Bounding.{HasNoCause}
use Rattle.bound_rules.specs.Numbers.{IsPrinted}
use Rattle.answer_lines.specs.declared.bound.BoundCause.TheVariants.{NoMethod}
use Rattle.answer_lines.specs.declared.plan.PlanCause.TheVariants as plans
use Rattle.analysis_commands.specs.declared.analysis.Analysis.{Analysis}
use Rattle.slot_plans.specs.declared.plan.NotPlanned.{NotPlanned}
use Rattle.slot_plans.specs.declared.plan.NotPlanned.TheVariants.{NoAnalysis, Refused, NoMemory}
use Rattle.analysis_commands.specs.Analysis.{timing_of, bounds_of, named_or_number, IsAnalysisOf}
use Rattle.analysis_commands.specs.Answers.{table_name}
use Rattle.analysis_commands.specs.BoundAnswers.{IsCertificateOf, IsCauseOf}
use Rattle.slot_plans.specs.Plan.{KeepsLength, plan_line, plan_lines_from, IsPlanOf, IsPlan, IsNoPlanOf, IsNotPlanned}
use Rattle.analysis_commands.specs.ExecutiveAnswers.{IsSlotMethodIn, HasNoMethodIn}
use Rattle.slot_plans.specs.PlanAnswers.{IsBoundOfMethodIn, IsSlotCause, IsRefusedMethod, IsSlotBoundIn}
use Rattle.slot_plans.specs.PlanAnswers.{KeepsLengthIn, IsSlotRefusedBy, HasSlotLine, IsPlanIn, IsNotPlannedBy}
use Rattle.analysis_commands.proofs.Lifting.{named, moved}

-- ---- one slot

-- the bound of the certificate of the method
pub bound_said : (a : Analysis) (method : ℕ) (c : Certificate) (bound : Option ℕ) → bound ≡ c.bound → IsCertificateOf a (λ m. m ≡ method) c → IsBoundOfMethodIn a method bound
bound_said a method c bound e h =
    λ P of.
    let is = h P of in
    let b : BoundOf = table.bounds_of a.flow a.bounds in
    let of_method : c.root ≡ method = is.asked.is_named in
    record {
      no_cause = subst (λ (m : ℕ). HasNoCause P a.timing b m) of_method is.no_cause;
      printed = subst (λ (m : ℕ). IsPrinted P a.timing b m bound) of_method (subst (λ (x : Option ℕ). IsPrinted P a.timing b c.root x) (sym e) is.printed);
      certified = record { certificate = c; meets = is.meets; of_method = of_method; says = sym e };
    }

pub slot_bound_ok : (a : Analysis) (slot method : ℕ) (r : Result (Option ℕ) NotPlanned) → IsSlotMethodIn a.flow slot method → IfOk r (IsBoundOfMethodIn a method) → IfOk r (IsSlotBoundIn a slot)
slot_bound_ok a slot method (Ok bound) is h =
    λ P of. let found = h P of in record { method = method; of_slot = is P of; no_cause = found.no_cause; printed = found.printed; certified = found.certified }
slot_bound_ok a slot method (Err r) is h = tt

forbidden : (a : Analysis) (slot method : ℕ) (s : Slot) (r : NotPlanned) → IsSlotMethodIn a.flow slot method → (refusal : BoundRefusal) → IsCauseOf a (λ m. m ≡ method) refusal → IsSlotCause (table_name a.flow) slot refusal r → IsSlotRefusedBy a slot s r
forbidden a slot method s (NoAnalysis fault) is refusal h says = absurd says
forbidden a slot method s (Refused (plans.Slot i cause) subject) is refusal h says =
    λ P of. (says.0, inr (record { method = method; of_slot = is P of; refusal = refusal; is = h P of; cause_is = says.1; subject_is = says.2 }))
forbidden a slot method s (Refused (plans.Late i bound length) subject) is refusal h says = absurd says
forbidden a slot method s NoMemory is refusal h says = tt

pub slot_bound_err : {T : Type 0} (a : Analysis) (slot method : ℕ) (s : Slot) (r : Result T NotPlanned) → IsSlotMethodIn a.flow slot method → IfErr r (IsRefusedMethod a slot method) → IfErr r (IsSlotRefusedBy a slot s)
slot_bound_err a slot method s (Ok x) is h = tt
slot_bound_err a slot method s (Err r) is h = forbidden a slot method s r is h.refusal h.is h.says

pub no_method : (a : Analysis) (slot : ℕ) (s : Slot) (subject : Vec ℕ Global) → HasNoMethodIn a.flow slot → subject.items ≡ [] → IsSlotRefusedBy a slot s (Refused (plans.Slot slot NoMethod) subject)
no_method a slot s subject none empty = λ P of. (refl, inl (record { none = none P of; cause_is = refl; subject_is = empty }))

pub kept : (a : Analysis) (slot : ℕ) (s : Slot) (found : Option ℕ) (bound : ℕ) → IsSlotBoundIn a slot found → found ≡ Some bound → bound ≤ s.length → KeepsLengthIn a slot s bound
kept a slot s found bound is e keeps = let B : Option ℕ → Type 0 = λ x. IsSlotBoundIn a slot x in λ P of. record { is = subst B e is P of; keeps = keeps }

pub late : (a : Analysis) (slot : ℕ) (s : Slot) (bound : Option ℕ) (subject : Vec ℕ Global) → IsSlotBoundIn a slot bound → IfSome bound (λ n. s.length < n) → subject.items ≡ [] → IsSlotRefusedBy a slot s (Refused (plans.Late slot bound s.length) subject)
late a slot s bound subject is past empty = λ P of. (refl, refl, record { is = is P of; past = past }, empty)

-- ---- slots one behind another

pair_cases : (xs : List Slot) (s : Slot) (bs : List ℕ) (b : ℕ) → length bs ≡ length xs → (j : ℕ) (x : Slot) (c : ℕ) → slice_get (xs ++ s ∷ []) j ≡ Some x → slice_get (bs ++ b ∷ []) j ≡ Some c
    → ((slice_get xs j ≡ Some x) × (slice_get bs j ≡ Some c)) ⊎ ((j ≡ length xs) × (s ≡ x) × (b ≡ c))
pair_cases [] s [] b long zero x c e f = inr (refl, some_same s x e, some_same b c f)
pair_cases [] s [] b long (suc j) x c e f = absurd (none≢some x e)
pair_cases [] s (d ∷ bs) b long j x c e f = absurd (omega (arith, long))
pair_cases (y ∷ xs) s [] b long j x c e f = absurd (omega (arith, long))
pair_cases (y ∷ xs) s (d ∷ bs) b long zero x c e f = inl (e, f)
pair_cases (y ∷ xs) s (d ∷ bs) b long (suc j) x c e f =
    elim (pair_cases xs s bs b (omega (arith, long)) j x c e f) [ inl before ↦ inl before | inr last ↦ inr (ap suc last.0, last.1, last.2) ]

lines_more : (i : ℕ) (xs : List Slot) (s : Slot) (bs : List ℕ) (b : ℕ) → length bs ≡ length xs → plan_lines_from i (xs ++ s ∷ []) (bs ++ b ∷ []) ≡ plan_lines_from i xs bs ++ plan_line (i + length xs) s b
lines_more i [] s [] b long = append-nil (plan_line i s b) ∙ ap (λ (n : ℕ). plan_line n s b) (omega arith)
lines_more i [] s (d ∷ bs) b long = absurd (omega (arith, long))
lines_more i (y ∷ xs) s [] b long = absurd (omega (arith, long))
lines_more i (y ∷ xs) s (d ∷ bs) b long =
    let counted : suc i + length xs ≡ i + length (y ∷ xs) = omega arith in
    ap (λ (l : List ℕ). plan_line i y d ++ l) (lines_more (suc i) xs s bs b (omega (arith, long)))
    ∙ ap (λ (n : ℕ). plan_line i y d ++ (plan_lines_from (suc i) xs bs ++ plan_line n s b)) counted
    ∙ sym (append_assoc (plan_line i y d) (plan_lines_from (suc i) xs bs) (plan_line (i + length (y ∷ xs)) s b))

taken : (xs : List Slot) (i j : ℕ) → j < i → slice_get (take i xs) j ≡ slice_get xs j
taken xs zero j below = absurd (omega arith)
taken [] (suc i) j below = refl
taken (x ∷ xs) (suc i) zero below = refl
taken (x ∷ xs) (suc i) (suc j) below = taken xs i j (omega (arith, below))

module _ (P : Program) (t : Timing) (bound : BoundOf) (name : ℕ → List ℕ) where
  one_more : (xs : List Slot) (s : Slot) (i b : ℕ) (text all : List ℕ) → length xs ≡ i → IsPlanOf P t bound name xs text → KeepsLength P t bound name i s b → all ≡ text ++ plan_line i s b → IsPlanOf P t bound name (xs ++ s ∷ []) all
  one_more xs s i b text all count h keeps e =
      let K : ℕ → Slot → ℕ → Type 0 = λ j x c. KeepsLength P t bound name j x c in
      let last : length xs ≡ 0 + length xs = omega arith in
      record {
        bounds = h.bounds ++ b ∷ [];
        long = length-append h.bounds (b ∷ []) ∙ ap (λ (n : ℕ). n + 1) h.long ∙ sym (length-append xs (s ∷ []));
        each = λ j x c at told.
            elim (pair_cases xs s h.bounds b h.long j x c at told) [
              | inl before ↦ h.each j x c before.0 before.1
              | inr here ↦
                  let J : K j s b = subst (λ (n : ℕ). K n s b) (sym (here.0 ∙ count)) keeps in
                  let X : K j x b = subst (λ (y : Slot). K j y b) here.1 J in
                  subst (λ (d : ℕ). K j x d) here.2 X
            ];
        text_is = e ∙ ap (λ (l : List ℕ). l ++ plan_line i s b) h.text_is
            ∙ ap (λ (n : ℕ). plan_lines_from 0 xs h.bounds ++ plan_line n s b) (sym count ∙ last)
            ∙ sym (lines_more 0 xs s h.bounds b h.long);
      }

  -- the slots before have bounds
  before : (slots : List Slot) (i : ℕ) (text : List ℕ) → i ≤ length slots → IsPlanOf P t bound name (take i slots) text → (j : ℕ) (s : Slot) → j < i → slice_get slots j ≡ Some s → (b : ℕ) × KeepsLength P t bound name j s b
  before slots i text few h j s less at =
      let long : length h.bounds ≡ i = h.long ∙ length-take-le i slots few in
      (get_or h.bounds j 0, h.each j s (get_or h.bounds j 0) (taken slots i j less ∙ at) (slice_get-get_or h.bounds j 0 (omega (arith, long, less))))

pub none_yet : (a : Analysis) (slots : List Slot) (text : List ℕ) → text ≡ [] → IsPlanIn a (take 0 slots) text
none_yet a slots text empty = λ P of. record { bounds = []; long = refl; each = λ j s b at told. absurd (none≢some s at); text_is = empty }

pub longer : (a : Analysis) (slots : List Slot) (i : ℕ) (other : Slot) (text all : List ℕ) → i < length slots → IsPlanIn a (take i slots) text → HasSlotLine a i (get_or slots i other) text all → IsPlanIn a (take (i + 1) slots) all
longer a slots i other text all below h line =
    λ P of.
    let Q : List Slot → Type 0 = λ xs. IsPlanOf P a.timing (table.bounds_of a.flow a.bounds) (table_name a.flow) xs all in
    subst Q (sym (take_more slots i other below))
    (one_more P a.timing (table.bounds_of a.flow a.bounds) (table_name a.flow) (take i slots) (get_or slots i other) i line.bound text all (length-take-le i slots (omega (arith, below))) (h P of) (line.keeps P of) line.new_is)

pub refused_at : (a : Analysis) (slots : List Slot) (i : ℕ) (other : Slot) (text : List ℕ) (r : NotPlanned) → i < length slots → IsPlanIn a (take i slots) text → IsSlotRefusedBy a i (get_or slots i other) r → IsNotPlannedBy a slots r
refused_at a slots i other text (NoAnalysis fault) below h is = absurd is
refused_at a slots i other text (Refused cause subject) below h is =
    λ P of.
    record {
      slot = i;
      parts = get_or slots i other;
      there = slice_get-get_or slots i other below;
      before = before P a.timing (table.bounds_of a.flow a.bounds) (table_name a.flow) slots i text (omega (arith, below)) (h P of);
      refused = is P of;
    }
refused_at a slots i other text NoMemory below h is = tt

-- ---- the program

module _ (cs : List ClassFile) (s : Settings) (bounds_text : List ℕ) (a : Analysis) (is : IsAnalysisOf cs s bounds_text a) (slots : List Slot) where
  lifted : (Q : Timing → BoundOf → (ℕ → List ℕ) → Type 0) → Q a.timing (table.bounds_of a.flow a.bounds) (table_name a.flow) → Q (timing_of s) (bounds_of cs a.bounds) (named_or_number cs)
  lifted Q h =
      let N : (ℕ → List ℕ) → Type 0 = λ name. Q a.timing (table.bounds_of a.flow a.bounds) name in
      moved cs s bounds_text a is (λ t b. Q t b (named_or_number cs)) (subst N (fun_ext (named cs a.flow is.flow is.names)) h)

  pub plan_ok : (r : Result (Vec ℕ Global) NotPlanned) → IfOk r (λ text. IsPlanIn a slots text.items) → IfOk r (λ text. IsPlan cs s bounds_text slots text.items)
  plan_ok (Ok text) h = record {
    codes_fit = is.codes_fit;
    bounds = a.bounds;
    bounds_read = is.bounds;
    is = lifted (λ t b name. IsPlanOf (resolved cs) t b name slots text.items) (h (resolved cs) is.flow);
  }
  plan_ok (Err r) h = tt

  refused : (r : NotPlanned) → IsNotPlannedBy a slots r → IsNotPlanned cs s bounds_text slots r
  refused (NoAnalysis fault) h = absurd h
  refused (Refused cause subject) h = record {
    codes_fit = is.codes_fit;
    bounds = a.bounds;
    bounds_read = is.bounds;
    is = lifted (λ t b name. IsNoPlanOf (resolved cs) t b name slots cause subject.items) (h (resolved cs) is.flow);
  }
  refused NoMemory h = tt

  pub plan_err : {T : Type 0} (r : Result T NotPlanned) → IfErr r (IsNotPlannedBy a slots) → IfErr r (IsNotPlanned cs s bounds_text slots)
  plan_err (Ok x) h = tt
  plan_err (Err r) h = refused r h
