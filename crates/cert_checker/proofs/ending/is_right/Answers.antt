use Rattle.std.proofs.Common.{rules, ◌≡◌, ℕ, ◌<◌, ◌^◌, Option, Some, None, ◌∙◌, sym, subst, IsTrue, nat_eq}
use Rattle.lists.proofs.Lemmas.{none≢some}
use Rattle.bytecode_model.specs.Program.{Program}
use Rattle.method_flow.specs.Costs.{IsPrintedOf}
use Rattle.method_flow.specs.Flow.{Flow, IsFlowOf}
use Rattle.method_flow.specs.declared.timing.Timing.{Timing}
use Rattle.bound_rules.specs.Conditions.{IsRight}
use Rattle.cert_checker.proofs.LastLine.{some_right, not_right}
use Rattle.cert_checker.proofs.ending.is_right.Goals as goal
use Rattle.cert_checker.proofs.ending.is_right.Goals.{in-Some+else-full-from, in-None}

-- what is printed, by what is at hand
printed_at : (f flow : Flow) (t timing : Timing) (full other p q : Option ℕ) → f ≡ flow → t ≡ timing → other ≡ full → p ≡ q → ((P : Program) → IsFlowOf P f → IsPrintedOf P t other p) → (P : Program) → IsFlowOf P flow
    → IsPrintedOf P timing full q
printed_at f flow t timing full other p q same_flow same_timing same_full same h =
    let F : Flow → Type 0 = λ x. (P : Program) → IsFlowOf P x → IsPrintedOf P timing full q in
    let T : Timing → Type 0 = λ x. (P : Program) → IsFlowOf P f → IsPrintedOf P x full q in
    let O : Option ℕ → Type 0 = λ x. (P : Program) → IsFlowOf P f → IsPrintedOf P t x q in
    let Q : Option ℕ → Type 0 = λ x. (P : Program) → IsFlowOf P f → IsPrintedOf P t other x in
    subst F same_flow (subst T same_timing (subst O same_full (subst Q same h)))

pub returns-in-Some-Some : goal.returns-in-Some-Some
returns-in-Some-Some c =
    λ P of.
    let same : c.match-full.full ≡ c.args.full = elim c.match-full.branch [ in-Some+else-full-from w ↦ w.full-is ∙ sym w.in-Some.is | in-None w ↦ w.full-is ∙ sym w.in-None.is ] in
    let n = c.in-Some-Some.printed in
    let b = c.in-Some-Some.bound in
    let t = c.args.task.now.timing in
    let full = c.args.full in
    let printed = printed_at c.flow.result.now c.args.task.now.flow c.timing.result t full c.match-full.full c.printed.result (Some n) c.flow.ensures.flow c.timing.ensures.timing same c.in-Some-Some.is-0 c.printed.ensures in
    let small : b < 2 ^ 64 = search rules in
    let R : Option ℕ → Type 0 = λ o. (IsTrue (nat_eq n b) → IsRight P t full o) × (IsRight P t full o → IsTrue (nat_eq n b)) in
    let E : ℕ → Type 0 = λ x. (IsTrue (nat_eq n x) → IsRight P t full c.args.bound) × (IsRight P t full c.args.bound → IsTrue (nat_eq n x)) in
    subst E (sym c.from-in-Some-Some.ensures) (subst R (sym c.in-Some-Some.is-1) (some_right c.printed_is_told.ensures P t full n b small (printed P of)))

pub returns-in_default : goal.returns-in_default
returns-in_default c =
    λ P of.
    let same : c.match-full.full ≡ c.args.full = elim c.match-full.branch [ in-Some+else-full-from w ↦ w.full-is ∙ sym w.in-Some.is | in-None w ↦ w.full-is ∙ sym w.in-None.is ] in
    let printed =
    printed_at c.flow.result.now c.args.task.now.flow c.timing.result c.args.task.now.timing c.args.full c.match-full.full c.printed.result (Some c.in_default.field-0-0) c.flow.ensures.flow c.timing.ensures.timing same c.in_default.is-0
    c.printed.ensures
    in
    not_right c.printed_is_told.ensures P c.args.task.now.timing c.args.full (Some c.in_default.field-0-0) c.args.bound (printed P of) (λ e. none≢some c.in_default.field-0-0 (sym c.in_default.is-1 ∙ sym e))

pub returns-in_default-2 : goal.returns-in_default-2
returns-in_default-2 c =
    λ P of.
    let same : c.match-full.full ≡ c.args.full = elim c.match-full.branch [ in-Some+else-full-from w ↦ w.full-is ∙ sym w.in-Some.is | in-None w ↦ w.full-is ∙ sym w.in-None.is ] in
    let printed =
    printed_at c.flow.result.now c.args.task.now.flow c.timing.result c.args.task.now.timing c.args.full c.match-full.full c.printed.result None c.flow.ensures.flow c.timing.ensures.timing same c.in_default.is-0 c.printed.ensures
    in
    not_right c.printed_is_told.ensures P c.args.task.now.timing c.args.full None c.args.bound (printed P of) (λ e. none≢some c.in_default.field-0-1 (e ∙ c.in_default.is-1))
