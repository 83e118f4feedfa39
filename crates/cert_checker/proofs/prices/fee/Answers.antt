use Rattle.std.proofs.Common.{◌≡◌, ℕ, true, List, Result, Ok, Err, Option, sym, subst}
use Rattle.std.specs.Result.{IfOk}
use Rattle.bytecode_model.specs.Program.{Program}
use Rattle.method_flow.specs.Flow.{Flow, IsFlowOf}
use Rattle.method_flow.specs.declared.timing.Timing.{Timing}
use Rattle.section_check.specs.Section.{CertifiedLoop}
use Rattle.bound_rules.specs.Sections.{IsEntryLoad}
use Rattle.bound_rules.specs.Sections.IsEntryLoad.{fits, exceeds}
use Rattle.cert_checker.specs.Setting.{IsRegionFee}
use Rattle.cert_checker.specs.Setting.IsRegionFee.{fits as region_fits, exceeds as region_exceeds}
use Rattle.cert_checker.proofs.prices.fee.Goals as goal

of_region : (P : Program) (t : Timing) (m : ℕ) (l : CertifiedLoop) (fee : Option ℕ) → l.region ≡ true → IsRegionFee P t m l.members fee → IsEntryLoad P t m l fee
of_region P t m l fee region (region_fits together is) = fits region together is
of_region P t m l fee region (region_exceeds none is) = exceeds region none is

to_fees : {E : Type 0} (f : Flow) (t : Timing) (m : ℕ) (l : CertifiedLoop) (members : List ℕ) (r : Result (Option ℕ) E) → l.region ≡ true → members ≡ l.members
    → IfOk r (λ fee. (P : Program) → IsFlowOf P f → IsRegionFee P t m members fee) → IfOk r (λ fee. (P : Program) → IsFlowOf P f → IsEntryLoad P t m l fee)
to_fees f t m l members (Err e) region are h = h
to_fees f t m l members (Ok fee) region are h =
    let Q : List ℕ → Type 0 = λ us. (P : Program) → IsFlowOf P f → IsRegionFee P t m us fee in
    λ P flow. of_region P t m l fee region (subst Q are h P flow)

pub returns-then-region : goal.returns-then-region
returns-then-region c = to_fees c.args.task.now.flow c.args.task.now.timing c.args.m c.args.l.now c.members.result.now c.region_loads.result (sym c.if-region.ensures) c.members.ensures c.region_loads.ensures
