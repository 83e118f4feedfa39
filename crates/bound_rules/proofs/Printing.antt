-- That what is printed of a method is told by its number with all loads.
use Rattle.std.proofs.Common.{◌≡◌, ℕ, ◌+◌, arith, ap₂, ◌∙◌, sym}
use Rattle.std.specs.Prelude.{option_map}
use Rattle.micro_flow.specs.declared.CostParams.{CostParams}
use Rattle.micro_flow.specs.Costs.{IsGreatestInvoke}
use Rattle.bytecode_model.specs.Program.{Program}
use Rattle.method_flow.specs.Regions.{IsGreatestLoad}
use Rattle.method_flow.specs.Costs.{params}
use Rattle.bound_rules.specs.Laws.{PrintedIsTold}

pub same_invoke : (p : CostParams) (a b : ℕ) → IsGreatestInvoke p a → IsGreatestInvoke p b → a ≡ b
same_invoke p a b x y =
    let up = x.greatest y.op b y.invoke y.is in
    let down = y.greatest x.op a x.invoke x.is in
    omega (arith, up, down)

pub same_load : (P : Program) (r a b : ℕ) → IsGreatestLoad P r a → IsGreatestLoad P r b → a ≡ b
same_load P r a b x y =
    let up = x.greatest y.method y.coded in
    let down = y.greatest x.method x.coded in
    omega (arith, up, down, x.attained, y.attained)

pub printed_is_told : PrintedIsTold
printed_is_told P t full a b x y =
    let invokes = same_invoke (params t 0 0) x.invoke y.invoke x.is_invoke y.is_invoke in
    let loads = same_load P t.read x.greatest_load y.greatest_load x.is_load y.is_load in
    x.is ∙ (ap₂ (λ (i l : ℕ). option_map (λ n. i + n + l) full) invokes loads ∙ sym y.is)
