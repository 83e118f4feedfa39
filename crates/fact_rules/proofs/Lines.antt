-- The last line of a certificate with prices is told by the number of the root.
use Rattle.std.proofs.Common.{◌≡◌, ℕ, ◌+◌, ◌≤◌, arith, ap₂, ◌∙◌, sym}
use Rattle.std.specs.Prelude.{option_map}
use Rattle.micro_flow.specs.declared.CostParams.{CostParams}
use Rattle.micro_flow.specs.Costs.{IsGreatestInvoke}
use Rattle.bytecode_model.specs.Program.{Program}
use Rattle.method_flow.specs.Costs.{params}
use Rattle.method_flow.specs.Regions.{load}
use Rattle.fact_rules.specs.Conditions.{IsCallersLoad}
use Rattle.fact_rules.specs.Conditions.IsCallersLoad.{none, greatest}
use Rattle.fact_rules.specs.Laws.{PricedLineIsTold}

pub same_invoke : (p : CostParams) (a b : ℕ) → IsGreatestInvoke p a → IsGreatestInvoke p b → a ≡ b
same_invoke p a b x y =
    let up = x.greatest y.op b y.invoke y.is in
    let down = y.greatest x.op a x.invoke x.is in
    omega (arith, up, down)

pub same_back : (P : Program) (r root a b : ℕ) → IsCallersLoad P r root a → IsCallersLoad P r root b → a ≡ b
same_back P r root a b (none is never) (none is' never') = is ∙ sym is'
same_back P r root a b (none is never) (greatest m calls is' most) = absurd (never m calls)
same_back P r root a b (greatest m calls is most) (none is' never) = absurd (never m calls)
same_back P r root a b (greatest m calls is most) (greatest m' calls' is' most') =
    let up : load P r m' ≤ a = most m' calls' in
    let down : load P r m ≤ b = most' m calls in
    omega (arith, up, down, is, is')

pub priced_line_is_told : PricedLineIsTold
priced_line_is_told P t root due full a b x y =
    let invokes = same_invoke (params t 0 0) x.line.invoke y.line.invoke x.line.is_invoke y.line.is_invoke in
    let loads = same_back P t.read root x.line.back y.line.back x.line.is_back y.line.is_back in
    x.line.is ∙ (ap₂ (λ (i l : ℕ). option_map (λ n. i + (n + due) + l) full) invokes loads ∙ sym y.line.is)
