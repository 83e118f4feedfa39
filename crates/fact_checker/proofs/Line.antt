-- The last line is right just where it is the number of the root with what stands around it.
use Rattle.std.proofs.Common.{◌≡◌, ℕ, ◌+◌, ◌<◌, ◌≤◌, ◌^◌, ◌↔◌, Option, Some, None, refl, sym, ap, ap₂, ◌∙◌, subst, arith}
use Rattle.std.specs.Prelude.{option_map, unwrap_or, IfSome}
use Rattle.bytecode_model.specs.Program.{Program}
use Rattle.method_flow.specs.Costs.{params}
use Rattle.method_flow.specs.declared.timing.Timing.{Timing}
use Rattle.bound_rules.specs.Told.{most_cycles}
use Rattle.fact_rules.specs.Conditions.{IsPricedRight}
use Rattle.fact_rules.proofs.Lines.{same_invoke, same_back}
use Rattle.fact_checker.specs.Section.{IsAround}

put_around : (full : Option ℕ) (invoke due back around : ℕ) → around ≡ invoke + due + back → option_map (λ n. n + around) full ≡ option_map (λ n. invoke + (n + due) + back) full
put_around None invoke due back around is = refl
put_around (Some n) invoke due back around is = let e : n + around ≡ invoke + (n + due) + back = omega arith in ap Some e

pub line_is_right : (P : Program) (t : Timing) (root due around : ℕ) (full bound : Option ℕ) → IsAround P t root due around → IfSome bound (λ b. b < 2 ^ 64)
    → (bound ≡ option_map (λ n. n + around) full) ↔ IsPricedRight P t root due full bound
line_is_right P t root due around full bound a small = (
  λ is. record {
    line = record { invoke = a.invoke; is_invoke = a.is_invoke; back = a.back; is_back = a.is_back; is = is ∙ put_around full a.invoke due a.back around a.is };
    small = within bound small;
  },
  λ right.
      let invokes = same_invoke (params t 0 0) right.line.invoke a.invoke right.line.is_invoke a.is_invoke in
      let loads = same_back P t.read root right.line.back a.back right.line.is_back a.is_back in
      right.line.is ∙ (ap₂ (λ (i l : ℕ). option_map (λ n. i + (n + due) + l) full) invokes loads ∙ sym (put_around full a.invoke due a.back around a.is)),
)
  where
    within : (o : Option ℕ) → IfSome o (λ b. b < 2 ^ 64) → unwrap_or o 0 ≤ most_cycles
    within None h = omega arith
    within (Some b) h = omega arith

-- by the root, the dues and the bound that are at hand
pub line_at : (P : Program) (t : Timing) (root root' due due' around : ℕ) (full bound bound' : Option ℕ) → root ≡ root' → due ≡ due' → bound ≡ bound' → IsAround P t root due around
    → IfSome bound (λ b. b < 2 ^ 64) → (bound ≡ option_map (λ n. n + around) full) ↔ IsPricedRight P t root' due' full bound'
line_at P t root root' due due' around full bound bound' same_root same_due same_bound a small =
    let D : ℕ → Type 0 = λ d. (bound ≡ option_map (λ n. n + around) full) ↔ IsPricedRight P t root d full bound in
    let R : ℕ → Type 0 = λ r. (bound ≡ option_map (λ n. n + around) full) ↔ IsPricedRight P t r due' full bound in
    let B : Option ℕ → Type 0 = λ b. (bound ≡ option_map (λ n. n + around) full) ↔ IsPricedRight P t root' due' full b in
    subst B same_bound (subst R same_root (subst D same_due (line_is_right P t root due around full bound a small)))
