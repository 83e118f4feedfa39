use Rattle.std.proofs.Common.{ℕ, List, [], Contains, sym, subst, inl, inr}
use Rattle.std.specs.Prelude.{slice_index_or}
use Rattle.method_flow.specs.Flow.{targets_of_call}
use Rattle.method_bounds.specs.declared.causes.Leasts.{Leasts}
use Rattle.method_bounds.specs.Leasts.{AreLeasts, AreLeastsOf, IsBelow}
use Rattle.method_bounds.proofs.causes.of_call.Goals as goal

pub returns-clause-leasts : goal.returns-clause-leasts
returns-clause-leasts c = λ loops P listed known.
    let f = c.args.f.now in
    let x = c.of_targets-leasts.result in
    let targets = c.targets_of.ensures.targets in
    let M : List Leasts → ℕ → Type 0 = λ methods t. AreLeastsOf loops P methods t in
    let C : ℕ → List ℕ → Type 0 = λ t ts. Contains ts t in
    let B : List ℕ → Type 0 = λ ts. AreLeasts loops (IsBelow P ts) x in
    let are : AreLeasts loops (IsBelow P (targets_of_call f c.args.call)) x =
    subst B targets (c.of_targets-leasts.ensures loops P (λ t has. subst (λ methods. M methods t) (sym c.deref-2.ensures.value) (known t (subst (C t) targets has))))
    in (
      λ n y is.
          elim (c.in_ok-set_listed.ensures n y is) [
            | inl here ↦
                let L : ℕ → Type 0 = λ k. AreLeasts loops (IsBelow P (slice_index_or f.targets k [])) y in
                let Y : Leasts → Type 0 = λ z. AreLeasts loops (IsBelow P (targets_of_call f c.args.call)) z in
                subst L (sym here.0) (subst Y (sym here.1) are)
            | inr old ↦ listed n y old
          ],
      are,
    )
