use Rattle.std.proofs.Common.{◌≡◌, ℕ, ◌+◌, List, length, Some, sym, ap, ◌∙◌, subst, inl, inr}
use Rattle.std.specs.Prelude.{slice_get}
use Rattle.std.proofs.lemmas.List.{length_push}
use Rattle.cert_checker.specs.declared.task.Fit.{Fit}
use Rattle.cert_checker.specs.Setting.{IsFit}
use Rattle.cert_checker.proofs.Pushing.{push_cases}
use Rattle.cert_checker.proofs.task.fits.Goals as goal

pub loop-m-preserved : goal.loop-m-preserved
loop-m-preserved c =
    let old = c.loop-m.fits.items in
    let fit : Fit = c.in_ok-fit_of.field-0 in
    let t = c.args.t in
    let long = c.loop-m.invariant.long in
    record {
      long = ap length c.in_ok-push.ensures.items ∙ length_push old fit ∙ ap (λ (n : ℕ). n + 1) long;
      each =
          λ P flow m k at.
          let Q : List Fit → Type 0 = λ ks. slice_get ks m ≡ Some k in
          elim (push_cases old fit k m (subst Q c.in_ok-push.ensures.items at)) [
            | inl before ↦ c.loop-m.invariant.each P flow m k before
            | inr new ↦
                let here : c.loop-m.m ≡ m = sym long ∙ sym new.0 in
                let R : ℕ → Type 0 = λ n. IsFit P t n k in
                let S : Fit → Type 0 = λ x. IsFit P t c.loop-m.m x in
                subst R here (subst S new.1 (c.in_ok-fit_of.ensures P flow))
          ];
    }
