-- What fits the cache together is charged its loads.
use Rattle.std.proofs.Common.{◌≡◌, ℕ, List, Some, None, refl, ap, ◌∙◌, subst}
use Rattle.call_regions.specs.Regions.{IsFittingRegion}
use Rattle.bytecode_model.specs.Program.{Program}
use Rattle.method_flow.specs.Regions.{AreMethodsOf, Fit, IsWithin, IsWithinNodes, loads}
use Rattle.method_flow.specs.declared.timing.Timing.{Timing}
use Rattle.cert_checker.specs.declared.task.Fit.TheVariants as answers
use Rattle.cert_checker.specs.Setting.{IsFit, IsRegionFee}
use Rattle.cert_checker.specs.Setting.IsFit.{fits, exceeds}
use Rattle.cert_checker.specs.Setting.IsRegionFee.{fits as pays, exceeds as pays_none}

pub fit_of_region : (P : Program) (t : Timing) (m : ℕ) (xs ys : List ℕ) (cycles : ℕ) → ys ≡ xs → cycles ≡ loads P t.read ys → IsFittingRegion P t.blocks t.block_words (IsWithin P m) xs → IsFit P t m (answers.Fits cycles)
fit_of_region P t m xs ys cycles same is region =
    fits (record { methods = xs; are = region.methods; fit = region.fit }) (ap answers.Fits (is ∙ ap (loads P t.read) same))

pub no_fit : (P : Program) (t : Timing) (m : ℕ) → ((xs : List ℕ) → AreMethodsOf (IsWithin P m) xs → Fit P t.blocks t.block_words xs → ⊥) → IsFit P t m answers.Exceeds
no_fit P t m none = exceeds (λ together. none together.methods together.are together.fit) refl

pub fee_of_region : (P : Program) (t u : Timing) (m : ℕ) (members xs ys : List ℕ) (cycles : ℕ) → u ≡ t → ys ≡ xs → cycles ≡ loads P u.read ys → IsFittingRegion P u.blocks u.block_words (IsWithinNodes P m members) xs
    → IsRegionFee P t m members (Some cycles)
fee_of_region P t u m members xs ys cycles timing same is region =
    let Q : Timing → Type 0 = λ v. IsRegionFee P v m members (Some cycles) in
    subst Q timing (pays (record { methods = xs; are = region.methods; fit = region.fit }) (ap Some (is ∙ ap (loads P u.read) same)))

pub no_fee : (P : Program) (t u : Timing) (m : ℕ) (members : List ℕ) → u ≡ t → ((xs : List ℕ) → AreMethodsOf (IsWithinNodes P m members) xs → Fit P u.blocks u.block_words xs → ⊥) → IsRegionFee P t m members None
no_fee P t u m members timing none =
    let Q : Timing → Type 0 = λ v. IsRegionFee P v m members None in
    subst Q timing (pays_none (λ together. none together.methods together.are together.fit) refl)
