-- What may run together, by what is answered of it.
use Rattle.std.proofs.Common.{◌≡◌, ℕ, true, false, List, Some, None, refl, ap, ◌∙◌, subst}
use Rattle.call_regions.specs.Regions.{IsFittingRegion}
use Rattle.bytecode_model.specs.Program.{Program}
use Rattle.method_flow.specs.Regions.{AreMethodsOf, Fit, IsWithin, IsWithinNodes, load, loads}
use Rattle.method_flow.specs.declared.timing.Timing.{Timing}
use Rattle.bound_rules.specs.Numbers.{HasCall}
use Rattle.bound_finder.specs.Found.{IsFitOf}
use Rattle.bound_finder.specs.Found.IsFitOf.{fits, exceeds}
use Rattle.bound_finder.specs.Prepared.{IsCandidate}
use Rattle.bound_finder.specs.Prepared.IsCandidate.{joined, exceeds as passes}

module _ (P : Program) (t u : Timing) (m : ℕ) (timing : u ≡ t) where
  pub fits_of_region : (xs ys : List ℕ) (cycles : ℕ) → ys ≡ xs → cycles ≡ loads P u.read ys → IsFittingRegion P u.blocks u.block_words (IsWithin P m) xs → IsFitOf P t m (record { fits = true; more = cycles })
  fits_of_region xs ys cycles same is region =
      let Q : Timing → Type 0 = λ v. IsFitOf P v m (record { fits = true; more = cycles }) in
      subst Q timing (fits refl (record { methods = xs; are = region.methods; fit = region.fit }) (is ∙ ap (loads P u.read) same))

  pub no_fit : (cycles : ℕ) → cycles ≡ load P u.read m → ((xs : List ℕ) → AreMethodsOf (IsWithin P m) xs → Fit P u.blocks u.block_words xs → ⊥) → IsFitOf P t m (record { fits = false; more = cycles })
  no_fit cycles is none =
      let Q : Timing → Type 0 = λ v. IsFitOf P v m (record { fits = false; more = cycles }) in
      subst Q timing (exceeds refl (λ together. none together.methods together.are together.fit) is)

  module _ (members : List ℕ) where
    pub joined_region : (xs ys : List ℕ) (cycles : ℕ) → ys ≡ xs → cycles ≡ loads P u.read ys → HasCall P m members → IsFittingRegion P u.blocks u.block_words (IsWithinNodes P m members) xs
        → IsCandidate P t m members (Some cycles)
    joined_region xs ys cycles same is call region =
        let Q : Timing → Type 0 = λ v. IsCandidate P v m members (Some cycles) in
        subst Q timing (joined call (record { methods = xs; are = region.methods; fit = region.fit }) (ap Some (is ∙ ap (loads P u.read) same)))

    pub no_region : ((xs : List ℕ) → AreMethodsOf (IsWithinNodes P m members) xs → Fit P u.blocks u.block_words xs → ⊥) → IsCandidate P t m members None
    no_region none =
        let Q : Timing → Type 0 = λ v. IsCandidate P v m members None in
        subst Q timing (passes (λ together. none together.methods together.are together.fit) refl)
