use Rattle.std.proofs.Common.{◌≡◌, ℕ, ◌<◌, ◌≤◌, List, length, get_or, Contains, Result, Ok, Err, is_ok, ◌↔◌, MatchResult, sym, ◌∙◌, subst, inl, inr, refl, arith, true}
use Rattle.std.specs.List.Sorted.{IsStrictlyIncreasing}
use Rattle.std.proofs.lemmas.Bool.{cases_lt, false≢true}
use Rattle.std.proofs.lemmas.List.{get_or_default}
use Rattle.std.proofs.lemmas.List.Sorted.{searched}
use Rattle.lists.specs.Members.{rising_all}
use Rattle.fact_names.proofs.places.is_start.Goals as goal

told : (xs : List ℕ) (x : ℕ) (r : Result ℕ ℕ) → MatchResult r (λ i. (i < length xs) × (get_or xs i 0 ≡ x)) (λ i. (i ≤ length xs) × ((k : ℕ) → k < i → get_or xs k 0 < x) × ((k : ℕ) → i ≤ k → k < length xs → x < get_or xs k 0)) → (is_ok r ≡ true) ↔ Contains xs x
told xs x (Ok i) h = (λ _. (i, h.0, get_or_default xs i x 0 h.0 ∙ h.1), λ _. refl)
told xs x (Err i) h = (
  λ e. absurd (false≢true e),
  λ c.
      let at = get_or_default xs c.0 0 x c.1 ∙ c.2 in
      elim (cases_lt c.0 i) [
        | inl low ↦ let p = h.1 c.0 low in absurd (omega arith)
        | inr high ↦ let p = h.2 c.0 high c.1 in absurd (omega arith)
      ],
)

pub returns : goal.returns
returns c =
    let xs = c.args.starts.now in
    let x = c.args.place in
    let rising = subst (λ (l : List ℕ). IsStrictlyIncreasing l) (sym c.requires) (c.starts_follow_one_another.ensures c.args.code.now).rising in
    let all = told xs x c.binary_search.result (searched xs x c.binary_search.result c.binary_search.ensures.position (rising_all xs rising)) in (
      λ t. subst (λ (l : List ℕ). Contains l x) c.requires (all.0 (sym c.is_ok.ensures.value ∙ t)),
      λ has. c.is_ok.ensures.value ∙ all.1 (subst (λ (l : List ℕ). Contains l x) (sym c.requires) has),
    )
