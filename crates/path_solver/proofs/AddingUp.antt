-- Worths added up around each node, loop by loop.
use Rattle.std.proofs.Common.{◌≡◌, ℕ, ◌+◌, ◌^◌, ◌<◌, ◌≤◌, ◌↔◌, Bool, true, false, cond, List, [], ◌∷◌, ◌++◌, length, get_or, IsTrue, refl, sym, ap, ◌∙◌, inl, inr, arith}
use Rattle.std.specs.Bool.{MatchBool}
use Rattle.std.specs.List.{HoldsAt, AllWithin}
use Rattle.std.proofs.lemmas.Bool.{cases_Bool, both_ways}
use Rattle.loop_nest.specs.Nest.{NaturalLoop}
use Rattle.section_check.specs.Bounded.{holds}
use Rattle.section_check.proofs.Elements.{contains_from_holds, holds_from_contains}
use Rattle.path_solver.specs.Distances.{limited, AreLimited}
use Rattle.path_solver.specs.Totals.{AreIterationsAdded, iteration_costs_around, SomeIterationsExceed}

-- for each of n nodes, what iterations of the loops that hold it cost at most together
pub record AreTotals (loops : List NaturalLoop) (iteration_costs : List ℕ) (n : ℕ) (totals : List ℕ) : Type 0 where
  pub long : length totals ≡ n
  pub limited_totals : AreLimited totals
  pub each : (u : ℕ) → u < n → get_or totals u 0 ≡ limited (iteration_costs_around loops iteration_costs u)

abbrev share : NaturalLoop → ℕ → ℕ → ℕ
share l iteration_cost u = cond (holds l.members u) iteration_cost 0

around_push : (ls : List NaturalLoop) (ws : List ℕ) (l : NaturalLoop) (iteration_cost u : ℕ) → length ws ≡ length ls → iteration_costs_around (ls ++ l ∷ []) (ws ++ iteration_cost ∷ []) u ≡ iteration_costs_around ls ws u + share l iteration_cost u
around_push [] [] l iteration_cost u same = omega arith
around_push [] (w ∷ ws) l iteration_cost u same = absurd (omega arith)
around_push (k ∷ ks) [] l iteration_cost u same = absurd (omega arith)
around_push (k ∷ ks) (w ∷ ws) l iteration_cost u same = let rest = around_push ks ws l iteration_cost u (omega arith) in omega arith

twice : (a b : ℕ) → limited (limited a + b) ≡ limited (a + b)
twice a b = omega arith

pub totals_push : (ls : List NaturalLoop) (ws : List ℕ) (n : ℕ) (old new : List ℕ) (l : NaturalLoop) (iteration_cost : ℕ) → length ws ≡ length ls → AreTotals ls ws n old → AreIterationsAdded l.members iteration_cost old new → AreTotals (ls ++ l ∷ []) (ws ++ iteration_cost ∷ []) n new
totals_push ls ws n old new l iteration_cost same h added = record {
  long = added.long ∙ h.long;
  limited_totals = added.limited;
  each = λ u lt.
      let before = h.each u lt in
      let more = around_push ls ws l iteration_cost u same in
      elim (cases_Bool (holds l.members u)) [
        | inl inside ↦
            let here : share l iteration_cost u ≡ iteration_cost = ap (λ (b : Bool). cond b iteration_cost 0) inside in
            let now = added.inside u (contains_from_holds l.members u inside) in
            let sum = twice (iteration_costs_around ls ws u) iteration_cost in
            let whole : iteration_costs_around (ls ++ l ∷ []) (ws ++ iteration_cost ∷ []) u ≡ iteration_costs_around ls ws u + iteration_cost = omega arith in
            now ∙ ap (λ (d : ℕ). limited (d + iteration_cost)) before ∙ sum ∙ ap limited (sym whole)
        | inr outside ↦
            let here : share l iteration_cost u ≡ 0 = ap (λ (b : Bool). cond b iteration_cost 0) outside in
            let now = added.outside u (λ has. both_ways (holds l.members u) outside (holds_from_contains l.members u has)) in
            let whole : iteration_costs_around (ls ++ l ∷ []) (ws ++ iteration_cost ∷ []) u ≡ iteration_costs_around ls ws u = omega arith in
            now ∙ before ∙ ap limited (sym whole)
      ];
}

-- whether some total exceeds tells whether iterations do
pub some_exceed : (loops : List NaturalLoop) (iteration_costs : List ℕ) (n : ℕ) (totals : List ℕ) (r : Bool) → AreTotals loops iteration_costs n totals → MatchBool r ((k : ℕ) × (k < length totals) × HoldsAt (λ d. 2 ^ 64 ≤ d) totals k) (AllWithin (λ d. d < 2 ^ 64) totals 0 (length totals)) → IsTrue r ↔ SomeIterationsExceed loops iteration_costs n
some_exceed loops iteration_costs n totals true h found = (
  λ t.
      let k = found.0 in
      let at = found.1 in
      let high = found.2 0 in
      let long = h.long in
      let below : k < n = omega arith in
      let is = h.each k below in
      record { node = k; below = below; exceeds = omega arith },
  λ some. refl,
)
some_exceed loops iteration_costs n totals false h none = (
  λ t. let bad : ⊥ = cc in absurd bad,
  λ some.
      let lt = some.below in
      let high = some.exceeds in
      let long = h.long in
      let is = h.each some.node lt in
      let low = none some.node 0 (omega arith) (omega arith) in
      absurd (omega arith),
)
