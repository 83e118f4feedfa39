use Rattle.std.proofs.Common.{◌≡◌, ◌≢◌, ℕ, ◌<◌, get_or}
use Rattle.std.specs.Prelude.{MatchOption}
use Rattle.bound_texts.proofs.sources.parts.last_colon.Given as goal

abbrev pub invariant-loop-i : goal.invariant-loop-i
invariant-loop-i l =
    MatchOption l.found ((k : ℕ) → k < l.i → get_or l.text k 0 ≢ 58)
    (λ p. (p < l.i) × (get_or l.text p 0 ≡ 58) × ((k : ℕ) → p < k → k < l.i → get_or l.text k 0 ≢ 58))
