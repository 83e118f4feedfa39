use Rattle.std.proofs.Common.{ℕ, ◌<◌, ◌^◌, ℤ, get_or}
use Rattle.section_check.specs.Section.{IsPotential}
use Rattle.fact_bound.proofs.grammar.are_potentials.Given as goal

abbrev pub invariant-loop-i : goal.invariant-loop-i
invariant-loop-i l = record {
  places : (k : ℕ) (d : ℕ × ℤ) → k < l.i → (get_or l.nodes k d).0 < 2 ^ 32;
  potentials : (k : ℕ) (d : ℕ × ℤ) → k < l.i → IsPotential (get_or l.nodes k d).1;
}
