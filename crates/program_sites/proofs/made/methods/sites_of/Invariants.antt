use Rattle.std.proofs.Common.{◌≡◌, ℕ, length, Some}
use Rattle.std.specs.Prelude.{slice_get}
use Rattle.program_tables.specs.Resolved.{resolved}
use Rattle.memory_rules.specs.Sites.{MethodNeeds, AreNeedsOf}
use Rattle.program_sites.proofs.made.methods.sites_of.Given as goal

abbrev pub invariant-loop-m : goal.invariant-loop-m
invariant-loop-m l = (length l.methods.items ≡ l.m) × ((i : ℕ) (k : MethodNeeds) → slice_get l.methods.items i ≡ Some k → AreNeedsOf (resolved l.program) i k)
