use Rattle.std.proofs.Common.{ℕ, ◌<◌}
use Rattle.program_tables.specs.Resolved.{resolved}
use Rattle.jopizer.specs.Methods.Fitting.{MethodFits}
use Rattle.jopizer.proofs.methods.fitting.first_too_long.Given as goal

abbrev pub invariant-loop-number : goal.invariant-loop-number
invariant-loop-number l = (m : ℕ) → m < l.number → MethodFits (resolved l.program) l.blocks l.block_words m
