use Rattle.std.proofs.Common.{ℕ, List, Contains, take}
use Rattle.bytecode_model.specs.Program.{Program}
use Rattle.method_bounds.specs.declared.loops.Loops.{Loops}
use Rattle.method_bounds.specs.Leasts.{AreLeasts, AreLeastsOf, IsBelow}
use Rattle.method_bounds.proofs.causes.of_targets.Given as goal

abbrev pub invariant-loop-t : goal.invariant-loop-t
invariant-loop-t l = (loops : List Loops) (P : Program) → ((t : ℕ) → Contains l.targets t → AreLeastsOf loops P l.methods t) → AreLeasts loops (IsBelow P (take l.t-index l.targets)) l.leasts
