use Rattle.std.proofs.Common.{◌≡◌, ℕ, false, length, get_or}
use Rattle.method_bounds.proofs.walk.set_walked.Given as goal

abbrev pub invariant-loop : goal.invariant-loop
invariant-loop l = record { kept : (n : ℕ) → get_or l.walked.items n false ≡ get_or l.initial.walked.items n false; long : length l.walked.items ≡ l.counter }
