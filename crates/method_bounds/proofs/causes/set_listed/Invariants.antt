use Rattle.std.proofs.Common.{◌≡◌, ℕ, None, length, get_or}
use Rattle.method_bounds.proofs.causes.set_listed.Given as goal

abbrev pub invariant-loop : goal.invariant-loop
invariant-loop l = record { kept : (n : ℕ) → get_or l.lists.items n None ≡ get_or l.initial.lists.items n None; long : length l.lists.items ≡ l.counter }
