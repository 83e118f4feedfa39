use Rattle.std.proofs.Common.{ℕ, ◌<◌, ◌≤◌, length}
use Rattle.std.specs.Prelude.{slice_get, IfSome}
use Rattle.class_lookup.specs.Parts.{name_of}
use Rattle.refusal_lines.proofs.room.longest_name.Given as goal

abbrev pub invariant-loop-number : goal.invariant-loop-number
invariant-loop-number l = (c : ℕ) → c < l.number → IfSome (slice_get l.program c) (λ k. length (name_of k) ≤ l.longest)
