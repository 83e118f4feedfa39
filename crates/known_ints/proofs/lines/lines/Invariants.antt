use Rattle.std.proofs.Common.{◌≤◌, length}
use Rattle.known_ints.specs.Rounds.{AreLines}
use Rattle.known_ints.proofs.lines.lines.Given as goal

abbrev pub invariant-loop-place : goal.invariant-loop-place
invariant-loop-place l = AreLines l.code l.place l.lines.items

abbrev pub invariant-loop-index : goal.invariant-loop-index
invariant-loop-index l = AreLines l.code (length l.code.parts) l.lines.items × (length l.initial.lines.items ≤ length l.lines.items)
