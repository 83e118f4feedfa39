use Rattle.std.proofs.Common.{ℕ, List, Contains}
use Rattle.source_headers.specs.Gathered.{AreBelow, IsFileAt}
use Rattle.source_headers.proofs.gathering.files_of.Given as goal

abbrev pub invariant-loop-number : goal.invariant-loop-number
invariant-loop-number l = record {
  names : AreBelow (IsFileAt l.program) l.number l.files.names;
  sites : (s : List ℕ × ℕ) → ¬ Contains l.files.sites s;
}
