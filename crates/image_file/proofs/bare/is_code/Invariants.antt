use Rattle.std.proofs.Common.{◌≡◌, ◌≤◌, length}
use Rattle.image_file.specs.Scan.{scan}
use Rattle.image_file.proofs.bare.is_code.Given as goal

abbrev pub invariant-loop-rest : goal.invariant-loop-rest
invariant-loop-rest l = record {
  scanned : scan l.max_locals l.max_stack l.depth l.behind l.rest ≡ scan l.max_locals l.max_stack 0 0 l.code;
  depth : l.depth ≤ l.max_stack;
}

abbrev pub decreases-loop-rest : goal.decreases-loop-rest
decreases-loop-rest l = length l.rest
