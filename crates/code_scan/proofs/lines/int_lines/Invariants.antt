use Rattle.code_scan.proofs.Listing.{AreFirst}
use Rattle.code_scan.proofs.lines.int_lines.Given as goal

abbrev pub invariant-loop-place : goal.invariant-loop-place
invariant-loop-place l = AreFirst l.method l.place-items l.place-index l.lines.items
