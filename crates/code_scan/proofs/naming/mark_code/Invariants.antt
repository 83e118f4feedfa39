use Rattle.code_scan.specs.Marks.{Marks}
use Rattle.code_scan.proofs.Marking.{Upto, NamesAt}
use Rattle.code_scan.proofs.naming.mark_code.Given as goal

abbrev pub invariant-loop-place : goal.invariant-loop-place
invariant-loop-place l = Marks l.fn.marks.items l.marks.items (Upto (NamesAt l.code l.starts) l.place-index)
