use Rattle.code_scan.specs.Marks.{Marks}
use Rattle.code_scan.specs.Naming.{case_places}
use Rattle.code_scan.proofs.Marking.{Upto, IsAt}
use Rattle.code_scan.proofs.naming.mark_cases.Given as goal

abbrev pub invariant-loop-index : goal.invariant-loop-index
invariant-loop-index l = Marks l.fn.marks.items l.marks.items (Upto (IsAt (case_places l.code l.pc l.instr)) l.index)
