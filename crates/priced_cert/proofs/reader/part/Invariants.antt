use Rattle.ascii_text.specs.Line.{lines_of}
use Rattle.priced_cert.proofs.LoopLemmas.{IsPartedTo}
use Rattle.priced_cert.proofs.reader.part.Given as goal

abbrev pub invariant-loop-line : goal.invariant-loop-line
invariant-loop-line l = IsPartedTo (lines_of l.text) l.next l.line-iterator l.parting
