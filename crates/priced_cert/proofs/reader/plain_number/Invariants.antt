use Rattle.ascii_text.specs.Line.{lines_of}
use Rattle.priced_cert.proofs.LoopLemmas.{IsCountedTo}
use Rattle.priced_cert.proofs.reader.plain_number.Given as goal

abbrev pub invariant-loop-line : goal.invariant-loop-line
invariant-loop-line l = IsCountedTo (lines_of l.text) l.n l.next l.number l.left l.line-iterator
