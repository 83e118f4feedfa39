use Rattle.ascii_text.specs.Line.{lines_of}
use Rattle.certificates.proofs.LinesRead.{IsReadTo}
use Rattle.certificates.specs.Steps.{draft_of, IsReading}
use Rattle.certificates.proofs.reader.read_cert.Given as goal

abbrev pub invariant-loop-line : goal.invariant-loop-line
invariant-loop-line l = IsReadTo (lines_of l.text) l.number l.line-iterator (draft_of l.reading) × IsReading l.reading
