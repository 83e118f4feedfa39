use Rattle.std.proofs.Common.{Option, subst}
use Rattle.certificates.specs.declared.lines.line.CertLine.{CertLine}
use Rattle.certificates.specs.Finding.{Finds}
use Rattle.certificates.specs.CertLines.{line_text, IsLineInRange}
use Rattle.certificates.specs.Steps.{draft_of}
use Rattle.certificates.proofs.Next.{said_step}
use Rattle.certificates.proofs.reader.reading.Reading.next.Goals as goal

pub returns-in-Some : goal.returns-in-Some
returns-in-Some c =
    let found = subst (λ (o : Option CertLine). Finds line_text IsLineInRange c.args.line.now o) c.in-Some.is c.in_ok-said.ensures in
    said_step (draft_of c.args.self) c.args.line.now c.in-Some.said found.0 found.1 c.add.result c.add.ensures
