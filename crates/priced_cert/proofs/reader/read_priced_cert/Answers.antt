use Rattle.std.proofs.Common.{◌≡◌, ℕ, List, sym, subst, rules}
use Rattle.ascii_text.specs.Line.{lines_of as text_lines}
use Rattle.certificates.specs.declared.reader.CertFault.TheVariants as faults
use Rattle.certificates.specs.Texts.{AreLinesOf, IsFirstRefusedLine}
use Rattle.certificates.specs.Refused.{IsRefused}
use Rattle.priced_cert.specs.Certificate.{PricedCertificate}
use Rattle.priced_cert.specs.Texts.{ArePricedLinesOf, IsFirstUnpricedLine}
use Rattle.priced_cert.proofs.FrontLemmas.{read_whole, read_stopped, read_refused}
use Rattle.priced_cert.proofs.reader.read_priced_cert.Goals as goal

pub returns-in-Ok-clause-read : goal.returns-in-Ok-clause-read
returns-in-Ok-clause-read c =
    subst (λ (z : PricedCertificate). ArePricedLinesOf (text_lines c.args.text.now) z) (sym c.into_cert.ensures)
    (read_whole c.args.text.now c.in_ok-front.front c.in_ok-front.ensures (search rules) c.in-Ok.plain
    (subst (λ (t : List ℕ). AreLinesOf (text_lines t) c.in-Ok.plain) c.as_slice.ensures.value c.in-Ok.ensures.read))

pub returns-in-Ok-2-clause-refused : goal.returns-in-Ok-2-clause-refused
returns-in-Ok-2-clause-refused c =
    read_stopped c.args.text.now c.in_ok-front.front c.in_ok-front.ensures (search rules) c.in-Ok.plain
    (subst (λ (t : List ℕ). AreLinesOf (text_lines t) c.in-Ok.plain) c.as_slice.ensures.value c.in-Ok.ensures.read)

pub returns-in-Err-Line-clause-refused : goal.returns-in-Err-Line-clause-refused
returns-in-Err-Line-clause-refused c =
    let fault : c.in-Err-Line.field-0 ≡ faults.Line c.in-Err-Line.n = search rules in
    let refused : IsFirstRefusedLine (text_lines c.as_slice.result.now) c.in-Err-Line.n = subst (IsRefused c.as_slice.result.now) fault c.in-Err-Line.ensures.refused in
    subst (IsFirstUnpricedLine (text_lines c.args.text.now)) (sym c.plain_number.ensures)
    (read_refused c.args.text.now c.in_ok-front.front c.in_ok-front.ensures c.in-Err-Line.n
    (subst (λ (t : List ℕ). IsFirstRefusedLine (text_lines t) c.in-Err-Line.n) c.as_slice.ensures.value refused))
