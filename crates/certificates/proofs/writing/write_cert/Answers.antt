use Rattle.std.proofs.Common.{◌≡◌, ◌++◌, ℕ, List, ap, ◌∙◌, arith}
use Rattle.std.specs.Prelude.{flat_map}
use Rattle.certificates.specs.declared.lines.line.CertLine.TheVariants.{Version, Root, Bound}
use Rattle.certificates.specs.declared.cert.CertSection.{CertSection}
use Rattle.certificates.specs.Written.{fed, section_fed}
use Rattle.certificates.proofs.Texts.{written}
use Rattle.certificates.proofs.writing.write_cert.Goals as goal

pub returns : goal.returns
returns c =
    let version : c.from.result ≡ c.args.c.now.version = omega arith in
    let root : c.from-2.result ≡ c.args.c.now.root = omega arith in
    written c.args.c.now c.new-out.result.items c.put_line.new.out.items c.put_line-2.new.out.items c.put_sections.new.out.items c.put_bound.new.out.items
    c.new-out.ensures.items
    (c.in_ok-put_line.ensures ∙ ap (λ (n : ℕ). c.new-out.result.items ++ fed (Version n)) version)
    (c.in_ok-put_line-2.ensures ∙ ap (λ (n : ℕ). c.put_line.new.out.items ++ fed (Root n)) root)
    (c.in_ok-put_sections.ensures ∙ ap (λ (ss : List CertSection). c.put_line-2.new.out.items ++ flat_map section_fed ss) c.sections.ensures)
    (c.in_ok-put_bound.ensures ∙ ap (λ b. c.put_sections.new.out.items ++ fed (Bound b)) c.bound.ensures)
