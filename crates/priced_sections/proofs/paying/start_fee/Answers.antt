use Rattle.std.proofs.Common.{List, sym, subst, arith}
use Rattle.section_check.specs.Section.{CertifiedLoop}
use Rattle.section_check.specs.Heading.{NoneHeads}
use Rattle.priced_sections.proofs.Headed.{no_entry_pays}
use Rattle.priced_sections.proofs.paying.start_fee.Goals as goal

pub returns-in-None-clause-value : goal.returns-in-None-clause-value
returns-in-None-clause-value c =
    let q = c.args.q.now in
    let P : List CertifiedLoop → Type 0 = λ zs. NoneHeads zs 0 in
    sym (no_entry_pays q.facts.now q.section.now.loops q.bounds.now q.loads.now 0 (subst P c.loops.ensures c.in-None.ensures))

pub returns-in-None-clause-small : goal.returns-in-None-clause-small
returns-in-None-clause-small c =
    let q = c.args.q.now in
    let P : List CertifiedLoop → Type 0 = λ zs. NoneHeads zs 0 in
    let e = no_entry_pays q.facts.now q.section.now.loops q.bounds.now q.loads.now 0 (subst P c.loops.ensures c.in-None.ensures) in
    omega arith
