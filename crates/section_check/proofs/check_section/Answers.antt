use Rattle.std.proofs.Common.{List, subst}
use Rattle.section_check.specs.Section.{CertifiedLoop}
use Rattle.section_check.specs.Placing.{HeadsFaulty}
use Rattle.section_check.specs.Least.{IsLeast, LeadsAside}
use Rattle.section_check.proofs.check_section.Goals as goal

pub check_further-requires-clause-faulty : goal.check_further-requires-clause-faulty
check_further-requires-clause-faulty c =
    let P : List CertifiedLoop → Type 0 = λ ls. IsLeast (HeadsFaulty ls c.args.loads.now) c.faulty_header-faulty.result in
    subst P c.loops.ensures c.faulty_header-faulty.ensures

pub check_further-requires-clause-aside : goal.check_further-requires-clause-aside
check_further-requires-clause-aside c =
    let P : List CertifiedLoop → Type 0 = λ ls. IsLeast (LeadsAside c.args.g.now ls) c.leads_aside-aside.result in
    subst P c.loops-2.ensures c.leads_aside-aside.ensures
