use Rattle.std.proofs.Common.{List, ap, ◌∙◌, subst}
use Rattle.class_pool.specs.declared.class.ClassFile.{ClassFile}
use Rattle.class_lookup.specs.Hierarchy.{IsAcyclic}
use Rattle.program_tables.specs.Entries.{method_found}
use Rattle.resolved_program.proofs.MeaningLemmas.{found_there}
use Rattle.resolved_program.proofs.program.Program.method_found.Goals as goal

pub returns-clause-there : goal.returns-clause-there
returns-clause-there c =
    let k = c.class.result.now in
    let acyclic = subst IsAcyclic c.hierarchy.ensures c.is_without_cycle.ensures in
    let found = c.method_found.ensures ∙ ap (λ (cs : List ClassFile). method_found cs k c.args.owner c.args.member) c.hierarchy-2.ensures in
    found_there c.members_are_found_above.ensures.methods c.args.self.now acyclic k c.args.owner c.args.member c.method_found.result found
