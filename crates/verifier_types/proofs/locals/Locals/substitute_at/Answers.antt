use Rattle.verifier_types.specs.Seen.{type_seen}
use Rattle.verifier_types.specs.Locals.{lists_seen, locals_seen}
use Rattle.verifier_types.proofs.NumberLemmas.{on_ok}
use Rattle.verifier_types.proofs.TableLemmas.{is_there}
use Rattle.verifier_types.proofs.SubstitutedLemmas.{substituted_at, none_at}
use Rattle.verifier_types.proofs.locals.Locals.substitute_at.Goals as goal

pub write-requires : goal.write-requires
write-requires c = is_there (locals_seen (lists_seen c.args.lists.now) c.args.self.now) c.args.index (type_seen c.in-Some.item) c.in-Some.ensures

pub returns-in-Some-clause-substituted : goal.returns-in-Some-clause-substituted
returns-in-Some-clause-substituted c =
    on_ok c.write.result _ _
    (λ h. substituted_at (locals_seen (lists_seen c.args.lists.now) c.args.self.now) (locals_seen (lists_seen c.write.new.lists) c.write.new.self) c.args.index (type_seen c.args.old) (type_seen c.args.new) (type_seen c.in-Some.item) (type_seen c.substituted.result)
    h c.in-Some.ensures c.substituted.ensures)
    c.write.ensures.written

pub returns-in-None-clause-substituted : goal.returns-in-None-clause-substituted
returns-in-None-clause-substituted c = none_at (locals_seen (lists_seen c.args.lists.now) c.args.self.now) c.args.index (type_seen c.args.old) (type_seen c.args.new) c.in-None.ensures
