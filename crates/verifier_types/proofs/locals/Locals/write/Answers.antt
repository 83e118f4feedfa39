use Rattle.verifier_types.specs.Seen.{type_seen}
use Rattle.verifier_types.proofs.TableLemmas.{list_written}
use Rattle.verifier_types.proofs.locals.Locals.write.Goals as goal

pub returns-clause-written : goal.returns-clause-written
returns-clause-written c =
    list_written c.args.lists.now c.push_with.new.self c.args.self.now.list c.in_ok-self.field-0 c.args.index (type_seen c.args.item) c.in_ok-self.ensures.list c.in_ok-self.ensures.number c.requires
