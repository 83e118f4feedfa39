use Rattle.class_hierarchy.proofs.EarlyLemmas.{at_decided}
use Rattle.class_hierarchy.proofs.receivers.decided.Goals as goal

pub returns-then-is_deciding : goal.returns-then-is_deciding
returns-then-is_deciding c =
    let r = c.args.resolved.now in
    at_decided r.classes.now c.requires.chains.acyclic r.of_interface r.method.place c.args.class c.in-Some.place c.in-Some.ensures c.requires.early (c.is_deciding.ensures c.if-is_deciding.true)
