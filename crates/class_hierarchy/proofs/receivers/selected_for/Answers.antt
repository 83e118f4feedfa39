use Rattle.class_hierarchy.proofs.Receiving.{at_declared, at_other}
use Rattle.class_hierarchy.proofs.receivers.selected_for.Goals as goal

pub returns-in-Some : goal.returns-in-Some
returns-in-Some c =
    let r = c.args.resolved.now in
    at_declared r.classes.now c.requires.acyclic r.of_interface r.method.place c.args.class c.in-Some.place c.selected_above-above.result c.with_method.result c.in-Some.ensures c.selected_above-above.ensures
    c.with_method.ensures

pub returns-in-None : goal.returns-in-None
returns-in-None c =
    let r = c.args.resolved.now in
    at_other r.classes.now c.requires.acyclic r.of_interface r.method.place c.args.class c.selected_above-above.result c.in-None.ensures c.selected_above-above.ensures
