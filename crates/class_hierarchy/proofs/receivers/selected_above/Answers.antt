use Rattle.std.proofs.Common.{sym, arith}
use Rattle.class_hierarchy.specs.Selecting.{selected_at}
use Rattle.class_hierarchy.proofs.Filled.{superclass_below}
use Rattle.class_hierarchy.proofs.Receiving.{above_some, above_none}
use Rattle.class_hierarchy.proofs.receivers.selected_above.Goals as goal

pub known_at-requires : goal.known_at-requires
known_at-requires c =
    let below = superclass_below c.args.resolved.now.classes.now c.args.class c.in-Some.upper c.in-Some.ensures in
    let long = c.requires.table in
    omega (arith, below, long)

pub returns-in-Some : goal.returns-in-Some
returns-in-Some c =
    let r = c.args.resolved.now in
    let d = c.in-Some.upper in
    above_some r.classes.now r.of_interface r.method.place c.args.class d c.known_at.result c.in-Some.ensures
    (c.known_at.ensures (selected_at r.classes.now r.of_interface r.method.place d) (c.requires.known d (sym c.in-Some.ensures)))

pub returns-in-None : goal.returns-in-None
returns-in-None c =
    let r = c.args.resolved.now in
    above_none r.classes.now r.of_interface r.method.place c.args.class c.in-None.ensures
