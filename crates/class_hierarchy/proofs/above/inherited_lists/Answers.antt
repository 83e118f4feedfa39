use Rattle.std.proofs.Common.{◌++◌, [], List, ℕ, replicate, length, get_or, ap, ◌∙◌, arith}
use Rattle.std.specs.Option.{option_map_or}
use Rattle.std.specs.List.{flat_map}
use Rattle.class_lookup.specs.Hierarchy.{superclass, superinterfaces}
use Rattle.number_sets.specs.Numbers.{entry}
use Rattle.lists.proofs.Among.{among_at}
use Rattle.lists.proofs.Tables.{same_along}
use Rattle.class_hierarchy.proofs.Filled.{AreInherited, filled_none, filled_more, filled_all, inherited_list}
use Rattle.class_hierarchy.proofs.above.inherited_lists.Goals as goal

pub loop-class-init : goal.loop-class-init
loop-class-init c = filled_none (AreInherited c.args.classes.now) (length c.args.classes.now) c.in_ok-table.table.items (c.in_ok-table.ensures ∙ ap (λ n. replicate {A = List ℕ} n []) c.class_count.ensures)

pub inherited_list-requires-clause-class : goal.inherited_list-requires-clause-class
inherited_list-requires-clause-class c = c.requires.order.below (get_or c.args.order.now c.loop-class.class-index 0) (among_at c.args.order.now c.loop-class.class-index c.loop-class-test.true)

pub index_mut-requires : goal.index_mut-requires
index_mut-requires c =
    let below = c.requires.order.below (get_or c.args.order.now c.loop-class.class-index 0) (among_at c.args.order.now c.loop-class.class-index c.loop-class-test.true) in
    let long = c.loop-class.invariant.long in
    omega (arith, below, long)

pub loop-class-preserved : goal.loop-class-preserved
loop-class-preserved c =
    let cs = c.args.classes.now in
    let order = c.args.order.now in
    let i = c.loop-class.class-index in
    let n = get_or order i 0 in
    let table = c.loop-class.table.items in
    let below = c.requires.order.below n (among_at order i c.loop-class-test.true) in
    let base = flat_map (entry c.args.interfaces.now) (superinterfaces cs n) in
    let h = same_along c.in_ok-set.set (base ++ option_map_or (entry c.deref.result.now) (superclass cs n) []) (base ++ option_map_or (entry table) (superclass cs n) []) c.in_ok-set.ensures
    (ap (λ (t : List (List ℕ)). base ++ option_map_or (entry t) (superclass cs n) []) c.deref.ensures.value) in
    filled_more (AreInherited cs) (length cs) order i table c.in_ok-set.set c.loop-class-test.true below c.loop-class.invariant
    (inherited_list cs c.requires.acyclic order c.requires.order c.args.interfaces.now c.requires.interfaces i table c.loop-class-test.true c.loop-class.invariant c.in_ok-set.set h)

pub returns-clause-inherited : goal.returns-clause-inherited
returns-clause-inherited c = filled_all (AreInherited c.args.classes.now) (length c.args.classes.now) c.args.order.now c.loop-class.class-index c.loop-class.table.items c.loop-class-test.false c.requires.order.all c.loop-class.invariant
