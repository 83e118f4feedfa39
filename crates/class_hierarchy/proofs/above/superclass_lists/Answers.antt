use Rattle.std.proofs.Common.{◌∷◌, [], List, ℕ, replicate, length, get_or, ap, ◌∙◌, arith}
use Rattle.std.specs.Option.{option_map_or}
use Rattle.class_lookup.specs.Hierarchy.{superclass}
use Rattle.number_sets.specs.Numbers.{entry}
use Rattle.lists.proofs.Among.{among_at}
use Rattle.class_hierarchy.proofs.Filled.{AreSuperclassesOf, filled_none, filled_more, filled_all, chain_list}
use Rattle.class_hierarchy.proofs.above.superclass_lists.Goals as goal

pub loop-class-init : goal.loop-class-init
loop-class-init c = filled_none (AreSuperclassesOf c.args.classes.now) (length c.args.classes.now) c.in_ok-table.table.items (c.in_ok-table.ensures ∙ ap (λ n. replicate {A = List ℕ} n []) c.class_count.ensures)

pub superclass_list-requires-clause-class : goal.superclass_list-requires-clause-class
superclass_list-requires-clause-class c = c.requires.order.below (get_or c.args.order.now c.loop-class.class-index 0) (among_at c.args.order.now c.loop-class.class-index c.loop-class-test.true)

pub index_mut-requires : goal.index_mut-requires
index_mut-requires c =
    let below = c.requires.order.below (get_or c.args.order.now c.loop-class.class-index 0) (among_at c.args.order.now c.loop-class.class-index c.loop-class-test.true) in
    let long = c.loop-class.invariant.long in
    omega (arith, below, long)

pub loop-class-preserved : goal.loop-class-preserved
loop-class-preserved c =
    let cs = c.args.classes.now in
    let order = c.args.order.now in
    let i = c.loop-class.class-index in
    let n = get_or order i 0 in
    let table = c.loop-class.table.items in
    let below = c.requires.order.below n (among_at order i c.loop-class-test.true) in
    let h = c.new.ensures ∙ (c.in_ok-list.ensures ∙ ap (λ (t : List (List ℕ)). n ∷ option_map_or (entry t) (superclass cs n) []) c.deref.ensures.value) in
    filled_more (AreSuperclassesOf cs) (length cs) order i table c.new.result c.loop-class-test.true below c.loop-class.invariant
    (chain_list cs c.requires.acyclic order c.requires.order i table c.loop-class-test.true c.loop-class.invariant c.new.result h)

pub returns-clause-superclasses : goal.returns-clause-superclasses
returns-clause-superclasses c = filled_all (AreSuperclassesOf c.args.classes.now) (length c.args.classes.now) c.args.order.now c.loop-class.class-index c.loop-class.table.items c.loop-class-test.false c.requires.order.all c.loop-class.invariant
