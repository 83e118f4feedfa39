use Rattle.std.proofs.Common.{List, ap, ◌∙◌, arith}
use Rattle.class_pool.specs.declared.class.ClassFile.{ClassFile}
use Rattle.class_lookup.specs.Hierarchy.{is_subclass}
use Rattle.class_hierarchy.proofs.Filled.{superclass_below}
use Rattle.class_hierarchy.proofs.Found.{superclasses_read, subclass_read}
use Rattle.class_hierarchy.proofs.hierarchy.Hierarchy.is_subclass.Goals as goal

pub index-requires : goal.index-requires
index-requires c =
    let below = superclass_below c.self.inside.classes c.args.class c.in-Some.upper c.in-Some.ensures in
    let long = c.self.invariant.1.superclasses_long in
    omega (arith, below, long)

pub returns-in-Some : goal.returns-in-Some
returns-in-Some c =
    let cs = c.self.inside.classes in
    let below = superclass_below cs c.args.class c.in-Some.upper c.in-Some.ensures in
    let read = c.as_slice.ensures ∙ superclasses_read cs c.self.inside.above c.self.invariant.1 c.in-Some.upper below c.index.result.now c.index.ensures in
    c.contains.ensures.value ∙ (subclass_read cs c.args.class c.args.other c.in-Some.upper c.in-Some.ensures c.as_slice.result.now read
    ∙ ap (λ (x : List ClassFile). is_subclass x c.args.class c.args.other) c.self.view_is)
