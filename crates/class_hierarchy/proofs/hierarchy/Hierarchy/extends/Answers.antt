use Rattle.std.proofs.Common.{◌<◌, List, length, sym, ap, ◌∙◌, subst}
use Rattle.class_pool.specs.declared.class.ClassFile.{ClassFile}
use Rattle.class_lookup.specs.Hierarchy.{supertypes, extends}
use Rattle.lists.proofs.Finding.{same_among}
use Rattle.class_hierarchy.proofs.Found.{supertypes_read}
use Rattle.class_hierarchy.proofs.hierarchy.Hierarchy.extends.Goals as goal

pub returns : goal.returns
returns c =
    let cs = c.self.inside.classes in
    let lt = subst (λ (x : List ClassFile). c.args.class < length x) (sym c.self.view_is) c.requires in
    let read = supertypes_read cs c.self.inside.above c.self.invariant.1 c.args.class lt c.index.result.now c.index.ensures in
    c.contains.ensures ∙ (same_among c.index.result.now (supertypes cs c.args.class) c.args.other read ∙ ap (λ (x : List ClassFile). extends x c.args.class c.args.other) c.self.view_is)
