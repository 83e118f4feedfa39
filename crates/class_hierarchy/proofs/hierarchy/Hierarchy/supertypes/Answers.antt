use Rattle.std.proofs.Common.{◌<◌, List, ℕ, map, length, sym, ap, ◌∙◌, subst}
use Rattle.std.specs.Prelude.{nat_eq}
use Rattle.std.specs.List.{IsDistinct}
use Rattle.class_pool.specs.declared.class.ClassFile.{ClassFile}
use Rattle.class_lookup.specs.Lists.{first_some}
use Rattle.class_lookup.specs.Hierarchy.{supertypes}
use Rattle.class_hierarchy.proofs.Found.{supertypes_read}
use Rattle.class_hierarchy.proofs.EachOnceLemmas.{once_same}
use Rattle.class_hierarchy.proofs.hierarchy.Hierarchy.supertypes.Goals as goal

pub returns-clause-once : goal.returns-clause-once
returns-clause-once c = subst (λ (xs : List ℕ). IsDistinct nat_eq xs) (sym c.as_slice.ensures) c.is_distinct.ensures

pub returns-clause-search : goal.returns-clause-search
returns-clause-search c = λ find.
    let cs = c.self.inside.classes in
    let lt = subst (λ (x : List ClassFile). c.args.class < length x) (sym c.self.view_is) c.requires in
    ap (λ (xs : List ℕ). first_some (map find xs)) c.as_slice.ensures
    ∙ (supertypes_read cs c.self.inside.above c.self.invariant.1 c.args.class lt c.index-list.result.now c.index-list.ensures find
    ∙ ap (λ (x : List ClassFile). first_some (map find (supertypes x c.args.class))) c.self.view_is)

pub returns-clause-list : goal.returns-clause-list
returns-clause-list c = once_same c.as_slice.result.now (supertypes c.args.self.now c.args.class) (returns-clause-once c) (returns-clause-search c)
